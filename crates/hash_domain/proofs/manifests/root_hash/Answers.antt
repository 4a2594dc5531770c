use Rattle.std.proofs.Common.{◌++◌, [], length, take, refl}
use Rattle.std.specs.Prelude.{codes}
use Rattle.std.specs.List.{flat_map}
use Rattle.format_spec.specs.Bytes.{Bytes, be32, short_string}
use Rattle.hash_domain.proofs.Feeding.{fed_second, fed_more}
use Rattle.hash_domain.proofs.manifests.root_hash.Goals as goal

pub loop-piece-init : goal.loop-piece-init
loop-piece-init c =
    fed_second c.update-3.new.self (short_string (codes "ic-state-meta-manifest")) c.to_be_bytes.result c.to_be_bytes-2.result (short_string (codes "ic-state-meta-manifest")) (be32 c.args.version) (be32 (length c.args.pieces.now))
    refl c.to_be_bytes.ensures c.to_be_bytes-2.ensures (c.update-3.ensures _ (c.update-2.ensures _ (c.update.ensures [] c.new-hasher.ensures)))

pub loop-piece-preserved : goal.loop-piece-preserved
loop-piece-preserved c =
    let front = short_string (codes "ic-state-meta-manifest") ++ (be32 c.args.version ++ be32 (length c.args.pieces.now)) in
    let xs = c.args.pieces.now in
    let i = c.loop-piece.piece-index in
    fed_more c.add_hash.new.hasher (λ (hash : Bytes). hash) front xs i c.piece-item.result c.loop-piece-test.true c.piece-item.is
    (c.add_hash.ensures (front ++ flat_map (λ (hash : Bytes). hash) (take i xs)) c.loop-piece.invariant)
