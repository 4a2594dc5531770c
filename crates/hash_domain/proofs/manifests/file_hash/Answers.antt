use Rattle.std.proofs.Common.{◌++◌, [], length, take}
use Rattle.std.specs.Prelude.{codes}
use Rattle.std.specs.List.{flat_map}
use Rattle.format_spec.specs.Bytes.{be32, short_string}
use Rattle.format_spec.specs.Hashes.{chunk_sum_text}
use Rattle.hash_domain.proofs.Feeding.{fed_first, fed_more}
use Rattle.hash_domain.proofs.manifests.file_hash.Goals as goal

pub loop-chunk-init : goal.loop-chunk-init
loop-chunk-init c =
    fed_first c.update-2.new.self c.as_slice.result.now c.to_be_bytes.result (short_string (codes "ic-state-file")) (be32 (length c.args.chunks.now))
    c.as_slice.ensures c.to_be_bytes.ensures (c.update-2.ensures _ (c.update.ensures [] c.new-hasher.ensures))

pub loop-chunk-preserved : goal.loop-chunk-preserved
loop-chunk-preserved c =
    let front = short_string (codes "ic-state-file") ++ be32 (length c.args.chunks.now) in
    let xs = c.args.chunks.now in
    let i = c.loop-chunk.chunk-index in
    fed_more c.add_sum.new.hasher chunk_sum_text front xs i c.chunk-item.result c.loop-chunk-test.true c.chunk-item.is
    (c.add_sum.ensures (front ++ flat_map chunk_sum_text (take i xs)) c.loop-chunk.invariant)
