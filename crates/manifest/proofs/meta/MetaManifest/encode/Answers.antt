use Rattle.std.proofs.Common.{◌≡◌, ◌≤◌, ◌∙◌, ◌++◌, List, length, ap, subst}
use Rattle.format_spec.specs.Bytes.{Bytes, be32}
use Rattle.state_spec.specs.Root.{MetaManifest}
use Rattle.manifest.proofs.Writing.{wrote_all}
use Rattle.manifest.proofs.meta.MetaManifest.encode.Goals as goal

pub returns : goal.returns
returns c =
    let pieces = c.args.self.now.pieces in
    let same : c.deref-hash-items.result.now ≡ pieces = c.deref-hash-items.ensures.value ∙ ap (λ (m : MetaManifest). m.pieces) c.self.view_is in
    let le : length pieces ≤ c.loop-hash.hash-index = subst (λ (xs : List Bytes). length xs ≤ c.loop-hash.hash-index) same c.loop-hash-test.false in
    c.into_blob.ensures
    ∙ wrote_all (λ (hash : Bytes). hash) (be32 c.args.self.now.version ++ be32 (length pieces)) c.loop-hash.out pieces c.loop-hash.hash-index le c.loop-hash.invariant
