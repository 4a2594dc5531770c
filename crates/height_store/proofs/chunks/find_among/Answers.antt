use Rattle.std.proofs.Common.{◌∙◌, Option, Some, ℕ, sym, ap}
use Rattle.height_store.proofs.ChunkSources.{here, not_here}
use Rattle.height_store.proofs.chunks.find_among.Goals as goal

pub returns-in-Some : goal.returns-in-Some
returns-in-Some c =
    ap (λ (n : ℕ). found n) c.height.ensures
    ∙ here c.args.size c.args.hash.now c.args.heights.now c.loop-kept.kept-index c.kept-item.result c.in-Some.place c.loop-kept-test.true c.kept-item.is (sym c.find_place.ensures ∙ c.in-Some.is) c.loop-kept.invariant
  where
    found : ℕ → Option (ℕ × ℕ × ℕ)
    found n = Some (n, c.in-Some.place.file, c.in-Some.place.chunk)

pub loop-kept-preserved : goal.loop-kept-preserved
loop-kept-preserved c =
    not_here c.args.size c.args.hash.now c.args.heights.now c.loop-kept.kept-index c.kept-item.result c.loop-kept-test.true c.kept-item.is (sym c.find_place.ensures ∙ c.in_default.is) c.loop-kept.invariant
