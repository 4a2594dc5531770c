use Rattle.std.proofs.Common.{◌≡◌, ℕ, ◌<◌, length, get_or, None}
use Rattle.page_delta.proofs.children.Children.all.Given as goal

abbrev pub invariant-loop-place : goal.invariant-loop-place
invariant-loop-place l = (length l.all ≡ 32) × ((k : ℕ) → k < l.place → get_or l.all k None ≡ get_or l.self k None)
