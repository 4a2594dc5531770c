use Rattle.std.proofs.Common.{◌≡◌, ℕ, ◌<◌, get_or, vec_len}
use Rattle.slot_links.proofs.links.own_numbers.Given as goal

abbrev pub invariant-loop-node : goal.invariant-loop-node
invariant-loop-node l = (vec_len l.numbers ≡ l.node) × ((n : ℕ) → n < l.node → get_or l.numbers.items n 0 ≡ n)
