use Rattle.std.proofs.Common.{◌≡◌, ℕ, ◌+◌, ◌<◌, get_or, vec_len, Some, None}
use Rattle.slot_links.proofs.links.first_owners.Given as goal

abbrev pub invariant-loop-item : goal.invariant-loop-item
invariant-loop-item l = (vec_len l.owners ≡ l._item) × ((n : ℕ) → n < l._item → get_or l.owners.items n None ≡ None)

abbrev pub invariant-loop-list : goal.invariant-loop-list
invariant-loop-list l = (vec_len l.owners ≡ l.items + l.list) × ((n : ℕ) → n < l.items → get_or l.owners.items n None ≡ None) × ((k : ℕ) → k < l.list → get_or l.owners.items (l.items + k) None ≡ Some k)
