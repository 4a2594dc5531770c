use Rattle.std.proofs.Common.{◌≡◌, ◌≤◌, vec_len, vec_capacity}
use Rattle.page_pool.proofs.pool.zero_pages.Given as goal

abbrev pub invariant-loop : goal.invariant-loop
invariant-loop l = (vec_len l.pages ≡ l.counter) × (l.count ≤ vec_capacity l.pages)
