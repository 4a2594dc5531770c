-- What is so of each round of a memory after a write.
use Rattle.std.proofs.Common.{ℕ, List, [], ◌∷◌, length, sym, subst, arith}
use Rattle.std.specs.List.{AllByRecursion}
use Rattle.std.specs.FinMap.{put}
use Rattle.std.specs.FinMap.Entries.{by_order}
use Rattle.std.specs.Ordering.{nat_cmp}
use Rattle.std.specs.declared.cmp.Ordering.{Ordering}
use Rattle.std.specs.declared.cmp.Ordering.TheVariants.{Less, Equal, Greater}
use Rattle.format_spec.specs.Bytes.{Bytes}
use Rattle.state_spec.specs.State.{Memory}
use Rattle.state_spec.specs.Memory.{write, pages_between, stamped_rounds}
use Rattle.state_spec.proofs.Rounds.{Rounds}
use Rattle.state_spec.proofs.Memories.{write_rounds, write_none}

put_each : (P : ℕ × ℕ → Type 0) → (round page : ℕ) → ((p : ℕ) → P (p, round)) → (rs : Rounds) → AllByRecursion P rs → AllByRecursion P (put nat_cmp page round rs)
put_each P round page new [] all = (new page, tt)
put_each P round page new (r ∷ rs) all = by (nat_cmp page r.0) (put_each P round page new rs all.1)
  where
    by : (o : Ordering) → AllByRecursion P (put nat_cmp page round rs) → AllByRecursion P (by_order o ((page, round) ∷ r ∷ rs) ((r.0, round) ∷ rs) (r ∷ put nat_cmp page round rs))
    by Less more = (new page, all)
    by Equal more = (new r.0, all.1)
    by Greater more = (all.0, more)

stamped_each : (P : ℕ × ℕ → Type 0) → (round : ℕ) → ((p : ℕ) → P (p, round)) → (pages : List ℕ) (rs : Rounds) → AllByRecursion P rs → AllByRecursion P (stamped_rounds round pages rs)
stamped_each P round new [] rs all = all
stamped_each P round new (page ∷ pages) rs all = stamped_each P round new pages (put nat_cmp page round rs) (put_each P round page new rs all)

-- a fact of each round, and of the write's, whatever the page
pub write_each_round : (P : ℕ × ℕ → Type 0) → (round : ℕ) (m : Memory) (at : ℕ) (w : Bytes) → ((p : ℕ) → P (p, round)) → AllByRecursion P m.rounds → AllByRecursion P (write round m at w).rounds
write_each_round P round m at [] new all = subst (λ (x : Memory). AllByRecursion P x.rounds) (sym (write_none round m at)) all
write_each_round P round m at (b ∷ w) new all =
    subst (AllByRecursion P) (sym (write_rounds round m at (b ∷ w) (omega arith))) (stamped_each P round new (pages_between at (length (b ∷ w))) m.rounds all)
