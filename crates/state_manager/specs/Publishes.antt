-- What publishing a state does.
use Rattle.std.specs.Prelude.{◌≡◌, ℕ, Bool, List, [], ◌∷◌, ◌++◌, Result, IsTrue, IfOk, OnOk}
use Rattle.format_spec.specs.Bytes.{Bytes}
use Rattle.state_spec.specs.State.{State}
use Rattle.state_spec.specs.Root.{root_of}
use Rattle.store_spec.specs.Image.{Published}
use Rattle.disk_model.specs.State.{IsSettled}
use Rattle.disk_model.specs.Spending.{Spends}
use Rattle.disk_model.specs.View.{DiskView, LeavesOnly}
use Rattle.disk_model.specs.declared.disk.DiskError.{DiskError}
use Rattle.height_store.specs.Store.{Store, GivesFew}
use Rattle.height_store.specs.Kept.{MatchesFiles, KeepsHeights, StandsForEither}
use Rattle.whole_state.specs.Whole.{whole}
use Rattle.machine_spec.specs.Costs.{whole_bytes}
use Rattle.live_state.specs.StateKept.{StateView, KeepsState}

-- What publishing a state at its height does: every image meanwhile stands for the heights before or those after, at most
-- 2,048 numbers are given, and at Ok the height is published, with the root of the state, and just its bytes were appended.
pub record Publishes (tells : Bool) (held : StateView) (old new : Store) (before after : DiskView) (result : Result Bytes DiskError) : Type 0 where
  pub root : (k : ℕ × State) → KeepsState held k → IfOk result (λ root. root ≡ root_of k.1)
  pub stands : IsTrue tells → (ps : List Published) (k : ℕ × State) → KeepsState held k → IsSettled before.state → KeepsHeights old.heights before.state ps
      → OnOk result (IsSettled after.state × KeepsHeights new.heights after.state (ps ++ whole held.height k.1 ∷ []))
  pub images : IsTrue tells → (ps : List Published) (k : ℕ × State) → KeepsState held k → IsSettled before.state → KeepsHeights old.heights before.state ps
      → LeavesOnly before after (StandsForEither ps (ps ++ whole held.height k.1 ∷ []))
  pub over : IsTrue tells → OnOk result (MatchesFiles new after.state.files)
  pub spends : IsTrue tells → (k : ℕ × State) → KeepsState held k → OnOk result (Spends (whole_bytes k.1) 0 before after)
  pub numbers_given : GivesFew old new
