-- Lines on the live state leave the states in memory, and rounds go on.
use Rattle.std.proofs.Common.{◌≡◌, ◌==◌, ◌≤◌, ◌<◌, ◌+◌, ℕ, Bool, true, false, not, ◌&&◌, nat_le, nat_lt, List, [], ◌∷◌, ◌++◌, length, Some, None, Result, Ok, Err, refl, ap, ◌∙◌, arith}
use Rattle.std.proofs.lemmas.Bool.Decides.{nat_tests}
use Rattle.std.specs.Prelude.{filter}
use Rattle.std.specs.Option.{is_some}
use Rattle.byte_codec.specs.declared.error.NoMemory.{NoMemory}
use Rattle.format_spec.specs.Bytes.{Bytes, path_cmp}
use Rattle.format_spec.specs.declared.limits.TheConstants.{MAX_ENTRIES, MAX_HEIGHT, MAX_HEIGHTS}
use Rattle.std.specs.FinMap.{find, put}
use Rattle.state_spec.specs.State.{is_reserved, has_conflict}
use Rattle.machine_spec.specs.LiveSteps.{put_step}
use Rattle.script_text.specs.declared.command.Command.{Command}
use Rattle.script_text.specs.declared.command.Command.TheVariants as commands
use Rattle.script_text.specs.declared.command.HeightOrLive.TheVariants.{Height}
use Rattle.script_text.specs.declared.reply.Reply.TheVariants as replies
use Rattle.script_text.specs.declared.reply.Refusal.TheVariants as refusals
use Rattle.script_text.specs.declared.reply.Reply.{Reply}
use Rattle.script_text.specs.declared.reply.Refusal.{Refusal}
use Rattle.machine_spec.specs.HeightSteps.{tree_root}
use Rattle.machine_spec.specs.Machine.{Machine, Outcome, now_live, unless, refused_if, without_height}
use Rattle.machine_spec.specs.Step.{step}
use Rattle.state_manager.proofs.Standing.{at_none, at_some, as_many, drops, joins}
use Rattle.state_manager.specs.Kept.{ManagerView, KeepsStates, Performs, held_at}
use Rattle.live_state.specs.StateKept.{StateView, KeepsState, PerformsState, live_of}

-- a line on the live state, and what is held beside that
pub on_live : (old now : ManagerView) (m : Machine) (command : Command) (result : Result Reply NoMemory) → KeepsStates old m → now.stopped ≡ old.stopped → now.memory ≡ old.memory → now.store ≡ old.store
    → (step m command).after.memory ≡ m.memory → (step m command).after.published ≡ m.published → PerformsState result now.live m command → Performs result now m command
on_live old now m command (Err e) k closed memory store leaves stays h = tt
on_live old now m command (Ok reply) k closed memory store leaves stays h = (
  h.0,
  record {
    usable = rw closed k.usable;
    live = h.1;
    memory = rw (memory, leaves) k.memory;
    published = rw (store, stays) k.published;
  },
  stays,
)

-- a part of the machine that a step leaves
module _ {X : Type 0} (part : Machine → X) where
  refused_leaves : (b : Bool) (r : Refusal) (m : Machine) (act : Machine → Outcome) → part (act m).after ≡ part m → part (refused_if b r m act).after ≡ part m
  refused_leaves true r m act h = refl
  refused_leaves false r m act h = h

  unless_leaves : (checks : List (Bool × Refusal)) (m : Machine) (act : Machine → Outcome) → part (act m).after ≡ part m → part (unless checks m act).after ≡ part m
  unless_leaves [] m act h = h
  unless_leaves (c ∷ cs) m act h = refused_leaves c.0 c.1 m (λ n. unless cs n act) (unless_leaves cs m act h)

  pub leaves_put : (m : Machine) (path : List Bytes) (value : Bytes) → part (record m { live = record m.live { entries = put path_cmp path value m.live.entries } }) ≡ part m → part (put_step m path value).after ≡ part m
  leaves_put m path value h = unless_leaves (
      (is_reserved path, refusals.Reserved)
      ∷ (has_conflict m.live.entries path, refusals.PathConflict)
      ∷ (not (is_some (find path_cmp path m.live.entries)) && nat_le MAX_ENTRIES (length m.live.entries), refusals.TreeFull)
      ∷ []
      ) m (λ m. now_live m (record m.live { entries = put path_cmp path value m.live.entries })) h

-- the states in memory don't matter to the live one
carried : (a : StateView) (m n : Machine) → n.live ≡ m.live → n.height ≡ m.height → KeepsState a (live_of m) → KeepsState a (live_of n)
carried a m n live height k = record {
  version = rw live k.version;
  sorted = rw live k.sorted;
  system = rw live k.system;
  memories = rw live k.memories;
  height = rw height k.height;
}

-- ---- `forget H`

pub forgets_none : (held : ManagerView) (m : Machine) → KeepsStates held m → (h : ℕ) → None ≡ held_at held (Height h) → Performs (Ok (replies.Refused refusals.NoHeight)) held m (commands.Forget h)
forgets_none held m k h e = rw (at_none held m k (Height h) e) (refl, k, refl)

pub forgets : (old now : ManagerView) (m : Machine) → KeepsStates old m → (h : ℕ) (a : StateView) → Some a ≡ held_at old (Height h) → now.stopped ≡ old.stopped → now.store ≡ old.store → now.live ≡ old.live
    → now.memory ≡ filter (λ a. not (a.height == h)) old.memory → Performs (Ok replies.Fine) now m (commands.Forget h)
forgets old now m k h a e closed store live memory =
    let n = at_some old m k (Height h) a e in
    let after : Machine = record m { memory = without_height h m.memory } in
    let keeps : KeepsStates now after = record {
      usable = rw closed k.usable;
      live = rw live (carried old.live m after refl refl k.live);
      memory = rw memory (drops old.memory m.memory h k.memory);
      published = rw store k.published;
    } in
    rw n.2 (refl, keeps, refl)

-- ---- `round`

pub round_many : (held : ManagerView) (m : Machine) → KeepsStates held m → MAX_HEIGHTS ≤ length held.memory → Performs (Ok (replies.Refused refusals.ManyHeights)) held m commands.Round
round_many held m k h =
    let many : nat_le MAX_HEIGHTS (length m.memory) ≡ true = grind (arith, nat_tests, as_many held.memory m.memory k.memory, h) in
    rw many (refl, k, refl)

pub round_high : (held : ManagerView) (m : Machine) → KeepsStates held m → length held.memory < MAX_HEIGHTS → MAX_HEIGHT < held.live.height → Performs (Ok (replies.Refused refusals.HeightLimit)) held m commands.Round
round_high held m k few high =
    let many : nat_le MAX_HEIGHTS (length m.memory) ≡ false = grind (arith, nat_tests, as_many held.memory m.memory k.memory, few) in
    let above : nat_lt MAX_HEIGHT m.height ≡ true = grind (arith, nat_tests, k.live.height, high) in
    rw (many, above) (refl, k, refl)

pub rounds : (old now : ManagerView) (m : Machine) → KeepsStates old m → length old.memory < MAX_HEIGHTS → old.live.height ≤ MAX_HEIGHT → (height : ℕ) (tree : Bytes) → height ≡ old.live.height → tree ≡ tree_root m.live
    → now.stopped ≡ old.stopped → now.store ≡ old.store → now.memory ≡ old.memory ++ old.live ∷ [] → now.live ≡ record old.live { height = old.live.height + 1 }
    → Performs (Ok (replies.Round height tree)) now m commands.Round
rounds old now m k few low height tree height_is tree_is closed store memory live =
    let many : nat_le MAX_HEIGHTS (length m.memory) ≡ false = grind (arith, nat_tests, as_many old.memory m.memory k.memory, few) in
    let above : nat_lt MAX_HEIGHT m.height ≡ false = grind (arith, nat_tests, k.live.height, low) in
    let after : Machine = record m { height = m.height + 1; memory = m.memory ++ (m.height, m.live) ∷ [] } in
    let next : KeepsState (record old.live { height = old.live.height + 1 }) (live_of after) = record {
      version = k.live.version;
      sorted = k.live.sorted;
      system = k.live.system;
      memories = k.live.memories;
      height = ap (λ (n : ℕ). n + 1) k.live.height;
    } in
    let keeps : KeepsStates now after = record {
      usable = rw closed k.usable;
      live = rw live next;
      memory = rw memory (joins old.memory m.memory old.live (m.height, m.live) k.memory k.live);
      published = rw store k.published;
    } in
    rw (many, above) (cc (height_is ∙ k.live.height, tree_is), keeps, refl)
