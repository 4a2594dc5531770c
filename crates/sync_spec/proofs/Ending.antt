-- Steps of installing.
use Rattle.std.proofs.Common.{◌≡◌, ℕ, zero, suc, ◌+◌, Bool, true, false, if◌then◌else◌, List, [], ◌∷◌, length, Option, Some, None, Result, Ok, Err, refl, ap, subst, inl, inr, arith}
use Rattle.state_spec.specs.State.{State, SystemPart, IsState}
use Rattle.state_spec.specs.Manifest.{Manifest}
use Rattle.state_spec.specs.Root.{MetaManifest, root_of, read_meta}
use Rattle.sync_spec.specs.Messages.{Item, meta, Content, Answer, read_answer}
use Rattle.sync_spec.specs.Core.{Core, Wanted, Heard, verdict, core_after_message}
use Rattle.sync_spec.specs.Core as core
use Rattle.sync_spec.specs.Events.{Events, Given, came, nothing, failed, all_went_out}
use Rattle.sync_spec.specs.Install.{memories_to_write, system_for, bytes_had}
use Rattle.sync_spec.specs.Sync.{Sync, Stage, at_meta, at_pieces, at_chunks, at_system, at_memories, SyncOutcome, Heights, outcome_with, outcome_at_end, steps_left, outcome_at, sync_step, outcome_of_system, system_had}
use Rattle.sync_spec.specs.Sync.{joined_manifest, content_bytes, known_at, is_right_at, is_for, sync_after_asks, outcome_of_look, outcome_of_message, outcome_of_answer, outcome_of_verdict, outcome_after_item, outcome_of_list, outcome_of_meta, outcome_of_manifest, outcome_of_chunks, outcome_of_turn}
use Rattle.sync_spec.specs.Sync.{none_came, wrong, late, took, install_left, bad_manifest, bad_system, peer_fault, ready}
use Rattle.sync_spec.specs.SyncLaws.{StepsDown, IsReady, ReadyIsTarget, IsAtStage}

read_down : (s : Sync) (m : Manifest) (k : ℕ) (r : Result SystemPart ℕ) → 2 + memories_to_write m ≡ suc (suc k) → StepsDown (suc k) (outcome_of_system s m r)
read_down s m k (Err place) h = inr (place, refl, refl)
read_down s m k (Ok parts) h =
    let e : 1 + memories_to_write m ≡ suc k = omega (arith, h) in inl (_, ap (λ n. install_left n) e, refl, e)

down_at : (stage : Stage) (heights : Heights) (s : Sync) (e : Events) (k : ℕ) → steps_left stage ≡ suc (suc k) → StepsDown (suc k) (outcome_at stage heights s e)
down_at at_meta heights s e k h = absurd (omega (arith, h))
down_at (at_pieces m) heights s e k h = absurd (omega (arith, h))
down_at (at_chunks m) heights s e k h = absurd (omega (arith, h))
down_at (at_system m) heights s e k h = read_down s m k (system_for m (system_had s m)) h
down_at (at_memories m state zero) heights s e k h = absurd (omega (arith, h))
down_at (at_memories m state (suc left)) heights s e k h =
    let same : left ≡ k = omega (arith, h) in inl (_, ap (λ n. install_left (suc n)) same, refl, omega (arith, same))

pub steps_down : (heights : Heights) (s : Sync) (e : Events) (k : ℕ) → steps_left s.stage ≡ suc (suc k) → StepsDown (suc k) (sync_step heights s e)
unfolding sync_step
steps_down heights s e k h = down_at s.stage heights s e k h

last_at : (stage : Stage) (heights : Heights) (s : Sync) (e : Events) → steps_left stage ≡ 1 → IsReady (outcome_at stage heights s e)
last_at at_meta heights s e h = absurd (omega (arith, h))
last_at (at_pieces m) heights s e h = absurd (omega (arith, h))
last_at (at_chunks m) heights s e h = absurd (omega (arith, h))
last_at (at_system m) heights s e h = absurd (omega (arith, h))
last_at (at_memories m state zero) heights s e h = (state, refl, refl)
last_at (at_memories m state (suc left)) heights s e h = absurd (omega (arith, h))

pub last_step : (heights : Heights) (s : Sync) (e : Events) → steps_left s.stage ≡ 1 → IsReady (sync_step heights s e)
unfolding sync_step
last_step heights s e h = last_at s.stage heights s e h

-- ---- only the last step has a state ready

abbrev NotReady : SyncOutcome → Type 0
NotReady o = (state : State) → o.told ≡ ready state → ⊥

installing : (s : Sync) (k : ℕ) → NotReady (outcome_with (install_left k) s)
installing s k state e = cc

taking : (s : Sync) (k : ℕ) → NotReady (outcome_with (took k) s)
taking s k state e = cc

is_late : (s : Sync) → NotReady (outcome_with late s)
is_late s state e = cc

is_wrong : (s : Sync) (peer : ℕ) → NotReady (outcome_with (wrong peer) s)
is_wrong s peer state e = cc

is_none : (s : Sync) → NotReady (outcome_with none_came s)
is_none s state e = cc

is_fault : (s : Sync) → NotReady (outcome_with peer_fault s)
is_fault s state e = cc

told_took : (k : ℕ) (state : State) → took k ≡ ready state → ⊥
told_took k state e = cc

told_left : (k : ℕ) (state : State) → install_left k ≡ ready state → ⊥
told_left k state e = cc

told_wrong : (peer : ℕ) (state : State) → wrong peer ≡ ready state → ⊥
told_wrong peer state e = cc

no_manifest : (place : ℕ) → NotReady (outcome_at_end (bad_manifest place))
no_manifest place state e = cc

no_system : (place : ℕ) → NotReady (outcome_at_end (bad_system place))
no_system place state e = cc

module _ (heights : Heights) where
  rows_not : (s : Sync) (m : Manifest) (missing : List Wanted) → NotReady (outcome_of_chunks s m missing)
  rows_not s m [] = installing (record s { stage = at_system m }) (steps_left (at_system m))
  rows_not s m (w ∷ missing) = taking s (length (w ∷ missing))

  manifest_not : (s : Sync) (r : Result Manifest ℕ) → NotReady (outcome_of_manifest heights s r)
  manifest_not s (Err place) = no_manifest place
  manifest_not s (Ok m) = rows_not _ m _

  pieces_not : (s : Sync) (r : Option MetaManifest) → NotReady (outcome_of_meta s r)
  pieces_not s None = is_late s
  pieces_not s (Some m) = told_took (length m.pieces)

  through_not : (stage : Stage) (s : Sync) → NotReady (outcome_of_list heights s stage)
  through_not at_meta s = pieces_not s (read_meta (bytes_had s.had meta))
  through_not (at_pieces m) s = manifest_not s (joined_manifest m s.had)
  through_not (at_chunks m) s = rows_not s m []
  through_not (at_system m) s = is_late s
  through_not (at_memories m state left) s = is_late s

  item_not : (s : Sync) (missing : List Wanted) → NotReady (outcome_after_item heights s missing)
  item_not s [] = through_not s.stage s
  item_not s (w ∷ missing) = taking s (length (w ∷ missing))

  heard_not : (h : Heard) (s : Sync) (peer : ℕ) (item : Item) (content : Content) → NotReady (outcome_of_verdict h heights s peer item content)
  heard_not core.took s peer item content = item_not (record s { had = (item, content_bytes content) ∷ s.had }) s.core.missing
  heard_not core.wrong s peer item content = is_wrong s peer
  heard_not core.late s peer item content = is_late s

  for_not : (s : Sync) (peer : ℕ) (a : Answer) (b right : Bool) → NotReady (if b then outcome_of_answer heights s peer a.ask.item a.content right else outcome_with late s)
  for_not s peer a false right = is_late s
  for_not s peer a true right = heard_not (verdict s.core (Some a.ask.item) right) (record s { core = core_after_message s.core peer (Some a.ask.item) right }) peer a.ask.item a.content

  message_not : (s : Sync) (peer : ℕ) (r : Option Answer) → NotReady (outcome_of_message heights s peer r)
  message_not s peer None = told_wrong peer
  message_not s peer (Some a) = for_not s peer a (is_for s a.ask) (is_right_at (known_at s.root s.stage) a.ask.item a.content)

  look_not : (s : Sync) (given : List Given) → NotReady (outcome_of_look heights s given)
  look_not s [] = is_none s
  look_not s (nothing ∷ given) = is_none s
  look_not s (failed ∷ given) = is_fault s
  look_not s (came peer message ∷ given) = message_not s peer (read_answer message)

  given_not : (s : Sync) (given : List Given) (b : Bool) → NotReady (if b then outcome_of_look heights s given else outcome_with peer_fault s)
  given_not s given true = look_not s given
  given_not s given false = is_fault s

  turn_not : (s : Sync) (e : Events) → NotReady (outcome_of_turn heights s e)
  turn_not s e = given_not (sync_after_asks s e.asked) e.given (all_went_out e.asked)

  read_not : (s : Sync) (m : Manifest) (r : Result SystemPart ℕ) → NotReady (outcome_of_system s m r)
  read_not s m (Err place) = no_system place
  read_not s m (Ok parts) = told_left (1 + memories_to_write m)

  ready_inj : (s t : State) → ready s ≡ ready t → s ≡ t
  ready_inj s t e = cc

  ready_at : (stage : Stage) (s : Sync) (e : Events) → IsAtStage stage s → (state : State) → (outcome_at stage heights s e).told ≡ ready state → IsState state × (root_of state ≡ s.root)
  ready_at at_meta s e known state h = absurd (turn_not s e state h)
  ready_at (at_pieces m) s e known state h = absurd (turn_not s e state h)
  ready_at (at_chunks m) s e known state h = absurd (turn_not s e state h)
  ready_at (at_system m) s e known state h = absurd (read_not s m (system_for m (system_had s m)) state h)
  ready_at (at_memories m T (suc left)) s e known state h = absurd (told_left (suc left) state h)
  ready_at (at_memories m T zero) s e known state h =
      let P : State → Type 0 = λ x. IsState x × (root_of x ≡ s.root) in subst P (ready_inj T state h) (known.1, known.2)

pub ready_is_target : (heights : Heights) (s : Sync) (e : Events) → ReadyIsTarget heights s e
unfolding sync_step
ready_is_target heights s e sound state h = ready_at heights s.stage s e sound.stage state h
