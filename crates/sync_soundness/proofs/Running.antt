-- A sync keeps its target, and knows what it is to know after any steps.
use Rattle.std.proofs.Common.{◌≡◌, ℕ, zero, suc, ◌||◌, not, filter, ap, if◌then◌else◌, Bool, true, false, List, [], ◌∷◌, IfSome, Option, Some, None, Result, Ok, Err, refl, sym, ◌∙◌, subst}
use Rattle.std.specs.List.{AllByRecursion}
use Rattle.std.specs.Option.{option_and_then, option_map_or}
use Rattle.format_spec.specs.Bytes.{Bytes}
use Rattle.state_spec.specs.State.{State, SameState, SystemPart}
use Rattle.state_spec.specs.Manifest.{Manifest}
use Rattle.state_spec.specs.Root.{MetaManifest, hashed_strings, read_meta}
use Rattle.soundness.proofs.Strings.{or_clash}
use Rattle.soundness.proofs.SameRoot.{same_root}
use Rattle.soundness.proofs.StateBytes.{state_strings}
use Rattle.sync_spec.specs.Messages.{Item, meta, Content, Answer, read_answer}
use Rattle.sync_spec.specs.Core.{Wanted, Heard, verdict, core_after_message}
use Rattle.sync_spec.specs.Core as core
use Rattle.sync_spec.specs.Events.{Events, Given, came, nothing, failed, all_went_out}
use Rattle.sync_spec.specs.Local.{local_hits, manifests_of}
use Rattle.sync_spec.specs.Install.{bytes_had, system_for}
use Rattle.sync_spec.specs.Sync.{Sync, Stage, at_meta, at_pieces, at_chunks, at_system, at_memories, Heights, SyncOutcome, sync_to, outcome_with, late, peer_fault, known_at, is_right_at, is_for, content_bytes}
use Rattle.sync_spec.specs.Sync.{sync_after_asks, outcome_of_look, outcome_of_message, outcome_of_answer, outcome_of_verdict, outcome_after_item, outcome_of_list, outcome_of_meta}
use Rattle.sync_spec.specs.Sync.{outcome_of_manifest, outcome_of_chunks, outcome_at, sync_step, outcome_of_system, outcome_of_memory, with_hits, system_had, joined_manifest}
use Rattle.sync_spec.specs.SyncLaws.{IsSync, brings_right}
use Rattle.sync_soundness.specs.Runs.{Step, IsStep, after_steps, IsRun, StaysAt, was_brought, MissingUntilRight, DoneIsTarget, DoneIsTheState, RunFailsByClash}
use Rattle.sync_spec.specs.CoreLaws.{items_missing}
use Rattle.sync_spec.proofs.Missing.{filter_twice, filter_all}
use Rattle.sync_spec.proofs.Bringing.{missing_until_right}
use Rattle.sync_spec.proofs.Ending.{ready_is_target}
use Rattle.sync_soundness.proofs.Failing.{fails_by_clash}
use Rattle.sync_soundness.proofs.Keeping.{keeps_knowing, begins_knowing}

-- ---- the target

module _ (height : ℕ) (root : Bytes) where
  abbrev IsFor : Sync → Type 0
  IsFor s = (s.height ≡ height) × (s.root ≡ root)

  abbrev Stays : SyncOutcome → Type 0
  Stays o = IfSome o.after IsFor

  module _ (heights : Heights) where
    rows_stay : (s : Sync) (m : Manifest) (missing : List Wanted) → IsFor s → Stays (outcome_of_chunks s m missing)
    rows_stay s m [] h = h
    rows_stay s m (w ∷ missing) h = h

    manifest_stays : (s : Sync) (r : Result Manifest ℕ) → IsFor s → Stays (outcome_of_manifest heights s r)
    manifest_stays s (Err place) h = tt
    manifest_stays s (Ok m) h = rows_stay (with_hits heights s m (local_hits (manifests_of heights) m)) m _ h

    pieces_stay : (s : Sync) (r : Option MetaManifest) → IsFor s → Stays (outcome_of_meta s r)
    pieces_stay s None h = h
    pieces_stay s (Some m) h = h

    through_stays : (stage : Stage) (s : Sync) → IsFor s → Stays (outcome_of_list heights s stage)
    through_stays at_meta s h = pieces_stay s (read_meta (bytes_had s.had meta)) h
    through_stays (at_pieces m) s h = manifest_stays s (joined_manifest m s.had) h
    through_stays (at_chunks m) s h = rows_stay s m [] h
    through_stays (at_system m) s h = h
    through_stays (at_memories m state left) s h = h

    item_stays : (s : Sync) (missing : List Wanted) → IsFor s → Stays (outcome_after_item heights s missing)
    item_stays s [] h = through_stays s.stage s h
    item_stays s (w ∷ missing) h = h

    heard_stays : (k : Heard) (s : Sync) (peer : ℕ) (item : Item) (content : Content) → IsFor s → Stays (outcome_of_verdict k heights s peer item content)
    heard_stays core.took s peer item content h = item_stays (record s { had = (item, content_bytes content) ∷ s.had }) s.core.missing h
    heard_stays core.wrong s peer item content h = h
    heard_stays core.late s peer item content h = h

    answer_stays : (s : Sync) (peer : ℕ) (a : Answer) (b right : Bool) → IsFor s → Stays (if b then outcome_of_answer heights s peer a.ask.item a.content right else outcome_with late s)
    answer_stays s peer a false right h = h
    answer_stays s peer a true right h = heard_stays (verdict s.core (Some a.ask.item) right) (record s { core = core_after_message s.core peer (Some a.ask.item) right }) peer a.ask.item a.content h

    message_stays : (s : Sync) (peer : ℕ) (r : Option Answer) → IsFor s → Stays (outcome_of_message heights s peer r)
    message_stays s peer None h = h
    message_stays s peer (Some a) h = answer_stays s peer a (is_for s a.ask) (is_right_at (known_at s.root s.stage) a.ask.item a.content) h

    look_stays : (s : Sync) (given : List Given) → IsFor s → Stays (outcome_of_look heights s given)
    look_stays s [] h = h
    look_stays s (nothing ∷ given) h = h
    look_stays s (failed ∷ given) h = h
    look_stays s (came peer message ∷ given) h = message_stays s peer (read_answer message) h

    turn_stays : (s : Sync) (e : Events) (b : Bool) → IsFor s → Stays (if b then outcome_of_look heights (sync_after_asks s e.asked) e.given else outcome_with peer_fault (sync_after_asks s e.asked))
    turn_stays s e true h = look_stays (sync_after_asks s e.asked) e.given h
    turn_stays s e false h = h

    system_stays : (s : Sync) (m : Manifest) (r : Result SystemPart ℕ) → IsFor s → Stays (outcome_of_system s m r)
    system_stays s m (Err place) h = tt
    system_stays s m (Ok parts) h = h

    memory_stays : (s : Sync) (m : Manifest) (state : State) (left : ℕ) → IsFor s → Stays (outcome_of_memory s m state left)
    memory_stays s m state zero h = tt
    memory_stays s m state (suc left) h = h

    step_stays : (stage : Stage) (s : Sync) (e : Events) → IsFor s → Stays (outcome_at stage heights s e)
    step_stays at_meta s e h = turn_stays s e (all_went_out e.asked) h
    step_stays (at_pieces m) s e h = turn_stays s e (all_went_out e.asked) h
    step_stays (at_chunks m) s e h = turn_stays s e (all_went_out e.asked) h
    step_stays (at_system m) s e h = system_stays s m (system_for m (system_had s m)) h
    step_stays (at_memories m state left) s e h = memory_stays s m state left h

    on_stays : (s : Sync) (e : Events) → IsFor s → Stays (sync_step heights s e)
    unfolding sync_step
    on_stays s e h = step_stays s.stage s e h

  -- ---- any steps

  abbrev Knows : Sync → Type 0
  Knows s = IsSync s × IsFor s

  run_knows : (steps : List Step) (s t : Sync) → AllByRecursion IsStep steps → Knows s → after_steps s steps ≡ Some t → Knows t
  run_knows [] s t good h e = subst Knows (same e) h
    where
      same : Some s ≡ Some t → s ≡ t
      same e = cc
  run_knows (x ∷ steps) s t good h e = by (sync_step x.heights s x.events).after refl e (λ u k f. run_knows steps u t good.1 k f)
    where
      by : (o : Option Sync) → (sync_step x.heights s x.events).after ≡ o → option_and_then (λ u. after_steps u steps) o ≡ Some t → ((u : Sync) → Knows u → after_steps u steps ≡ Some t → Knows t) → Knows t
      by None is f go = absurd cc
      by (Some u) is f go = go u (keeps_knowing x.heights s x.events good.0.0 good.0.1 h.0 u is, subst (λ (o : Option Sync). IfSome o IsFor) is (on_stays x.heights s x.events h.1)) f

  run_is : (peers : ℕ) (steps : List Step) (s : Sync) → IsRun height root peers steps s → Knows s
  run_is peers steps s run = run_knows steps (sync_to height root peers) s run.good (begins_knowing height root peers run.few_peers, (refl, refl)) run.goes_on

pub done_is_target : (height : ℕ) (root : Bytes) (peers : ℕ) (steps : List Step) (s : Sync) (heights : Heights) (e : Events) → DoneIsTarget height root peers steps s heights e
done_is_target height root peers steps s heights e run state told =
    let k = run_is height root peers steps s run in
    let r = ready_is_target heights s e k.0 state told in
    (r.0, r.1 ∙ k.1.1)

pub done_is_the_state : (height : ℕ) (root : Bytes) (peers : ℕ) (steps : List Step) (s : Sync) (heights : Heights) (e : Events) → DoneIsTheState height root peers steps s heights e
done_is_the_state height root peers steps s heights e run state told other valid is =
    let d = done_is_target height root peers steps s heights e run state told in
    or_clash (SameState other state) (hashed_strings other) (hashed_strings state) (state_strings other valid) (state_strings state d.0) (same_root other state valid d.0 (is ∙ sym d.1))

pub run_fails_by_clash : (height : ℕ) (root : Bytes) (peers : ℕ) (steps : List Step) (s : Sync) (heights : Heights) (e : Events) → RunFailsByClash height root peers steps s heights e
run_fails_by_clash height root peers steps s heights e run strings fails state valid is =
    let k = run_is height root peers steps s run in
    fails_by_clash heights s e k.0 strings fails state valid (is ∙ sym k.1.1)

-- ---- a list of items that stays the current one

stays_now : (stage : Stage) (s : Sync) (steps : List Step) → StaysAt stage s steps → s.stage ≡ stage
stays_now stage s [] h = h
stays_now stage s (x ∷ steps) h = h.0

pub missing_while : (stage : Stage) (steps : List Step) (s t : Sync) → MissingUntilRight stage s t steps
missing_while stage [] s t known k h e = ap (λ (u : Sync). items_missing u.core) (sym (same e)) ∙ sym (filter_all (items_missing s.core))
  where
    same : Some s ≡ Some t → s ≡ t
    same e = cc
missing_while stage (x ∷ steps) s t known k h e = by (sync_step x.heights s x.events).after refl h.1 e (λ u r g f. missing_while stage steps u t known r g f)
  where
    by : (o : Option Sync) → (sync_step x.heights s x.events).after ≡ o → IfSome o (λ u. StaysAt stage u steps) → option_and_then (λ u. after_steps u steps) o ≡ Some t
        → ((u : Sync) → known_at u.root stage ≡ Some known → StaysAt stage u steps → after_steps u steps ≡ Some t → items_missing t.core ≡ filter (λ i. not (was_brought u steps i)) (items_missing u.core))
        → items_missing t.core ≡ filter (λ i. not (brings_right s x.events i || option_map_or (λ u. was_brought u steps i) o false)) (items_missing s.core)
    by None is g f ih = absurd cc
    by (Some u) is g f ih =
        let root : u.root ≡ s.root = (subst (λ (o : Option Sync). IfSome o (IsFor s.height s.root)) is (on_stays s.height s.root x.heights s x.events (refl, refl))).1 in
        let one = missing_until_right x.heights s u x.events known (ap (known_at s.root) h.0 ∙ k) is (stays_now stage u steps g ∙ sym h.0) in
        ih u (ap (λ (r : Bytes). known_at r stage) root ∙ k) g f
        ∙ ap (λ (is : List Item). filter (λ i. not (was_brought u steps i)) is) one
        ∙ filter_twice (brings_right s x.events) (was_brought u steps) (items_missing s.core)
