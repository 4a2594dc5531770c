-- Which items are missing after a turn of a sync.
use Rattle.std.proofs.Common.{◌≡◌, ℕ, not, ◌&&◌, ◌||◌, Bool, true, false, if◌then◌else◌, List, [], ◌∷◌, filter, Option, Some, None, Result, Ok, Err, refl, sym, ap, ◌∙◌}
use Rattle.state_spec.specs.Manifest.{Manifest}
use Rattle.state_spec.specs.Root.{MetaManifest, read_meta}
use Rattle.sync_spec.specs.Messages.{Item, meta, Content, Answer, read_answer}
use Rattle.sync_spec.specs.Serving.{Known}
use Rattle.sync_spec.specs.Core.{Core, Wanted, Heard, same_item, core_after_message, core_after_turn, core_after_send, core_after_failure, verdict, next_ask}
use Rattle.sync_spec.specs.Core as core
use Rattle.sync_spec.specs.CoreLaws.{turns, sends, fails, delivers, items_missing}
use Rattle.sync_spec.specs.Events.{Events, Asked, Given, came, nothing, failed, all_went_out, core_after_asks, core_after_ask}
use Rattle.sync_spec.specs.Install.{bytes_had}
use Rattle.sync_spec.specs.Sync.{Sync, Stage, at_meta, at_pieces, at_chunks, at_system, at_memories, Heights, outcome_with, late, peer_fault, content_bytes, known_at, is_right_at}
use Rattle.sync_spec.specs.Sync.{is_for, sync_after_asks, outcome_of_look, outcome_of_message, outcome_of_answer, outcome_of_verdict, outcome_after_item, outcome_of_list, outcome_of_meta, outcome_of_manifest, outcome_of_chunks, outcome_of_turn, outcome_at, sync_step}
use Rattle.sync_spec.specs.SyncLaws.{brings_right, given_brings, message_brings}
use Rattle.sync_spec.proofs.Missing.{step, filter_all}
use Rattle.std.proofs.lemmas.List.Elements.{filter_agree}
use Rattle.std.proofs.lemmas.Option.{none-some, same_Some}

-- ---- asks leave what is missing

pub turn_same : (c : Core) → items_missing (core_after_turn c) ≡ items_missing c
turn_same c = sym (filter_all _) ∙ step c turns (λ _. false) ∙ filter_all _

sent_same : (c : Core) (peer : ℕ) (item : Item) → items_missing (core_after_send c peer item) ≡ items_missing c
sent_same c peer item = sym (filter_all _) ∙ step c (sends peer item) (λ _. false) ∙ filter_all _

unsent_same : (c : Core) (peer : ℕ) → items_missing (core_after_failure c peer) ≡ items_missing c
unsent_same c peer = sym (filter_all _) ∙ step c (fails peer) (λ _. false) ∙ filter_all _

one_ask : (c : Core) (b : Bool) (due : Option (ℕ × Item)) → items_missing (core_after_ask c b due) ≡ items_missing c
one_ask c b None = refl
one_ask c true (Some due) = sent_same c due.0 due.1
one_ask c false (Some due) = unsent_same c due.0

pub all_asks : (c : Core) (asked : List Asked) → items_missing (core_after_asks c asked) ≡ items_missing c
all_asks c [] = refl
all_asks c (a ∷ asked) = all_asks (core_after_ask c a.went_out (next_ask c)) asked ∙ one_ask c a.went_out (next_ask c)

-- ---- a list that stays the current one

module _ (heights : Heights) (t : Sync) where
  same_core : (s : Sync) → Some s ≡ Some t → t.core ≡ s.core
  same_core s e = ap (λ (x : Sync). x.core) (sym (same_Some s t e))

  same_stage : (s : Sync) → Some s ≡ Some t → s.stage ≡ t.stage
  same_stage s e = ap (λ (x : Sync). x.stage) (same_Some s t e)

  pieces_not_meta : (m : MetaManifest) → at_pieces m ≡ at_meta → ⊥
  pieces_not_meta m e = cc

  chunks_not_pieces : (m : Manifest) (n : MetaManifest) → at_chunks m ≡ at_pieces n → ⊥
  chunks_not_pieces m n e = cc

  system_not_pieces : (m : Manifest) (n : MetaManifest) → at_system m ≡ at_pieces n → ⊥
  system_not_pieces m n e = cc

  system_not_chunks : (m n : Manifest) → at_system m ≡ at_chunks n → ⊥
  system_not_chunks m n e = cc

  after_meta : (s : Sync) (r : Option MetaManifest) → (outcome_of_meta s r).after ≡ Some t → t.stage ≡ at_meta → t.core ≡ s.core
  after_meta s None e h = same_core s e
  after_meta s (Some m) e h = absurd (pieces_not_meta m (same_stage _ e ∙ h))

  after_rows : (s : Sync) (m : Manifest) (n : MetaManifest) (missing : List Wanted) → s.stage ≡ at_chunks m → (outcome_of_chunks s m missing).after ≡ Some t → t.stage ≡ at_pieces n → ⊥
  after_rows s m n [] k e h = system_not_pieces m n (same_stage _ e ∙ h)
  after_rows s m n (w ∷ missing) k e h = chunks_not_pieces m n (sym k ∙ same_stage _ e ∙ h)

  after_pieces : (s : Sync) (n : MetaManifest) (r : Result Manifest ℕ) → (outcome_of_manifest heights s r).after ≡ Some t → t.stage ≡ at_pieces n → ⊥
  after_pieces s n (Err place) e h = none-some t e
  after_pieces s n (Ok m) e h = after_rows _ m n _ refl e h

  through : (stage : Stage) (s : Sync) → (outcome_of_list heights s stage).after ≡ Some t → t.stage ≡ stage → t.core ≡ s.core
  through at_meta s e h = after_meta s (read_meta (bytes_had s.had meta)) e h
  through (at_pieces n) s e h = absurd (after_pieces s n _ e h)
  through (at_chunks m) s e h = absurd (system_not_chunks m m (same_stage _ e ∙ h))
  through (at_system m) s e h = same_core s e
  through (at_memories m state left) s e h = same_core s e

  after_one : (s : Sync) (missing : List Wanted) → (outcome_after_item heights s missing).after ≡ Some t → t.stage ≡ s.stage → t.core ≡ s.core
  after_one s [] e h = through s.stage s e h
  after_one s (w ∷ missing) e h = same_core s e

  heard_core : (h : Heard) (s : Sync) (peer : ℕ) (item : Item) (content : Content) → (outcome_of_verdict h heights s peer item content).after ≡ Some t → t.stage ≡ s.stage → t.core ≡ s.core
  heard_core core.took s peer item content e h = after_one (record s { had = (item, content_bytes content) ∷ s.had }) s.core.missing e h
  heard_core core.wrong s peer item content e h = same_core s e
  heard_core core.late s peer item content e h = same_core s e

  -- ---- one message

  brought_by : (c : Core) (peer : ℕ) (j : Item) (right : Bool) → items_missing (core_after_message c peer (Some j) right) ≡ filter (λ i. not (same_item i j && right)) (items_missing c)
  brought_by c peer j true = sym (filter_all _) ∙ step c (delivers peer (Some j) true) (λ _. false) ∙ filter_agree _ _ (λ i. or_and (same_item i j)) (items_missing c)
    where
      or_and : (b : Bool) → not (b || false) ≡ not (b && true)
      or_and true = refl
      or_and false = refl
  brought_by c peer j false = sym (filter_all _) ∙ step c (delivers peer (Some j) false) (λ _. false) ∙ filter_agree _ _ (λ i. or_and (same_item i j)) (items_missing c)
    where
      or_and : (b : Bool) → not (false || false) ≡ not (b && false)
      or_and true = refl
      or_and false = refl

  answer_for : (s : Sync) (peer : ℕ) (a : Answer) (b right : Bool) → (if b then outcome_of_answer heights s peer a.ask.item a.content right else outcome_with late s).after ≡ Some t → t.stage ≡ s.stage
      → items_missing t.core ≡ filter (λ i. not (b && (same_item i a.ask.item && right))) (items_missing s.core)
  answer_for s peer a false right e h = ap items_missing (same_core s e) ∙ sym (filter_all (items_missing s.core))
  answer_for s peer a true right e h = ap items_missing (heard_core (verdict s.core (Some a.ask.item) right) (record s { core = core_after_message s.core peer (Some a.ask.item) right }) peer a.ask.item a.content e h) ∙ brought_by s.core peer a.ask.item right

  one_message : (s : Sync) (peer : ℕ) (r : Option Answer) → (outcome_of_message heights s peer r).after ≡ Some t → t.stage ≡ s.stage → items_missing t.core ≡ filter (λ i. not (message_brings s r i)) (items_missing s.core)
  one_message s peer None e h = ap items_missing (same_core _ e) ∙ no_answer ∙ sym (filter_all (items_missing s.core))
    where
      no_answer : items_missing (core_after_message s.core peer None false) ≡ items_missing s.core
      no_answer = sym (filter_all _) ∙ step s.core (delivers peer None false) (λ _. false) ∙ filter_all _
  one_message s peer (Some a) e h = answer_for s peer a (is_for s a.ask) (is_right_at (known_at s.root s.stage) a.ask.item a.content) e h

  one_look : (s : Sync) (given : List Given) → (outcome_of_look heights s given).after ≡ Some t → t.stage ≡ s.stage → items_missing t.core ≡ filter (λ i. not (given_brings s given i)) (items_missing s.core)
  one_look s [] e h = ap items_missing (same_core s e) ∙ sym (filter_all (items_missing s.core))
  one_look s (nothing ∷ given) e h = ap items_missing (same_core s e) ∙ sym (filter_all (items_missing s.core))
  one_look s (failed ∷ given) e h = ap items_missing (same_core s e) ∙ sym (filter_all (items_missing s.core))
  one_look s (came peer message ∷ given) e h = one_message s peer (read_answer message) e h

  one_turn : (s : Sync) (given : List Given) (b : Bool) → (if b then outcome_of_look heights s given else outcome_with peer_fault s).after ≡ Some t → t.stage ≡ s.stage → items_missing t.core ≡ filter (λ i. not (b && given_brings s given i)) (items_missing s.core)
  one_turn s given true e h = one_look s given e h
  one_turn s given false e h = ap items_missing (same_core s e) ∙ sym (filter_all (items_missing s.core))

  asked_turn : (s : Sync) (ev : Events) → (outcome_of_turn heights s ev).after ≡ Some t → t.stage ≡ s.stage → items_missing t.core ≡ filter (λ i. not (brings_right s ev i)) (items_missing s.core)
  asked_turn s ev e h =
      one_turn (sync_after_asks s ev.asked) ev.given (all_went_out ev.asked) e h
      ∙ ap (λ (is : List Item). filter (λ i. not (brings_right s ev i)) is) (all_asks (core_after_turn s.core) ev.asked ∙ turn_same s.core)

  at_stage : (stage : Stage) (s : Sync) (ev : Events) (known : Known) → s.stage ≡ stage → known_at s.root stage ≡ Some known → (outcome_at stage heights s ev).after ≡ Some t → t.stage ≡ s.stage → items_missing t.core ≡ filter (λ i. not (brings_right s ev i)) (items_missing s.core)
  at_stage at_meta s ev known k n e h = asked_turn s ev e h
  at_stage (at_pieces m) s ev known k n e h = asked_turn s ev e h
  at_stage (at_chunks m) s ev known k n e h = asked_turn s ev e h
  at_stage (at_system m) s ev known k n e h = absurd (none-some known n)
  at_stage (at_memories m state left) s ev known k n e h = absurd (none-some known n)

pub missing_until_right : (heights : Heights) (s t : Sync) (ev : Events) (known : Known) → known_at s.root s.stage ≡ Some known → (sync_step heights s ev).after ≡ Some t → t.stage ≡ s.stage → items_missing t.core ≡ filter (λ i. not (brings_right s ev i)) (items_missing s.core)
unfolding sync_step
missing_until_right heights s t ev known n e h = at_stage heights t s.stage s ev known refl n e h
