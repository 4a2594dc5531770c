-- `purge H`.
use Rattle.std.proofs.Common.{◌≡◌, ◌==◌, ℕ, Bool, true, false, List, [], ◌∷◌, Result, Ok, Err, refl, ◌∙◌, ap, sym, subst, inl, inr}
use Rattle.std.proofs.lemmas.Bool.{cases_Bool, false≢true}
use Rattle.std.specs.List.{AllZip}
use Rattle.std.specs.Option.{is_some, option_map_or}
use Rattle.std.specs.Prelude.{◌⊎◌, ◌↔◌, IsTrue}
use Rattle.std.specs.Result.{IsErrOf, OnOk}
use Rattle.store_spec.specs.Image.{Published, without_published}
use Rattle.disk_model.specs.declared.disk.DiskError.{DiskError}
use Rattle.disk_model.specs.declared.disk.DiskError.TheVariants as disk
use Rattle.disk_model.specs.State.{IsImageNow, IsSettled}
use Rattle.disk_model.specs.Spending.{Spends}
use Rattle.disk_model.specs.View.{DiskView, LeavesOnly}
use Rattle.height_store.specs.declared.error.StoreError.{StoreError}
use Rattle.height_store.specs.declared.error.StoreError.TheVariants as store
use Rattle.height_store.specs.Kept.{MatchesFiles, KeepsHeights, StandsForEither}
use Rattle.height_store.specs.Store.{StoredHeight, GivesFew, height_at, is_newest}
use Rattle.height_store.specs.KnownLaws.{kept_known}
use Rattle.height_store.specs.Known.{KnowsHeight}
use Rattle.script_text.specs.declared.command.Command.TheVariants as commands
use Rattle.script_text.specs.declared.reply.Reply.{Reply}
use Rattle.script_text.specs.declared.reply.Reply.TheVariants as replies
use Rattle.script_text.specs.declared.reply.Refusal.{Refusal}
use Rattle.script_text.specs.declared.reply.Refusal.TheVariants as refusals
use Rattle.machine_spec.specs.Machine.{Machine, Outcome, outcome_of, newest}
use Rattle.machine_spec.specs.Sound.{IsSound}
use Rattle.machine_spec.specs.Step.{step}
use Rattle.machine_spec.proofs.StepsKept.{step_keeps}
use Rattle.state_manager.specs.Causes.{purge_reply}
use Rattle.state_manager.specs.Kept.{ManagerView, DoesLine, Keeps, KeepsStates, PerformsOn}
use Rattle.state_manager.proofs.DiskLines.{apart_line, height_absent, height_there, live_beside}

-- what the store answers, and the reply
abbrev pub RepliesTo : {T : Type 0} → Result T StoreError → Result Reply DiskError → Type 0
RepliesTo (Ok x) reply = reply ≡ Ok replies.Fine
RepliesTo (Err e) reply = reply ≡ purge_reply e

newest_alike : (hs : List StoredHeight) (ps : List Published) (height : ℕ) → AllZip KnowsHeight hs ps → is_newest hs height ≡ option_map_or (λ p. p.height == height) (newest ps) false
newest_alike [] [] height each = refl
newest_alike [] (p ∷ ps) height each = absurd each
newest_alike (h ∷ hs) [] height each = absurd each
newest_alike (h ∷ []) (p ∷ []) height each = ap (λ (n : ℕ). n == height) each.0.height
newest_alike (h ∷ []) (p ∷ q ∷ ps) height each = absurd each.1
newest_alike (h ∷ i ∷ hs) (p ∷ []) height each = absurd each.1
newest_alike (h ∷ i ∷ hs) (p ∷ q ∷ ps) height each = newest_alike (i ∷ hs) (q ∷ ps) height each.1

not_test : (b : Bool) → b ≡ false → IsTrue b → ⊥
not_test b off on = false≢true (sym off ∙ on)

-- the call on the store, and what the manager holds after it
pub record Purges {T : Type 0} (tells : Bool) (old now : ManagerView) (before after : DiskView) (height : ℕ) (r : Result T StoreError) : Type 0 where
  pub no_height : (r ≡ Err store.NoHeight) ↔ (is_some (height_at old.store.heights height) ≡ false)
  pub last_height : (r ≡ Err store.LastHeight) ↔ IsTrue (is_newest old.store.heights height)
  pub refused : IsErrOf r store.NoHeight ⊎ IsErrOf r store.LastHeight → (now.store ≡ old.store) × (after ≡ before)
  pub numbers_given : GivesFew old.store now.store
  pub over : IsTrue tells → OnOk r (MatchesFiles now.store after.state.files)
  pub spends : IsTrue tells → OnOk r (Spends 0 0 before after)
  pub stands : IsTrue tells → (ps : List Published) → IsSettled before.state → KeepsHeights old.store.heights before.state ps → OnOk r (KeepsHeights now.store.heights after.state (without_published ps height))
  pub images : IsTrue tells → (ps : List Published) → IsSettled before.state → KeepsHeights old.store.heights before.state ps → LeavesOnly before after (StandsForEither ps (without_published ps height))
  pub settled : IsTrue tells → OnOk r (IsSettled before.state → IsSettled after.state)

module _ {T : Type 0} (tells : Bool) (old now : ManagerView) (before after : DiskView) (height : ℕ) (r : Result T StoreError) (reply : Result Reply DiskError) (says : RepliesTo r reply) (p : Purges tells old now before after height r)
    (live : now.live ≡ old.live) (memory : now.memory ≡ old.memory) (closed : now.stopped ≡ old.stopped)
    (over : IsTrue tells → MatchesFiles old.store before.state.files) (sound : IsTrue tells → IsImageNow after.state after.state.files) where
  refuses : (reason : Refusal) → (now.store ≡ old.store) × (after ≡ before) → ((m : Machine) → KeepsStates old m → step m (commands.Purge height) ≡ outcome_of (replies.Refused reason) m) → reply ≡ Ok (replies.Refused reason)
      → DoesLine tells old now before after reply (commands.Purge height)
  refuses reason same does is =
      subst (λ (v : DiskView). DoesLine tells old now before v reply (commands.Purge height)) (sym same.1)
      (subst (λ (x : Result Reply DiskError). DoesLine tells old now before before x (commands.Purge height)) (sym is)
      (apart_line tells old now before (commands.Purge height) over same.0 closed (λ m. refl) (record { form = tt; types = tt }) (Ok (replies.Refused reason))
      (λ m k.
      let states : KeepsStates now m = record { usable = closed ∙ k.usable; live = rw live k.live; memory = rw memory k.memory; published = rw same.0 k.published } in
      subst (λ (o : Outcome). (replies.Refused reason ≡ o.reply) × KeepsStates now o.after × (o.after.published ≡ m.published)) (sym (does m k)) (refl, states, refl))))

  abbrev without : Machine → Machine
  without m = record m { published = without_published m.published height }

  does_purge : is_some (height_at old.store.heights height) ≡ true → is_newest old.store.heights height ≡ false → (m : Machine) → KeepsStates old m → step m (commands.Purge height) ≡ outcome_of replies.Fine (without m)
  does_purge there older m k =
      let s = height_there old.store.heights m.published height k.published there in
      let not_last = sym (newest_alike old.store.heights m.published height k.published) ∙ older in
      rw (s.1, not_last) refl

  -- where nothing was refused, all is well or the call failed
  module _ (no_height : r ≡ Err store.NoHeight → ⊥) (last_height : r ≡ Err store.LastHeight → ⊥) where
    over_after : (P : Type 0) → OnOk r P → OnOk reply P
    over_after P there = go r reply says no_height last_height there
      where
        go : (r : Result T StoreError) (reply : Result Reply DiskError) → RepliesTo r reply → (r ≡ Err store.NoHeight → ⊥) → (r ≡ Err store.LastHeight → ⊥) → OnOk r P → OnOk reply P
        go (Ok x) (Ok y) says a b there = there
        go (Ok x) (Err e) says a b there = tt
        go (Err store.NoHeight) reply says a b there = absurd (a refl)
        go (Err store.LastHeight) reply says a b there = absurd (b refl)
        go (Err store.Fault) (Ok y) says a b there = absurd (cc says)
        go (Err store.Fault) (Err e) says a b there = tt
        go (Err store.Memory) (Ok y) says a b there = absurd (cc says)
        go (Err store.Memory) (Err e) says a b there = tt
        go (Err (store.BadMark h)) (Ok y) says a b there = absurd (cc says)
        go (Err (store.BadMark h)) (Err e) says a b there = tt
        go (Err (store.BadPage n)) (Ok y) says a b there = absurd (cc says)
        go (Err (store.BadPage n)) (Err e) says a b there = tt

    is_fine : (x : Reply) → reply ≡ Ok x → x ≡ replies.Fine
    is_fine x is = go r says no_height last_height
      where
        go : (r : Result T StoreError) → RepliesTo r reply → (r ≡ Err store.NoHeight → ⊥) → (r ≡ Err store.LastHeight → ⊥) → x ≡ replies.Fine
        go (Ok y) says a b = let one : Ok x ≡ Ok replies.Fine = sym is ∙ says in cc one
        go (Err store.NoHeight) says a b = absurd (a refl)
        go (Err store.LastHeight) says a b = absurd (b refl)
        go (Err store.Fault) says a b = let one : Ok x ≡ Err disk.Fault = sym is ∙ says in absurd (cc one)
        go (Err store.Memory) says a b = let one : Ok x ≡ Err disk.Memory = sym is ∙ says in absurd (cc one)
        go (Err (store.BadMark h)) says a b = let one : Ok x ≡ Err disk.Memory = sym is ∙ says in absurd (cc one)
        go (Err (store.BadPage n)) says a b = let one : Ok x ≡ Err disk.Memory = sym is ∙ says in absurd (cc one)

  purges : is_some (height_at old.store.heights height) ≡ true → is_newest old.store.heights height ≡ false → DoesLine tells old now before after reply (commands.Purge height)
  purges there older =
      let a : r ≡ Err store.NoHeight → ⊥ = λ e. false≢true (sym (p.no_height.0 e) ∙ there) in
      let b : r ≡ Err store.LastHeight → ⊥ = λ e. not_test (is_newest old.store.heights height) older (p.last_height.0 e) in
      record {
        reply = λ told m k. answers reply refl a b there older told m k;
        images = λ told m k. subst (λ (o : Outcome). LeavesOnly before after (StandsForEither m.published o.after.published)) (sym (does_purge there older m k.states)) (p.images told m.published k.settled k.heights);
        over = λ told. over_after a b _ (p.over told);
        spends = λ told m k. over_after a b _ (p.spends told);
        numbers_given = p.numbers_given;
        same = closed;
      }
    where
      answers : (x : Result Reply DiskError) → reply ≡ x → (r ≡ Err store.NoHeight → ⊥) → (r ≡ Err store.LastHeight → ⊥) → is_some (height_at old.store.heights height) ≡ true → is_newest old.store.heights height ≡ false
          → IsTrue tells → (m : Machine) → Keeps old before.state m → PerformsOn x now after.state m (commands.Purge height)
      answers (Err e) is a b there older told m k = tt
      answers (Ok y) is a b there older told m k =
          let done : (P : Type 0) → OnOk r P → P = λ P h. subst (λ (x : Result Reply DiskError). OnOk x P) is (over_after a b P h) in
          let heights = done _ (p.stands told m.published k.settled k.heights) in
          let settled = done _ (p.settled told) k.settled in
          let does = does_purge there older m k.states in
          let keeps : Keeps now after.state (without m) = record {
            sound = subst (λ (o : Outcome). IsSound o.after) does (step_keeps m (commands.Purge height) (record { form = tt; types = tt }) k.sound);
            states = record {
              usable = closed ∙ k.states.usable;
              live = rw live (live_beside old.live m (without m) refl refl k.states.live);
              memory = rw memory k.states.memory;
              published = kept_known now.store.heights after.state (without m).published (sound told) heights;
            };
            over = done _ (p.over told);
            settled = settled;
            heights = heights;
          } in
          subst (λ (o : Outcome). (y ≡ o.reply) × Keeps now after.state o.after) (sym does) (is_fine a b y is, keeps)

  pub purge_line : DoesLine tells old now before after reply (commands.Purge height)
  purge_line = elim (cases_Bool (is_some (height_at old.store.heights height))) [
    | inr absent ↦
        let r_is : r ≡ Err store.NoHeight = p.no_height.1 absent in
        refuses refusals.NoHeight (p.refused (inl r_is))
        (λ m k. rw (height_absent old.store.heights m.published height k.published absent) refl) (subst (λ (x : Result T StoreError). RepliesTo x reply) r_is says)
    | inl there ↦ elim (cases_Bool (is_newest old.store.heights height)) [
      | inl last ↦
          let r_is : r ≡ Err store.LastHeight = p.last_height.1 last in
          refuses refusals.LastHeight (p.refused (inr r_is))
          (λ m k. is_last there last m k) (subst (λ (x : Result T StoreError). RepliesTo x reply) r_is says)
      | inr older ↦ purges there older
    ]
  ]
    where
      is_last : is_some (height_at old.store.heights height) ≡ true → is_newest old.store.heights height ≡ true → (m : Machine) → KeepsStates old m → step m (commands.Purge height) ≡ outcome_of (replies.Refused refusals.LastHeight) m
      is_last there last m k =
          let s = height_there old.store.heights m.published height k.published there in
          let newest = sym (newest_alike old.store.heights m.published height k.published) ∙ last in
          rw (s.1, newest) refl
