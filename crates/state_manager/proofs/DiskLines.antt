-- Lines that may call the disk.
use Rattle.std.proofs.Common.{◌≡◌, ◌==◌, ◌≤◌, ◌<◌, ◌-◌, ℕ, suc, Bool, true, false, nat_le, List, [], ◌∷◌, ◌++◌, length, Option, Some, None, Result, Ok, Err, refl, ◌∙◌, ap, sym, subst, arith, inl}
use Rattle.std.proofs.lemmas.Bool.{false≢true}
use Rattle.std.proofs.lemmas.Bool.Decides.{nat_tests}
use Rattle.std.specs.List.{AllByRecursion, AllZip, last_or, slice_get}
use Rattle.std.specs.Option.{is_some, option_map_or}
use Rattle.std.specs.Prelude.{IsTrue}
use Rattle.std.specs.Result.{IfOk, IsErr, OnOk}
use Rattle.format_spec.specs.Bytes.{Bytes}
use Rattle.format_spec.specs.declared.limits.TheConstants.{MAX_PUBLISHED}
use Rattle.state_spec.specs.Root.{root_of}
use Rattle.state_spec.specs.State.{State}
use Rattle.store_spec.specs.Image.{Published}
use Rattle.disk_model.specs.Files.{Files}
use Rattle.disk_model.specs.Laws.{IsSound}
use Rattle.disk_model.specs.OnlyReads.{OnlyReads, reads_only_leave, reads_only_none}
use Rattle.disk_model.specs.Moments.{then}
use Rattle.disk_model.specs.Spending.{Spends, spends_looks}
use Rattle.disk_model.specs.State.{DiskState, IsImageNow, IsSettled}
use Rattle.disk_model.specs.View.{DiskView, LeavesOnly}
use Rattle.disk_model.specs.declared.disk.DiskError.{DiskError}
use Rattle.height_store.specs.Kept.{MatchesFiles, KeepsHeights, ShowsHeight, StandsForEither}
use Rattle.height_store.specs.Laws.{kept_stands}
use Rattle.height_store.specs.Store.{StoredHeight, height_at, heights_in}
use Rattle.height_store.specs.KnownLaws.{kept_known}
use Rattle.whole_state.specs.Whole.{whole}
use Rattle.height_store.specs.Known.{KnowsHeight}
use Rattle.script_text.specs.Commands.{IsCommand}
use Rattle.script_text.specs.declared.command.Command.{Command}
use Rattle.script_text.specs.declared.command.Command.TheVariants as commands
use Rattle.script_text.specs.declared.command.HeightOrLive.{HeightOrLive}
use Rattle.script_text.specs.declared.command.HeightOrLive.TheVariants.{Height}
use Rattle.script_text.specs.declared.reply.Reply.{Reply}
use Rattle.script_text.specs.declared.reply.Reply.TheVariants as replies
use Rattle.script_text.specs.declared.reply.Refusal.TheVariants as refusals
use Rattle.machine_spec.specs.Costs.{appends, reads, whole_bytes}
use Rattle.machine_spec.specs.Machine.{Machine, Outcome, outcome_of, anew, newest, published_at, resumed_at, start}
use Rattle.machine_spec.specs.Sound.{IsSound as IsSoundMachine, AreHeights}
use Rattle.machine_spec.specs.Step.{step}
use Rattle.machine_spec.proofs.StartKept.{start_is_sound}
use Rattle.machine_spec.proofs.StepsKept.{step_keeps}
use Rattle.state_manager.specs.Kept.{ManagerView, DoesLine, Keeps, KeepsEach, KeepsStates, Performs, PerformsOn, newest_bytes, published_height}
use Rattle.live_state.specs.StateKept.{StateView, KeepsState, live_of}
use Rattle.state_manager.specs.Publishes.{Publishes}
use Rattle.state_manager.proofs.Spending.{bytes_found, newest_there, spends_nothing}
use Rattle.state_manager.proofs.Standing.{FoundHeight, PublishedAt, find_height, knows_same, published_some, shows_same}

on_ok_always : {T E : Type 0} (P : Type 0) (result : Result T E) → P → OnOk result P
on_ok_always P (Ok x) p = p
on_ok_always P (Err e) p = tt

pub if_failed : {T E : Type 0} (P : T → Type 0) (result : Result T E) → IsErr result → IfOk result P
if_failed P (Ok x) failed = absurd (false≢true failed)
if_failed P (Err e) failed = tt

on_failed : {T E : Type 0} (P : Type 0) (result : Result T E) → IsErr result → OnOk result P
on_failed P (Ok x) failed = absurd (false≢true failed)
on_failed P (Err e) failed = tt

-- ---- lines that change nothing

module _ (tells : Bool) (held : ManagerView) (before after : DiskView) (result : Result Reply DiskError) (command : Command) where
  pub reads_only_line : (IsTrue tells → MatchesFiles held.store before.state.files) → (IsTrue tells → (most : ℕ) × OnlyReads most before after)
      → (IsTrue tells → (m : Machine) → Keeps held before.state m → OnOk result (Spends (appends m command) (reads m command) before after))
      → (IsTrue tells → (m : Machine) → Keeps held before.state m → IfOk result (λ reply. (reply ≡ (step m command).reply) × ((step m command).after ≡ m)))
      → DoesLine tells held held before after result command
  reads_only_line over reads_only spends reply = record {
    reply = λ told m k. answers result m (subst (λ (s : DiskState). Keeps held s m) (sym (reads_only told).1.state) k) (reply told m k);
    images = λ told m k. reads_only_leave (reads_only told).0 before after (StandsForEither m.published (step m command).after.published) (reads_only told).1 (λ image now. inl (kept_stands held.store.heights before.state m.published k.heights image now));
    over = λ told. on_ok_always _ result (subst (λ (s : DiskState). MatchesFiles held.store s.files) (sym (reads_only told).1.state) (over told));
    spends = spends;
    numbers_given = record { least = omega arith; most = omega arith };
    same = refl;
  }
    where
      answers : (r : Result Reply DiskError) (m : Machine) → Keeps held after.state m → IfOk r (λ reply. (reply ≡ (step m command).reply) × ((step m command).after ≡ m)) → PerformsOn r held after.state m command
      answers (Ok reply) m k h = (h.0, subst (λ (n : Machine). Keeps held after.state n) (sym h.1) k)
      answers (Err e) m k h = tt

-- the disk isn't called
pub still_line : (tells : Bool) (held : ManagerView) (view : DiskView) (result : Result Reply DiskError) (command : Command) → (IsTrue tells → MatchesFiles held.store view.state.files)
    → ((m : Machine) → Keeps held view.state m → appends m command ≡ 0)
    → (IsTrue tells → (m : Machine) → Keeps held view.state m → IfOk result (λ reply. (reply ≡ (step m command).reply) × ((step m command).after ≡ m)))
    → DoesLine tells held held view view result command
still_line tells held view result command over free reply =
    reads_only_line tells held view view result command over (λ told. (0, reads_only_none 0 view)) (λ told m k. on_ok_always _ result (spends_nothing (appends m command) (reads m command) view (free m k))) reply

-- a call failed that changes nothing
pub failed_line : (tells : Bool) (held : ManagerView) (before after : DiskView) (result : Result Reply DiskError) (command : Command) → IsErr result → (IsTrue tells → MatchesFiles held.store before.state.files)
    → (IsTrue tells → (most : ℕ) × OnlyReads most before after) → DoesLine tells held held before after result command
failed_line tells held before after result command failed over reads_only =
    reads_only_line tells held before after result command over reads_only (λ told m k. on_failed _ result failed) (λ told m k. if_failed _ result failed)

-- a line that needs no disk
module _ (tells : Bool) (old now : ManagerView) (view : DiskView) (command : Command) (over : IsTrue tells → MatchesFiles old.store view.state.files) (store : now.store ≡ old.store) (same : now.stopped ≡ old.stopped)
    (free : (m : Machine) → appends m command ≡ 0) (good : IsCommand command) where
  pub apart_line : (result : Result Reply DiskError) → ((m : Machine) → KeepsStates old m → IfOk result (λ reply. Performs (Ok reply) now m command)) → DoesLine tells old now view view result command
  apart_line result performs = record {
    reply = λ told m k. answers result m k (performs m k.states);
    images = λ told m k. reads_only_leave 0 view view (StandsForEither m.published (step m command).after.published) (reads_only_none 0 view) (λ image now. inl (kept_stands old.store.heights view.state m.published k.heights image now));
    over = λ told. on_ok_always _ result (rw store (over told));
    spends = λ told m k. on_ok_always _ result (spends_nothing (appends m command) (reads m command) view (free m));
    numbers_given = rw store (record { least = omega arith; most = omega arith });
    same = same;
  }
    where
      answers : (r : Result Reply DiskError) (m : Machine) → Keeps old view.state m → IfOk r (λ reply. Performs (Ok reply) now m command) → PerformsOn r now view.state m command
      answers (Ok reply) m k h = (
        h.0,
        record {
          sound = step_keeps m command good k.sound;
          states = h.1;
          over = rw store k.over;
          settled = k.settled;
          heights = rw (store, h.2) k.heights;
        },
      )
      answers (Err e) m k h = tt

-- ---- lines that read

-- what the disk shows of a published height that a line asks about
pub shown_some : (held : ManagerView) (s : DiskState) (m : Machine) → IsImageNow s s.files → Keeps held s m → (at : HeightOrLive) (h : StoredHeight) → Some h ≡ published_height held at → PublishedAt (ShowsHeight s.files) m at h
shown_some held s m sound k at h e = published_some (ShowsHeight s.files) (shows_same s.files) held m (k.heights.images s.files sound).each at h e

-- ---- `checkpoint`

-- the last state in memory is the machine's
pub last_kept : (helds : List StateView) (ks : List (ℕ × State)) (a : StateView) → KeepsEach helds ks → Some a ≡ slice_get helds (length helds - 1) → (k : ℕ × State) × (last_or None ks ≡ Some k) × KeepsState a k
last_kept helds ks a each e = from None helds ks each e
  where
    from : (o : Option (ℕ × State)) (helds : List StateView) (ks : List (ℕ × State)) → KeepsEach helds ks → Some a ≡ slice_get helds (length helds - 1) → (k : ℕ × State) × (last_or o ks ≡ Some k) × KeepsState a k
    from o [] ks each e = absurd (cc e)
    from o (b ∷ helds) [] each e = absurd each
    from o (b ∷ []) (k ∷ []) each e = let one : a ≡ b = cc e in (k, refl, subst (λ (x : StateView). KeepsState x k) (sym one) each.0)
    from o (b ∷ []) (k ∷ l ∷ ks) each e = absurd each.1
    from o (b ∷ c ∷ helds) (k ∷ []) each e = absurd each.1
    from o (b ∷ c ∷ helds) (k ∷ l ∷ ks) each e =
        let next : length (b ∷ c ∷ helds) - 1 ≡ suc (length (c ∷ helds) - 1) = omega arith in
        from (Some k) (c ∷ helds) (l ∷ ks) each.1 (subst (λ (i : ℕ). Some a ≡ slice_get (b ∷ c ∷ helds) i) next e)

pub none_kept : (helds : List StateView) (ks : List (ℕ × State)) → KeepsEach helds ks → length helds ≡ 0 → last_or None ks ≡ None
none_kept [] [] each e = refl
none_kept [] (k ∷ ks) each e = absurd each
none_kept (b ∷ helds) ks each e = absurd (omega (arith, e))

pub checkpoint_free : (m : Machine) (helds : List StateView) → KeepsEach helds m.memory → length helds ≡ 0 → appends m commands.Checkpoint ≡ 0
checkpoint_free m helds each none = rw (none_kept helds m.memory each none) refl

pub checkpoint_none : (m : Machine) (helds : List StateView) → KeepsEach helds m.memory → length helds ≡ 0 → step m commands.Checkpoint ≡ outcome_of (replies.Refused refusals.NoHeight) m
checkpoint_none m helds each none = rw (none_kept helds m.memory each none) refl

-- a test of the newest height, as the store and as the machine make it
pub newest_test : (test : ℕ → Bool) (hs : List StoredHeight) (ps : List Published) → AllZip KnowsHeight hs ps → option_map_or test (last_or None (heights_in hs)) false ≡ option_map_or (λ p. test p.height) (newest ps) false
newest_test test hs ps each = from None None refl hs ps each
  where
    from : (o : Option ℕ) (q : Option Published) → option_map_or test o false ≡ option_map_or (λ p. test p.height) q false → (hs : List StoredHeight) (ps : List Published) → AllZip KnowsHeight hs ps
        → option_map_or test (last_or o (heights_in hs)) false ≡ option_map_or (λ p. test p.height) (last_or q ps) false
    from o q e [] [] each = e
    from o q e [] (p ∷ ps) each = absurd each
    from o q e (h ∷ hs) [] each = absurd each
    from o q e (h ∷ hs) (p ∷ ps) each = from (Some h.mark.height) (Some p) (ap test each.0.height) hs ps each.1

pub as_many_heights : (hs : List StoredHeight) (ps : List Published) → AllZip KnowsHeight hs ps → length hs ≡ length ps
as_many_heights [] [] each = refl
as_many_heights [] (p ∷ ps) each = absurd each
as_many_heights (h ∷ hs) [] each = absurd each
as_many_heights (h ∷ hs) (p ∷ ps) each = omega (arith, as_many_heights hs ps each.1)

-- the same live state, beside other published heights
pub live_beside : (a : StateView) (m n : Machine) → n.live ≡ m.live → n.height ≡ m.height → KeepsState a (live_of m) → KeepsState a (live_of n)
live_beside a m n live height k = record {
  version = rw live k.version;
  sorted = rw live k.sorted;
  system = rw live k.system;
  memories = rw live k.memories;
  height = rw height k.height;
}

abbrev pub published_with : Machine → ℕ × State → Machine
published_with m k = record m { published = m.published ++ whole k.0 k.1 ∷ [] }

module _ (tells : Bool) (old : ManagerView) (before : DiskView) (m : Machine) (a : StateView) (last : Some a ≡ slice_get old.memory (length old.memory - 1)) where
  -- whether the height isn't above the newest, as the machine tests it
  low_at : (k : KeepsStates old m) (b : Bool) → option_map_or (λ newest. nat_le a.height newest) (last_or None (heights_in old.store.heights)) false ≡ b
      → option_map_or (λ (p : Published). nat_le (last_kept old.memory m.memory a k.memory last).0.0 p.height) (newest m.published) false ≡ b
  low_at k b low =
      let kk = last_kept old.memory m.memory a k.memory last in
      sym (newest_test (nat_le kk.0.0) old.store.heights m.published k.published) ∙ ap (λ (h : ℕ). option_map_or (nat_le h) (last_or None (heights_in old.store.heights)) false) (sym kk.2.height) ∙ low

  few_at : (k : KeepsStates old m) → length old.store.heights < MAX_PUBLISHED → nat_le MAX_PUBLISHED (length m.published) ≡ false
  few_at k few = grind (arith, nat_tests, as_many_heights old.store.heights m.published k.published, few)

  many_at : (k : KeepsStates old m) → MAX_PUBLISHED ≤ length old.store.heights → nat_le MAX_PUBLISHED (length m.published) ≡ true
  many_at k many = grind (arith, nat_tests, as_many_heights old.store.heights m.published k.published, many)

  -- what the machine does where a height is published
  pub checkpoints : (k : KeepsStates old m) → option_map_or (λ newest. nat_le a.height newest) (last_or None (heights_in old.store.heights)) false ≡ false → length old.store.heights < MAX_PUBLISHED
      → step m commands.Checkpoint ≡ outcome_of (replies.Published (last_kept old.memory m.memory a k.memory last).0.0 (root_of (last_kept old.memory m.memory a k.memory last).0.1)) (published_with m (last_kept old.memory m.memory a k.memory last).0)
  checkpoints k low few = rw ((last_kept old.memory m.memory a k.memory last).1, low_at k false low, few_at k few) refl

  pub checkpoint_appends : (k : KeepsStates old m) → option_map_or (λ newest. nat_le a.height newest) (last_or None (heights_in old.store.heights)) false ≡ false → length old.store.heights < MAX_PUBLISHED
      → appends m commands.Checkpoint ≡ whole_bytes (last_kept old.memory m.memory a k.memory last).0.1
  checkpoint_appends k low few = rw ((last_kept old.memory m.memory a k.memory last).1, low_at k false low, few_at k few) refl

  pub checkpoint_low : (k : KeepsStates old m) → option_map_or (λ newest. nat_le a.height newest) (last_or None (heights_in old.store.heights)) false ≡ true
      → step m commands.Checkpoint ≡ outcome_of (replies.Refused refusals.HeightLow) m
  checkpoint_low k low = rw ((last_kept old.memory m.memory a k.memory last).1, low_at k true low) refl

  pub checkpoint_low_free : (k : KeepsStates old m) → option_map_or (λ newest. nat_le a.height newest) (last_or None (heights_in old.store.heights)) false ≡ true → appends m commands.Checkpoint ≡ 0
  checkpoint_low_free k low = rw ((last_kept old.memory m.memory a k.memory last).1, low_at k true low) refl

  pub checkpoint_many : (k : KeepsStates old m) → option_map_or (λ newest. nat_le a.height newest) (last_or None (heights_in old.store.heights)) false ≡ false → MAX_PUBLISHED ≤ length old.store.heights
      → step m commands.Checkpoint ≡ outcome_of (replies.Refused refusals.ManyMarks) m
  checkpoint_many k low many = rw ((last_kept old.memory m.memory a k.memory last).1, low_at k false low, many_at k many) refl

  pub checkpoint_many_free : (k : KeepsStates old m) → option_map_or (λ newest. nat_le a.height newest) (last_or None (heights_in old.store.heights)) false ≡ false → MAX_PUBLISHED ≤ length old.store.heights
      → appends m commands.Checkpoint ≡ 0
  checkpoint_many_free k low many = rw ((last_kept old.memory m.memory a k.memory last).1, low_at k false low, many_at k many) refl

pub as_step : (reply : Reply) (o p : Outcome) (m : Machine) → o ≡ p → reply ≡ p.reply → p.after ≡ m → (reply ≡ o.reply) × (o.after ≡ m)
as_step reply o p m e r a = (r ∙ sym (ap (λ (x : Outcome). x.reply) e), ap (λ (x : Outcome). x.after) e ∙ a)

-- a height is published, or that failed
module _ (tells : Bool) (old now : ManagerView) (before after : DiskView) (a : StateView) (last : Some a ≡ slice_get old.memory (length old.memory - 1))
    (low : option_map_or (λ newest. nat_le a.height newest) (last_or None (heights_in old.store.heights)) false ≡ false) (few : length old.store.heights < MAX_PUBLISHED)
    (live : now.live ≡ old.live) (memory : now.memory ≡ old.memory) (closed : now.stopped ≡ old.stopped)
    (sound : IsTrue tells → IsImageNow after.state after.state.files)
    (root : Result Bytes DiskError) (publishes : Publishes tells a old.store now.store before after root) where
  images_of : IsTrue tells → (m : Machine) → Keeps old before.state m → LeavesOnly before after (StandsForEither m.published (step m commands.Checkpoint).after.published)
  images_of told m k =
      let kk = last_kept old.memory m.memory a k.states.memory last in
      subst (λ (o : Outcome). LeavesOnly before after (StandsForEither m.published o.after.published)) (sym (checkpoints tells old before m a last k.states low few))
      (subst (λ (h : ℕ). LeavesOnly before after (StandsForEither m.published (m.published ++ whole h kk.0.1 ∷ []))) kk.2.height
      (publishes.images told m.published kk.0 kk.2 k.settled k.heights))

  pub checkpoint_failed : (result : Result Reply DiskError) → IsErr result → DoesLine tells old now before after result commands.Checkpoint
  checkpoint_failed result failed = record {
    reply = λ told m k. none result failed m;
    images = images_of;
    over = λ told. on_failed _ result failed;
    spends = λ told m k. on_failed _ result failed;
    numbers_given = publishes.numbers_given;
    same = closed;
  }
    where
      none : (r : Result Reply DiskError) → IsErr r → (m : Machine) → PerformsOn r now after.state m commands.Checkpoint
      none (Ok reply) h m = absurd (false≢true h)
      none (Err e) h m = tt

  pub checkpoint_done : (hash : Bytes) → root ≡ Ok hash → DoesLine tells old now before after (Ok (replies.Published a.height hash)) commands.Checkpoint
  checkpoint_done hash done = record {
    reply = λ told m k.
        let kk = last_kept old.memory m.memory a k.states.memory last in
        let told_root : hash ≡ root_of kk.0.1 = subst (λ (r : Result Bytes DiskError). IfOk r (λ x. x ≡ root_of kk.0.1)) done (publishes.root kk.0 kk.2) in
        let stands : IsSettled after.state × KeepsHeights now.store.heights after.state (m.published ++ whole a.height kk.0.1 ∷ []) =
        subst (λ (r : Result Bytes DiskError). OnOk r (IsSettled after.state × KeepsHeights now.store.heights after.state (m.published ++ whole a.height kk.0.1 ∷ []))) done (publishes.stands told m.published kk.0 kk.2 k.settled k.heights) in
        let heights : KeepsHeights now.store.heights after.state (m.published ++ whole kk.0.0 kk.0.1 ∷ []) = subst (λ (h : ℕ). KeepsHeights now.store.heights after.state (m.published ++ whole h kk.0.1 ∷ [])) kk.2.height stands.1 in
        let does = checkpoints tells old before m a last k.states low few in
        let keeps : Keeps now after.state (published_with m kk.0) = record {
          sound = subst (λ (o : Outcome). IsSoundMachine o.after) does (step_keeps m commands.Checkpoint (record { form = tt; types = tt }) k.sound);
          states = record {
            usable = rw closed k.states.usable;
            live = rw live (live_beside old.live m (published_with m kk.0) refl refl k.states.live);
            memory = rw memory k.states.memory;
            published = kept_known now.store.heights after.state (published_with m kk.0).published (sound told) heights;
          };
          over = subst (λ (r : Result Bytes DiskError). OnOk r (MatchesFiles now.store after.state.files)) done (publishes.over told);
          settled = stands.0;
          heights = heights;
        } in
        subst (λ (o : Outcome). (replies.Published a.height hash ≡ o.reply) × Keeps now after.state o.after) (sym does) (cc (kk.2.height, told_root), keeps);
    images = images_of;
    over = λ told. subst (λ (r : Result Bytes DiskError). OnOk r (MatchesFiles now.store after.state.files)) done (publishes.over told);
    spends = λ told m k.
        let kk = last_kept old.memory m.memory a k.states.memory last in
        subst (λ (n : ℕ). Spends n 0 before after) (sym (checkpoint_appends tells old before m a last k.states low few))
        (subst (λ (r : Result Bytes DiskError). OnOk r (Spends (whole_bytes kk.0.1) 0 before after)) done (publishes.spends told kk.0 kk.2));
    numbers_given = publishes.numbers_given;
    same = closed;
  }

-- ---- `reset`

-- what the machine has at a height that is published, or isn't
pub height_there : (hs : List StoredHeight) (ps : List Published) (height : ℕ) → AllZip KnowsHeight hs ps → is_some (height_at hs height) ≡ true → (s : State) × (published_at height ps ≡ Some s)
height_there hs ps height each there = by (height_at hs height) (find_height KnowsHeight knows_same hs ps height each) there
  where
    by : (o : Option StoredHeight) → FoundHeight KnowsHeight o height ps → is_some o ≡ true → (s : State) × (published_at height ps ≡ Some s)
    by None f there = absurd (false≢true there)
    by (Some h) f there = (f.published.state, f.state)

pub height_absent : (hs : List StoredHeight) (ps : List Published) (height : ℕ) → AllZip KnowsHeight hs ps → is_some (height_at hs height) ≡ false → published_at height ps ≡ None
height_absent hs ps height each absent = by (height_at hs height) (find_height KnowsHeight knows_same hs ps height each) absent
  where
    by : (o : Option StoredHeight) → FoundHeight KnowsHeight o height ps → is_some o ≡ false → published_at height ps ≡ None
    by None f absent = f
    by (Some h) f absent = absurd (false≢true (sym absent))

pub reset_none : (m : Machine) (height : ℕ) → published_at height m.published ≡ None → step m (commands.Reset height) ≡ outcome_of (replies.Refused refusals.NoHeight) m
reset_none m height none = rw none refl

pub reset_low : (m : Machine) (height : ℕ) (s : State) → published_at height m.published ≡ Some s → option_map_or (λ p. p.height == height) (newest m.published) false ≡ false → step m (commands.Reset height) ≡ outcome_of (replies.Refused refusals.HeightLow) m
reset_low m height s there low = rw (there, low) refl

begun_again : (m : Machine) (height : ℕ) (o : Option Published) → option_map_or (λ p. p.height == height) o false ≡ true → resumed_at o m ≡ resumed_at o (anew m.published)
begun_again m height None e = absurd (false≢true e)
begun_again m height (Some p) e = refl

pub resets : (m : Machine) (height : ℕ) (s : State) → published_at height m.published ≡ Some s → option_map_or (λ p. p.height == height) (newest m.published) false ≡ true → step m (commands.Reset height) ≡ outcome_of replies.Fine (start m.published)
resets m height s there last = rw (there, last) (ap (outcome_of replies.Fine) (begun_again m height (newest m.published) last))

-- a store that opens has no state in memory
pub none_in_memory : (ps : List Published) → ((start ps).memory ≡ []) × ((start ps).published ≡ ps)
none_in_memory ps = go (newest ps)
  where
    go : (o : Option Published) → ((resumed_at o (anew ps)).memory ≡ []) × ((resumed_at o (anew ps)).published ≡ ps)
    go None = (refl, refl)
    go (Some p) = (refl, refl)

pub starts : (now : ManagerView) (s : DiskState) (ps : List Published) → IsSound s → now.stopped ≡ None → KeepsState now.live (live_of (start ps))
    → now.memory ≡ [] → MatchesFiles now.store s.files → IsSettled s → KeepsHeights now.store.heights s ps → IsSoundMachine (start ps) → Keeps now s (start ps)
starts now s ps sound usable live memory over settled heights machine =
    let none = none_in_memory ps in
    record {
      sound = machine;
      states = record {
        usable = usable;
        live = live;
        memory = rw (memory, none.0) tt;
        published = rw none.1 (kept_known now.store.heights s ps sound heights);
      };
      over = over;
      settled = settled;
      heights = rw none.1 heights;
    }

pub reset_done : (tells : Bool) (old now : ManagerView) (before after : DiskView) (height : ℕ) → (IsTrue tells → IsImageNow after.state after.state.files) → (IsTrue tells → MatchesFiles old.store before.state.files)
    → (IsTrue tells → OnlyReads (newest_bytes old.store.heights) before after) → is_some (height_at old.store.heights height) ≡ true
    → option_map_or (λ newest. newest == height) (last_or None (heights_in old.store.heights)) false ≡ true
    → now.store ≡ old.store → now.stopped ≡ old.stopped → now.memory ≡ []
    → (IsTrue tells → (ps : List Published) → AllZip (ShowsHeight before.state.files) old.store.heights ps → KeepsState now.live (live_of (start ps))) → (IsTrue tells → IsImageNow before.state before.state.files)
    → DoesLine tells old now before after (Ok replies.Fine) (commands.Reset height)
reset_done tells old now before after height sound over reads_only there last store closed memory live before_sound = record {
  reply = λ told m k.
      let s = height_there old.store.heights m.published height k.states.published there in
      let is_last = sym (newest_test (λ n. n == height) old.store.heights m.published k.states.published) ∙ last in
      let l = reads_only told in
      let state : Keeps now after.state (start m.published) = starts now after.state m.published (sound told) (closed ∙ k.states.usable) (live told m.published (k.heights.images before.state.files (before_sound told)).each) memory
      (rw (l.state, store) (over told)) (rw l.state k.settled) (rw (l.state, store) k.heights) (start_is_sound m.published k.sound.published) in
      subst (λ (o : Outcome). (replies.Fine ≡ o.reply) × Keeps now after.state o.after) (sym (resets m height s.0 s.1 is_last)) (refl, state);
  images = λ told m k. reads_only_leave _ before after (StandsForEither m.published (step m (commands.Reset height)).after.published) (reads_only told) (λ image now. inl (kept_stands old.store.heights before.state m.published k.heights image now));
  over = λ told. let l = reads_only told in rw (l.state, store) (over told);
  spends = λ told m k.
      let is_last = sym (newest_test (λ n. n == height) old.store.heights m.published k.states.published) ∙ last in
      let most : newest_bytes old.store.heights ≡ reads m (commands.Reset height) =
      newest_there old.store.heights height last ∙ bytes_found old m k.states height there ∙ sym (rw is_last refl) in
      subst (λ (n : ℕ). Spends 0 n before after) most (spends_looks _ before after (reads_only told));
  numbers_given = rw store (record { least = omega arith; most = omega arith });
  same = closed;
}

-- ---- opening

-- a call that only looks, behind one after which each image is so
pub reads_only_behind : (most : ℕ) (old mid new : DiskView) (P : Files → Type 0) → LeavesOnly old mid P → OnlyReads most mid new → LeavesOnly old new P
reads_only_behind most old mid new P before reads_only = then old mid new P before (reads_only_leave most mid new P reads_only before.now)

pub opens_keeping : (now : ManagerView) (mid after : DiskState) (ps : List Published) → after ≡ mid → IsImageNow after after.files → now.stopped ≡ None → now.memory ≡ [] → MatchesFiles now.store mid.files → IsSettled mid → KeepsHeights now.store.heights mid ps
    → IsImageNow mid mid.files → (AllZip (ShowsHeight mid.files) now.store.heights ps → KeepsState now.live (live_of (start ps))) → AreHeights ps → Keeps now after (start ps)
opens_keeping now mid after ps same sound usable memory over settled heights mid_sound live may =
    starts now after ps sound usable (live (heights.images mid.files mid_sound).each) memory (rw same over) (rw same settled) (rw same heights) (start_is_sound ps may)
