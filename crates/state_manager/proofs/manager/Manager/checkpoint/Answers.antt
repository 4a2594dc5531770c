use Rattle.std.proofs.Common.{◌≡◌, ◌<◌, ◌-◌, ◌∙◌, ℕ, true, false, nat_le, List, Some, None, Ok, ap, sym, subst, refl, length, arith}
use Rattle.std.specs.List.{AllByRecursion, last_or, slice_get}
use Rattle.std.specs.Option.{option_map_or}
use Rattle.std.specs.Prelude.{IsTrue}
use Rattle.height_store.specs.Kept.{MatchesFiles}
use Rattle.height_store.specs.Store.{heights_in}
use Rattle.script_text.specs.declared.command.Command.TheVariants as commands
use Rattle.script_text.specs.declared.reply.Reply.TheVariants as replies
use Rattle.script_text.specs.declared.reply.Refusal.TheVariants as refusals
use Rattle.state_manager.specs.Kept.{ManagerView, DoesLine}
use Rattle.live_state.specs.StateKept.{StateView}
use Rattle.height_store.specs.Store.{StoredHeight}
use Rattle.format_spec.specs.declared.limits.TheConstants.{MAX_PUBLISHED}
use Rattle.state_manager.proofs.DiskLines.{as_step, checkpoint_done, checkpoint_failed, checkpoint_free, checkpoint_low, checkpoint_low_free, checkpoint_many, checkpoint_many_free, checkpoint_none, still_line}
use Rattle.state_manager.proofs.manager.Manager.checkpoint.Goals as goal

pub returns-in_default-clause-line : goal.returns-in_default-clause-line
returns-in_default-clause-line g c =
    let over : IsTrue g.D.Disk.tells → MatchesFiles c.self.inside.store (g.D.Disk.view c.args.disk.now).state.files = λ told. subst (λ (h : ManagerView). MatchesFiles h.store (g.D.Disk.view c.args.disk.now).state.files) (sym c.self.view_is) (c.requires.over told) in
    subst (λ (h : ManagerView). DoesLine g.D.Disk.tells h h (g.D.Disk.view c.args.disk.now) (g.D.Disk.view c.args.disk.now) (Ok (replies.Refused refusals.NoHeight)) commands.Checkpoint) c.self.view_is
    (still_line g.D.Disk.tells _ (g.D.Disk.view c.args.disk.now) (Ok (replies.Refused refusals.NoHeight)) commands.Checkpoint over
    (λ m k. checkpoint_free m c.self.inside.memory.items k.states.memory (omega (arith, c.in_default.ensures.item.3, ap (λ (l : List StateView). length l) c.deref.ensures.value)))
    (λ told m k. as_step (replies.Refused refusals.NoHeight) _ _ m (checkpoint_none m c.self.inside.memory.items k.states.memory (omega (arith, c.in_default.ensures.item.3, ap (λ (l : List StateView). length l) c.deref.ensures.value))) refl refl))

pub returns-then-is_low-clause-line : goal.returns-then-is_low-clause-line
returns-then-is_low-clause-line g c =
    let over : IsTrue g.D.Disk.tells → MatchesFiles c.self.inside.store (g.D.Disk.view c.args.disk.now).state.files = λ told. subst (λ (h : ManagerView). MatchesFiles h.store (g.D.Disk.view c.args.disk.now).state.files) (sym c.self.view_is) (c.requires.over told) in
    let last : Some c.in-Some.state.now ≡ slice_get c.self.inside.memory.items (length c.self.inside.memory.items - 1) = c.in-Some.ensures.value ∙ ap (λ (l : List StateView). slice_get l (length l - 1)) c.deref.ensures.value in
    let low : option_map_or (nat_le c.in-Some.state.now.height) (last_or None (heights_in c.self.inside.store.heights)) false ≡ true =
    ap (λ (h : ℕ). option_map_or (nat_le h) (last_or None (heights_in c.self.inside.store.heights)) false) (sym c.height-height.ensures.value) ∙ sym c.if-is_low.ensures.low in
    subst (λ (h : ManagerView). DoesLine g.D.Disk.tells h h (g.D.Disk.view c.args.disk.now) (g.D.Disk.view c.args.disk.now) (Ok (replies.Refused refusals.HeightLow)) commands.Checkpoint) c.self.view_is
    (still_line g.D.Disk.tells _ (g.D.Disk.view c.args.disk.now) (Ok (replies.Refused refusals.HeightLow)) commands.Checkpoint over
    (λ m k. checkpoint_low_free g.D.Disk.tells _ (g.D.Disk.view c.args.disk.now) m c.in-Some.state.now last k.states low)
    (λ told m k. as_step (replies.Refused refusals.HeightLow) _ _ m (checkpoint_low g.D.Disk.tells _ (g.D.Disk.view c.args.disk.now) m c.in-Some.state.now last k.states low) refl refl))

pub returns-then-count-ge-MAX_PUBLISHED-clause-line : goal.returns-then-count-ge-MAX_PUBLISHED-clause-line
returns-then-count-ge-MAX_PUBLISHED-clause-line g c =
    let over : IsTrue g.D.Disk.tells → MatchesFiles c.self.inside.store (g.D.Disk.view c.args.disk.now).state.files = λ told. subst (λ (h : ManagerView). MatchesFiles h.store (g.D.Disk.view c.args.disk.now).state.files) (sym c.self.view_is) (c.requires.over told) in
    let last : Some c.in-Some.state.now ≡ slice_get c.self.inside.memory.items (length c.self.inside.memory.items - 1) = c.in-Some.ensures.value ∙ ap (λ (l : List StateView). slice_get l (length l - 1)) c.deref.ensures.value in
    let low : option_map_or (nat_le c.in-Some.state.now.height) (last_or None (heights_in c.self.inside.store.heights)) false ≡ false =
    ap (λ (h : ℕ). option_map_or (nat_le h) (last_or None (heights_in c.self.inside.store.heights)) false) (sym c.height-height.ensures.value) ∙ sym c.if-is_low.ensures.low in
    subst (λ (h : ManagerView). DoesLine g.D.Disk.tells h h (g.D.Disk.view c.args.disk.now) (g.D.Disk.view c.args.disk.now) (Ok (replies.Refused refusals.ManyMarks)) commands.Checkpoint) c.self.view_is
    (still_line g.D.Disk.tells _ (g.D.Disk.view c.args.disk.now) (Ok (replies.Refused refusals.ManyMarks)) commands.Checkpoint over
    (λ m k. checkpoint_many_free g.D.Disk.tells _ (g.D.Disk.view c.args.disk.now) m c.in-Some.state.now last k.states low (omega (arith, c.count.ensures)))
    (λ told m k. as_step (replies.Refused refusals.ManyMarks) _ _ m (checkpoint_many g.D.Disk.tells _ (g.D.Disk.view c.args.disk.now) m c.in-Some.state.now last k.states low (omega (arith, c.count.ensures))) refl refl))

pub publish-requires-clause-above : goal.publish-requires-clause-above
publish-requires-clause-above g c = subst (λ (k : ℕ). AllByRecursion (λ (h : StoredHeight). h.mark.height < k) c.self.inside.store.heights) c.height-height.ensures.value (c.is_low.ensures.above c.if-is_low.false)

pub returns-in_err-root-clause-line : goal.returns-in_err-root-clause-line
returns-in_err-root-clause-line g c =
    let last : Some c.in-Some.state.now ≡ slice_get c.self.inside.memory.items (length c.self.inside.memory.items - 1) = c.in-Some.ensures.value ∙ ap (λ (l : List StateView). slice_get l (length l - 1)) c.deref.ensures.value in
    let low : option_map_or (nat_le c.in-Some.state.now.height) (last_or None (heights_in c.self.inside.store.heights)) false ≡ false =
    ap (λ (h : ℕ). option_map_or (nat_le h) (last_or None (heights_in c.self.inside.store.heights)) false) (sym c.height-height.ensures.value) ∙ sym c.if-is_low.ensures.low in
    let few : length c.self.inside.store.heights < MAX_PUBLISHED = omega (arith, c.count.ensures) in
    let now : ManagerView = record { live = c.self.inside.live; memory = c.self.inside.memory.items; store = c.publish.new.store; stopped = c.self.inside.stopped } in
    subst (λ (h : ManagerView). DoesLine g.D.Disk.tells h now (g.D.Disk.view c.args.disk.now) (g.D.Disk.view c.publish.new.disk) c.from_residual.result commands.Checkpoint) c.self.view_is
    (checkpoint_failed g.D.Disk.tells _ now (g.D.Disk.view c.args.disk.now) (g.D.Disk.view c.publish.new.disk) c.in-Some.state.now last low few refl refl refl
    (λ told. g.met.D.Disk.reads_as_image c.publish.new.disk told) c.publish.result c.publish.ensures.publishes c.from_residual.result c.from_residual.ensures.0)

pub returns-clause-line : goal.returns-clause-line
returns-clause-line g c =
    let last : Some c.in-Some.state.now ≡ slice_get c.self.inside.memory.items (length c.self.inside.memory.items - 1) = c.in-Some.ensures.value ∙ ap (λ (l : List StateView). slice_get l (length l - 1)) c.deref.ensures.value in
    let low : option_map_or (nat_le c.in-Some.state.now.height) (last_or None (heights_in c.self.inside.store.heights)) false ≡ false =
    ap (λ (h : ℕ). option_map_or (nat_le h) (last_or None (heights_in c.self.inside.store.heights)) false) (sym c.height-height.ensures.value) ∙ sym c.if-is_low.ensures.low in
    let few : length c.self.inside.store.heights < MAX_PUBLISHED = omega (arith, c.count.ensures) in
    let now : ManagerView = record { live = c.self.inside.live; memory = c.self.inside.memory.items; store = c.publish.new.store; stopped = c.self.inside.stopped } in
    subst (λ (h : ManagerView). DoesLine g.D.Disk.tells h now (g.D.Disk.view c.args.disk.now) (g.D.Disk.view c.publish.new.disk) (Ok (replies.Published c.height-height.result c.in_ok-root.root)) commands.Checkpoint) c.self.view_is
    (subst (λ (k : ℕ). DoesLine g.D.Disk.tells (record { live = c.self.inside.live; memory = c.self.inside.memory.items; store = c.self.inside.store; stopped = c.self.inside.stopped }) now
    (g.D.Disk.view c.args.disk.now) (g.D.Disk.view c.publish.new.disk) (Ok (replies.Published k c.in_ok-root.root)) commands.Checkpoint) (sym c.height-height.ensures.value)
    (checkpoint_done g.D.Disk.tells _ now (g.D.Disk.view c.args.disk.now) (g.D.Disk.view c.publish.new.disk) c.in-Some.state.now last low few refl refl refl (λ told. g.met.D.Disk.reads_as_image c.publish.new.disk told) c.publish.result c.publish.ensures.publishes c.in_ok-root.root c.in_ok-root.was))
