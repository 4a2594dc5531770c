use Rattle.std.proofs.Common.{◌≡◌, List, [], ◌∷◌, ◌++◌, length, sym, ◌∙◌, ap, subst, arith}
use Rattle.std.specs.List.{AllByRecursion}
use Rattle.store_spec.specs.Mark.{Mark, mark_text}
use Rattle.disk_model.specs.View.{LeavesOnly}
use Rattle.disk_model.specs.Frame.{TouchesOnly}
use Rattle.disk_model.specs.Writing.{Writes, write_done, write_failed, write_stopped, wrote_none}
use Rattle.page_file.specs.Files.{IsAsKnown}
use Rattle.mark_file.proofs.Wholes.{mark_fits}
use Rattle.height_store.specs.Kept.{IsReadable, IsWritable, KeepsHeights}
use Rattle.height_store.specs.Store.{Store, StoredHeight, IsStore}
use Rattle.height_store.specs.Written.{is_of, HasWritten, IsBeforeOrAfter}
use Rattle.height_store.proofs.Gaining.{may_publish, readable_push, writable_push, store_push, keeps_push, images_push, nothing_called, no_mark_above, at_mark, at_own_mark, AreBelow, below_mark, gained}
use Rattle.height_store.proofs.store.HeightStore.publish.Goals as goal

pub encode-requires : goal.encode-requires
encode-requires g c = mark_fits c.args.mark c.requires.good.0 c.requires.good.1.mark

pub returns-in_err-text-clause-images : goal.returns-in_err-text-clause-images
returns-in_err-text-clause-images g c = λ told ps s p settled keeps made pages. nothing_called c.args.self.now.heights ps _ _ keeps

pub returns-in_err-published-clause-images : goal.returns-in_err-published-clause-images
returns-in_err-published-clause-images g c = λ told ps s p settled keeps made pages. nothing_called c.args.self.now.heights ps _ _ keeps

pub returns-in_err-reserve-clause-images : goal.returns-in_err-reserve-clause-images
returns-in_err-reserve-clause-images g c = λ told ps s p settled keeps made pages. nothing_called c.args.self.now.heights ps _ _ keeps

pub write_mark-requires-clause-no_mark : goal.write_mark-requires-clause-no_mark
write_mark-requires-clause-no_mark g c = λ told.
    no_mark_above _ c.args.self.now.heights c.mark.inside.height (subst (λ (m : Mark). AreBelow m.height c.args.self.now.heights) (sym c.mark.view_is) c.requires.above) (c.requires.readable told).listed

pub returns-in_err-write_mark-clause-images : goal.returns-in_err-write_mark-clause-images
returns-in_err-write_mark-clause-images g c = λ told ps s p settled keeps made pages.
    let v0 = g.D.Disk.view c.args.disk.now in
    let h = c.in_ok-published.published in
    let may = may_publish c.args.self.now.heights ps v0.state c.args.mark s c.args.stacks.items h p c.in_ok-published.ensures.mark c.in_ok-published.ensures.stacks c.in_ok-published.ensures.good
    (g.met.D.Disk.reads_as_image c.args.disk.now told) c.requires.above c.requires.few keeps made pages in
    images_push c.args.self.now.heights ps v0 (g.D.Disk.view c.write_mark.new.disk) h p may
    (at_mark (λ n text. LeavesOnly v0 (g.D.Disk.view c.write_mark.new.disk) (IsBeforeOrAfter v0.state n text)) c.mark.inside.height c.bytes-2.result.now c.args.mark h
    (ap (λ (m : Mark). m.height) c.mark.view_is) (c.bytes-2.ensures.value ∙ c.in_ok-text.ensures) c.in_ok-published.ensures.mark (c.write_mark.ensures.images told settled))

pub returns-clause-images : goal.returns-clause-images
returns-clause-images g c = λ told ps s p settled keeps made pages.
    let v0 = g.D.Disk.view c.args.disk.now in
    let h = c.in_ok-published.published in
    let may = may_publish c.args.self.now.heights ps v0.state c.args.mark s c.args.stacks.items h p c.in_ok-published.ensures.mark c.in_ok-published.ensures.stacks c.in_ok-published.ensures.good
    (g.met.D.Disk.reads_as_image c.args.disk.now told) c.requires.above c.requires.few keeps made pages in
    images_push c.args.self.now.heights ps v0 (g.D.Disk.view c.write_mark.new.disk) h p may
    (at_mark (λ n text. LeavesOnly v0 (g.D.Disk.view c.write_mark.new.disk) (IsBeforeOrAfter v0.state n text)) c.mark.inside.height c.bytes-2.result.now c.args.mark h
    (ap (λ (m : Mark). m.height) c.mark.view_is) (c.bytes-2.ensures.value ∙ c.in_ok-text.ensures) c.in_ok-published.ensures.mark (c.write_mark.ensures.images told settled))

pub returns-clause-stands : goal.returns-clause-stands
returns-clause-stands g c = λ told ps s p settled keeps made pages.
    let v0 = g.D.Disk.view c.args.disk.now in
    let v1 = g.D.Disk.view c.write_mark.new.disk in
    let h = c.in_ok-published.published in
    let may = may_publish c.args.self.now.heights ps v0.state c.args.mark s c.args.stacks.items h p c.in_ok-published.ensures.mark c.in_ok-published.ensures.stacks c.in_ok-published.ensures.good
    (g.met.D.Disk.reads_as_image c.args.disk.now told) c.requires.above c.requires.few keeps made pages in
    let written = at_mark (λ n text. HasWritten n text v0 v1) c.mark.inside.height c.bytes-2.result.now c.args.mark h
    (ap (λ (m : Mark). m.height) c.mark.view_is) (c.bytes-2.ensures.value ∙ c.in_ok-text.ensures) c.in_ok-published.ensures.mark (c.in_ok-write_mark.ensures.written told) in
    let touches = at_mark (λ n text. TouchesOnly (is_of n) v0 v1) c.mark.inside.height c.bytes-2.result.now c.args.mark h
    (ap (λ (m : Mark). m.height) c.mark.view_is) (c.bytes-2.ensures.value ∙ c.in_ok-text.ensures) c.in_ok-published.ensures.mark (c.write_mark.ensures.writes.only told).touches in
    let pushed : c.push.new.self.items ≡ c.args.self.now.heights ++ h ∷ [] = c.in_ok-push.ensures.items ∙ ap (λ (l : List StoredHeight). l ++ h ∷ []) (c.reserve.ensures.items ∙ ap (λ (s : Store). s.heights) c.self.view_is) in
    subst (λ (hs : List StoredHeight). KeepsHeights hs v1.state (ps ++ p ∷ [])) (sym pushed) (keeps_push c.args.self.now.heights ps v0 v1 h p may written touches settled)

pub returns-clause-readable : goal.returns-clause-readable
returns-clause-readable g c = λ told.
    let v0 = g.D.Disk.view c.args.disk.now in
    let v1 = g.D.Disk.view c.write_mark.new.disk in
    let h = c.in_ok-published.published in
    let written = at_mark (λ n text. HasWritten n text v0 v1) c.mark.inside.height c.bytes-2.result.now c.args.mark h
    (ap (λ (m : Mark). m.height) c.mark.view_is) (c.bytes-2.ensures.value ∙ c.in_ok-text.ensures) c.in_ok-published.ensures.mark (c.in_ok-write_mark.ensures.written told) in
    let touches = at_mark (λ n text. TouchesOnly (is_of n) v0 v1) c.mark.inside.height c.bytes-2.result.now c.args.mark h
    (ap (λ (m : Mark). m.height) c.mark.view_is) (c.bytes-2.ensures.value ∙ c.in_ok-text.ensures) c.in_ok-published.ensures.mark (c.write_mark.ensures.writes.only told).touches in
    let pushed = c.in_ok-push.ensures.items ∙ ap (λ (l : List StoredHeight). l ++ h ∷ []) c.reserve.ensures.items in
    subst (λ (store : Store). IsReadable store.heights v1.state.files) (sym (gained _ c.args.self.now c.push.new.self.items h c.self.view_is pushed))
    (readable_push c.args.self.now v0 v1 h written touches (c.requires.readable told) (below_mark c.args.self.now.heights c.args.mark h c.in_ok-published.ensures.mark c.requires.above)
    (subst (AllByRecursion (AllByRecursion (IsAsKnown v0.state.files))) (sym c.in_ok-published.ensures.stacks) (c.requires.kept told)))

pub returns-clause-writable : goal.returns-clause-writable
returns-clause-writable g c = λ told n writable.
    let v0 = g.D.Disk.view c.args.disk.now in
    let v1 = g.D.Disk.view c.write_mark.new.disk in
    let h = c.in_ok-published.published in
    let written = at_mark (λ n text. HasWritten n text v0 v1) c.mark.inside.height c.bytes-2.result.now c.args.mark h
    (ap (λ (m : Mark). m.height) c.mark.view_is) (c.bytes-2.ensures.value ∙ c.in_ok-text.ensures) c.in_ok-published.ensures.mark (c.in_ok-write_mark.ensures.written told) in
    let touches = at_mark (λ n text. TouchesOnly (is_of n) v0 v1) c.mark.inside.height c.bytes-2.result.now c.args.mark h
    (ap (λ (m : Mark). m.height) c.mark.view_is) (c.bytes-2.ensures.value ∙ c.in_ok-text.ensures) c.in_ok-published.ensures.mark (c.write_mark.ensures.writes.only told).touches in
    let pushed = c.in_ok-push.ensures.items ∙ ap (λ (l : List StoredHeight). l ++ h ∷ []) c.reserve.ensures.items in
    subst (λ (store : Store). IsWritable store n v1.state.files) (sym (gained _ c.args.self.now c.push.new.self.items h c.self.view_is pushed))
    (writable_push c.args.self.now v0 v1 h written touches n writable)

pub invariant_of-self-2 : goal.invariant_of-self-2
invariant_of-self-2 g c =
    let h = c.in_ok-published.published in
    let pushed = c.in_ok-push.ensures.items ∙ ap (λ (l : List StoredHeight). l ++ h ∷ []) c.reserve.ensures.items in
    subst IsStore (sym (gained _ c.args.self.now c.push.new.self.items h c.self.view_is pushed))
    (store_push c.args.self.now h (below_mark c.args.self.now.heights c.args.mark h c.in_ok-published.ensures.mark c.requires.above) c.requires.few (subst IsStore c.self.view_is c.self.invariant))

pub returns-in_err-write_mark-clause-writes : goal.returns-in_err-write_mark-clause-writes
returns-in_err-write_mark-clause-writes g c =
    write_failed g.D.Disk c.write_mark.result _ _ _ (length (mark_text c.args.mark)) _ _ _ c.from_residual-in_err-write_mark.ensures.1 c.in_err-write_mark.was (omega arith)
    (at_own_mark (λ n text. Writes g.D.Disk (is_of n) (length text) c.args.disk.now c.write_mark.new.disk c.write_mark.result) c.mark.inside.height c.bytes-2.result.now c.args.mark
    (ap (λ (m : Mark). m.height) c.mark.view_is) (c.bytes-2.ensures.value ∙ c.in_ok-text.ensures) c.write_mark.ensures.writes)

pub returns-clause-writes : goal.returns-clause-writes
returns-clause-writes g c =
    write_done g.D.Disk c.write_mark.result _ _ _ (length (mark_text c.args.mark)) _ _ c.in_ok-write_mark.was
    (at_own_mark (λ n text. Writes g.D.Disk (is_of n) (length text) c.args.disk.now c.write_mark.new.disk c.write_mark.result) c.mark.inside.height c.bytes-2.result.now c.args.mark
    (ap (λ (m : Mark). m.height) c.mark.view_is) (c.bytes-2.ensures.value ∙ c.in_ok-text.ensures) c.write_mark.ensures.writes)

pub returns-in_err-reserve-clause-writes : goal.returns-in_err-reserve-clause-writes
returns-in_err-reserve-clause-writes g c = write_stopped g.D.Disk _ _ _ 0 _ _ _ c.from_residual-in_err-reserve.ensures.1 (omega arith) (wrote_none g.D.Disk _ c.args.disk.now)
