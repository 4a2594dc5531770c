use Rattle.std.proofs.Common.{◌≡◌, ◌∙◌, List, ap, subst}
use Rattle.std.specs.List.{AllByRecursion}
use Rattle.std.specs.Prelude.{OnOk}
use Rattle.height_store.specs.Laws.{kept_apart, stands_apart}
use Rattle.height_store.specs.Needed.{is_dispensable, files_swept, needed_stay}
use Rattle.height_store.specs.Store.{Store, StoredHeight, IsHeight}
use Rattle.height_store.proofs.Needs.{readable_swept, writable_swept, writes_at}
use Rattle.height_store.proofs.store.HeightStore.sweep.Goals as goal

pub returns-clause-swept : goal.returns-clause-swept
returns-clause-swept g c = λ told.
    let old = (g.D.Disk.view c.args.disk.now).state.files in
    let new = (g.D.Disk.view c.sweep_unneeded.new.disk).state.files in
    subst (λ (hs : List StoredHeight). OnOk c.sweep_unneeded.result (new ≡ files_swept hs c.args.pins.now c.args.stages.now old))
    (c.deref.ensures.value ∙ ap (λ (s : Store). s.heights) c.self.view_is) (c.sweep_unneeded.ensures.swept told)

pub returns-clause-writes : goal.returns-clause-writes
returns-clause-writes g c =
    writes_at g.D.Disk c.sweep_unneeded.result _ c.args.self.now.heights c.args.pins.now c.args.stages.now _ _
    (c.deref.ensures.value ∙ ap (λ (s : Store). s.heights) c.self.view_is) c.sweep_unneeded.ensures.writes

pub returns-clause-readable : goal.returns-clause-readable
returns-clause-readable g c = λ told readable.
    let same = c.deref.ensures.value ∙ ap (λ (s : Store). s.heights) c.self.view_is in
    let writes = writes_at g.D.Disk c.sweep_unneeded.result _ c.args.self.now.heights c.args.pins.now c.args.stages.now _ _ same c.sweep_unneeded.ensures.writes in
    readable_swept c.sweep_unneeded.result c.args.self.now.heights c.args.pins.now c.args.stages.now _ _
    (subst (λ (hs : List StoredHeight). OnOk c.sweep_unneeded.result (AllByRecursion IsHeight hs)) same c.sweep_unneeded.ensures.good) (writes.only told).touches readable

pub returns-clause-writable : goal.returns-clause-writable
returns-clause-writable g c = λ told.
    let old = (g.D.Disk.view c.args.disk.now).state.files in
    let new = (g.D.Disk.view c.sweep_unneeded.new.disk).state.files in
    writable_swept c.sweep_unneeded.result c.args.self.now c.args.pins.now c.args.stages.now old new
    (subst (λ (hs : List StoredHeight). OnOk c.sweep_unneeded.result (new ≡ files_swept hs c.args.pins.now c.args.stages.now old))
    (c.deref.ensures.value ∙ ap (λ (s : Store). s.heights) c.self.view_is) (c.sweep_unneeded.ensures.swept told))

pub returns-clause-stands : goal.returns-clause-stands
returns-clause-stands g c = λ told ps keeps.
    let same = c.deref.ensures.value ∙ ap (λ (s : Store). s.heights) c.self.view_is in
    let hs = c.args.self.now.heights in
    let writes = writes_at g.D.Disk c.sweep_unneeded.result _ hs c.args.pins.now c.args.stages.now _ _ same c.sweep_unneeded.ensures.writes in
    kept_apart (is_dispensable hs c.args.pins.now c.args.stages.now) _ _ hs ps (needed_stay hs c.args.pins.now c.args.stages.now) (writes.only told).touches keeps

pub returns-clause-images : goal.returns-clause-images
returns-clause-images g c = λ told ps keeps.
    let same = c.deref.ensures.value ∙ ap (λ (s : Store). s.heights) c.self.view_is in
    let hs = c.args.self.now.heights in
    let writes = writes_at g.D.Disk c.sweep_unneeded.result _ hs c.args.pins.now c.args.stages.now _ _ same c.sweep_unneeded.ensures.writes in
    stands_apart (is_dispensable hs c.args.pins.now c.args.stages.now) _ _ hs ps (needed_stay hs c.args.pins.now c.args.stages.now) (writes.only told).touches keeps
