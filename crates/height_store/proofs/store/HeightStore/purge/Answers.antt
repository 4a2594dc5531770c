use Rattle.std.proofs.Common.{◌≡◌, ◌==◌, true, false, refl, sym, ◌∙◌, subst, arith}
use Rattle.std.proofs.lemmas.Bool.{false≢true}
use Rattle.std.proofs.lemmas.Bool.Decides.{nat_tests}
use Rattle.disk_model.specs.declared.name.Name.TheVariants as name
use Rattle.disk_model.specs.Files.{same_name}
use Rattle.disk_model.specs.Call.{remove}
use Rattle.disk_model.specs.Writing.{writes_call, writes_done, writes_failed}
use Rattle.store_spec.specs.Image.{without_published}
use Rattle.height_store.specs.Kept.{IsReadable, IsWritable, KeepsHeights}
use Rattle.height_store.specs.Store.{Store, IsStore}
use Rattle.height_store.proofs.Losing.{removed_images, nothing_removed, keeps_without, readable_without, writable_without, store_without, newest_test, absent_not_newest, found_listed, disk_never, lost}
use Rattle.height_store.proofs.store.HeightStore.purge.Goals as goal

pub returns-in-None-clause-last_height : goal.returns-in-None-clause-last_height
returns-in-None-clause-last_height g c = (λ is. absurd cc, λ newest. absurd (absent_not_newest c.args.self.now.heights c.args.height c.in-None.ensures newest))

pub returns-in-None-clause-images : goal.returns-in-None-clause-images
returns-in-None-clause-images g c = λ told ps settled keeps. nothing_removed c.args.self.now.heights ps _ _ keeps

pub returns-then-height-newest-clause-last_height : goal.returns-then-height-newest-clause-last_height
returns-then-height-newest-clause-last_height g c =
    let test = newest_test c.args.self.now.heights c.args.height c.height-newest.result c.count.result _ c.in-Some.ensures c.count.ensures.count (c.height-newest.ensures _) in
    let same : (c.height-newest.result == c.args.height) ≡ true = grind (arith, nat_tests, c.if-height-newest.true) in
    (λ is. test ∙ same, λ newest. refl)

pub returns-then-height-newest-clause-images : goal.returns-then-height-newest-clause-images
returns-then-height-newest-clause-images g c = λ told ps settled keeps. nothing_removed c.args.self.now.heights ps _ _ keeps

pub remove-requires : goal.remove-requires
remove-requires g c = λ told. found_listed _ c.args.self.now.heights c.args.height _ c.in-Some.ensures (c.requires told).listed

pub returns-in_err-remove-clause-last_height : goal.returns-in_err-remove-clause-last_height
returns-in_err-remove-clause-last_height g c =
    let test = newest_test c.args.self.now.heights c.args.height c.height-newest.result c.count.result _ c.in-Some.ensures c.count.ensures.count (c.height-newest.ensures _) in
    let other : (c.height-newest.result == c.args.height) ≡ false = grind (arith, nat_tests, c.if-height-newest.false) in
    (λ is. absurd (disk_never c.from_residual.result c.in_err-remove.field-0.0 c.from_residual.ensures.1 is), λ newest. absurd (false≢true (sym (test ∙ other) ∙ newest)))

pub returns-clause-last_height : goal.returns-clause-last_height
returns-clause-last_height g c =
    let test = newest_test c.args.self.now.heights c.args.height c.height-newest.result c.count.result _ c.in-Some.ensures c.count.ensures.count (c.height-newest.ensures _) in
    let other : (c.height-newest.result == c.args.height) ≡ false = grind (arith, nat_tests, c.if-height-newest.false) in
    (λ is. absurd cc, λ newest. absurd (false≢true (sym (test ∙ other) ∙ newest)))

pub returns-in_err-remove-clause-images : goal.returns-in_err-remove-clause-images
returns-in_err-remove-clause-images g c = λ told ps settled keeps.
    removed_images c.remove.result _ _ c.args.self.now.heights ps c.args.height (g.met.D.Disk.reads_as_image c.args.disk.now told) settled keeps (c.remove.ensures.does told)

pub returns-clause-images : goal.returns-clause-images
returns-clause-images g c = λ told ps settled keeps.
    removed_images c.remove.result _ _ c.args.self.now.heights ps c.args.height (g.met.D.Disk.reads_as_image c.args.disk.now told) settled keeps (c.remove.ensures.does told)

pub returns-in_err-remove-clause-writes : goal.returns-in_err-remove-clause-writes
returns-in_err-remove-clause-writes g c = λ told.
    writes_failed c.remove.result _ _ 0 0 _ _ c.from_residual.ensures.0 (omega arith)
    (writes_call (remove (name.Mark c.args.height)) c.remove.result _ _ (same_name (name.Mark c.args.height)) (λ q apart. apart) (g.met.D.Disk.reads_as_image c.args.disk.now told) (c.remove.ensures.does told))

pub returns-clause-writes : goal.returns-clause-writes
returns-clause-writes g c = λ told.
    writes_done c.remove.result _ _ _ _ 0 _ _ c.in_ok-remove.was refl
    (writes_call (remove (name.Mark c.args.height)) c.remove.result _ _ (same_name (name.Mark c.args.height)) (λ q apart. apart) (g.met.D.Disk.reads_as_image c.args.disk.now told) (c.remove.ensures.does told))

pub invariant_of-self : goal.invariant_of-self
invariant_of-self g c = subst IsStore (sym (lost _ c.args.self.now c.drop_height.new.heights.items c.args.height c.self.view_is c.drop_height.ensures))
    (store_without c.args.self.now c.args.height (subst IsStore c.self.view_is c.self.invariant))

pub returns-clause-readable : goal.returns-clause-readable
returns-clause-readable g c = λ told.
    let v1 = g.D.Disk.view c.remove.new.self in
    subst (λ (store : Store). IsReadable store.heights v1.state.files) (sym (lost _ c.args.self.now c.drop_height.new.heights.items c.args.height c.self.view_is c.drop_height.ensures))
    (readable_without _ v1 c.args.height (c.in_ok-remove.ensures.does told) c.args.self.now.heights (c.requires told))

pub returns-clause-writable : goal.returns-clause-writable
returns-clause-writable g c = λ told n writable.
    let v1 = g.D.Disk.view c.remove.new.self in
    subst (λ (store : Store). IsWritable store n v1.state.files) (sym (lost _ c.args.self.now c.drop_height.new.heights.items c.args.height c.self.view_is c.drop_height.ensures))
    (writable_without _ v1 c.args.height (c.in_ok-remove.ensures.does told) c.args.self.now n writable)

pub returns-clause-stands : goal.returns-clause-stands
returns-clause-stands g c = λ told ps settled keeps.
    let v1 = g.D.Disk.view c.remove.new.self in
    let kept = keeps_without _ v1 c.args.height (c.in_ok-remove.ensures.does told) c.args.self.now.heights ps (g.met.D.Disk.reads_as_image c.args.disk.now told) settled keeps in
    subst (λ (store : Store). KeepsHeights store.heights v1.state (without_published ps c.args.height)) (sym (lost _ c.args.self.now c.drop_height.new.heights.items c.args.height c.self.view_is c.drop_height.ensures)) kept
