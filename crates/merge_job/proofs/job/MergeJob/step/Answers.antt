use Rattle.std.proofs.Common.{◌≡◌, ◌+◌, ◌-◌, ◌*◌, ℕ, List, length, take, drop, ap, refl, sym, subst, ◌∙◌, arith}
use Rattle.std.proofs.lemmas.List.{take_at}
use Rattle.format_spec.specs.declared.limits.TheConstants.{PAGE_SIZE}
use Rattle.disk_model.specs.declared.name.Name.TheVariants.{Page}
use Rattle.disk_model.specs.State.{DiskState, IsLoose}
use Rattle.disk_model.specs.OnlyReads.{reads_only_none}
use Rattle.merge_job.specs.Merge.{Merge, IsOn, step_pages}
use Rattle.merge_job.proofs.Stepped.{copied, copied_failed, copied_none, own_loose, pages_alone, slice_count, step_count, step_on}
use Rattle.merge_job.proofs.job.MergeJob.step.Goals as goal

pub read_pages-requires-clause-kept : goal.read_pages-requires-clause-kept
read_pages-requires-clause-kept g c = λ told. (subst (λ (m : Merge). IsOn m (g.D.Disk.view c.args.disk.now).state) (sym c.self.view_is) (c.requires.on told)).known

pub returns-in_err-bytes-clause-copies : goal.returns-in_err-bytes-clause-copies
returns-in_err-bytes-clause-copies g c = λ told.
    let count = PAGE_SIZE * step_pages c.args.self.now in
    copied_none _ _ c.args.self.now.writer.number count count _ _ c.from_residual.ensures.1 refl (reads_only_none count (g.D.Disk.view c.args.disk.now))

pub returns-in_err-bytes-clause-loose : goal.returns-in_err-bytes-clause-loose
returns-in_err-bytes-clause-loose g c = λ told. (own_loose c.args.self.now _ (c.requires.on told)).loose

pub returns-in_err-read_pages-clause-loose : goal.returns-in_err-read_pages-clause-loose
returns-in_err-read_pages-clause-loose g c = λ told.
    ap (λ (s : DiskState). s.loose (Page c.args.self.now.writer.number)) (c.read_pages.ensures.reads_only told).state ∙ (own_loose c.args.self.now _ (c.requires.on told)).loose

pub returns-in_err-read_pages-clause-copies : goal.returns-in_err-read_pages-clause-copies
returns-in_err-read_pages-clause-copies g c = λ told.
    let pages = c.self.inside.pages.items in
    let count = c.min-count.result in
    let is = step_count _ pages c.added-added.result count c.len.result c.self.invariant c.added-added.ensures (omega (arith, c.len.ensures)) c.min-count.ensures in
    let long = slice_count pages c.deref.result.now c.added-added.result count c.deref.ensures.value (omega (arith, c.min-count.ensures, c.len.ensures, c.added-added.ensures, c.self.invariant.good.added, ap (λ (l : List ℕ). length l) c.self.invariant.all)) in
    copied_none _ _ c.args.self.now.writer.number _ _ _ _ c.from_residual-in_err-read_pages.ensures.1
    (ap (λ (n : ℕ). PAGE_SIZE * n) (long ∙ is) ∙ ap (λ (m : Merge). PAGE_SIZE * step_pages m) c.self.view_is) (c.read_pages.ensures.reads_only told)

pub add_pages-requires-clause-loose : goal.add_pages-requires-clause-loose
add_pages-requires-clause-loose g c = λ told.
    subst (λ (s : DiskState). IsLoose s (Page c.self.inside.writer.number)) (sym (c.read_pages.ensures.reads_only told).state)
    (own_loose (record { read = c.self.inside.read; from = c.self.inside.from; writer = c.self.inside.writer }) _ (subst (λ (m : Merge). IsOn m (g.D.Disk.view c.args.disk.now).state) (sym c.self.view_is) (c.requires.on told)))

pub returns-in_err-add_pages-clause-copies : goal.returns-in_err-add_pages-clause-copies
returns-in_err-add_pages-clause-copies g c = λ told.
    let pages = c.self.inside.pages.items in
    let count = c.min-count.result in
    let is = step_count _ pages c.added-added.result count c.len.result c.self.invariant c.added-added.ensures (omega (arith, c.len.ensures)) c.min-count.ensures in
    let long = slice_count pages c.deref.result.now c.added-added.result count c.deref.ensures.value (omega (arith, c.min-count.ensures, c.len.ensures, c.added-added.ensures, c.self.invariant.good.added, ap (λ (l : List ℕ). length l) c.self.invariant.all)) in
    let view = ap (λ (m : Merge). PAGE_SIZE * step_pages m) c.self.view_is in
    copied_failed c.add_pages.result _ _ c.self.inside.writer.number _ _ _ _ _ _ _ c.from_residual-in_err-add_pages.ensures.1 (ap (λ (m : Merge). m.writer.number) c.self.view_is)
    (ap (λ (n : ℕ). PAGE_SIZE * n) (long ∙ is) ∙ view) (pages_alone c.self.inside.writer count c.self.invariant.good.alone ∙ ap (λ (n : ℕ). PAGE_SIZE * n) is ∙ view)
    (c.read_pages.ensures.reads_only told) (c.add_pages.ensures.writes.only told)

pub returns-clause-copies : goal.returns-clause-copies
returns-clause-copies g c = λ told.
    let pages = c.self.inside.pages.items in
    let count = c.min-count.result in
    let is = step_count _ pages c.added-added.result count c.len.result c.self.invariant c.added-added.ensures (omega (arith, c.len.ensures)) c.min-count.ensures in
    let long = slice_count pages c.deref.result.now c.added-added.result count c.deref.ensures.value (omega (arith, c.min-count.ensures, c.len.ensures, c.added-added.ensures, c.self.invariant.good.added, ap (λ (l : List ℕ). length l) c.self.invariant.all)) in
    let view = ap (λ (m : Merge). PAGE_SIZE * step_pages m) c.self.view_is in
    copied c.add_pages.result _ tt c.self.inside.writer.number _ _ _ _ _ _ _ c.in_ok-add_pages.was (ap (λ (m : Merge). m.writer.number) c.self.view_is)
    (ap (λ (n : ℕ). PAGE_SIZE * n) (long ∙ is) ∙ view) (pages_alone c.self.inside.writer count c.self.invariant.good.alone ∙ ap (λ (n : ℕ). PAGE_SIZE * n) is ∙ view)
    (c.read_pages.ensures.reads_only told) (c.add_pages.ensures.writes.only told)

pub returns-clause-on : goal.returns-clause-on
returns-clause-on g c = λ told.
    let added = c.added-added.result in
    let count = c.min-count.result in
    let same : added + count - added ≡ count = omega arith in
    let sliced : take (added + count - added) (drop added c.deref.result.now) ≡ take count (drop c.self.inside.writer.added c.self.inside.writer.index.numbers) =
    ap (λ (n : ℕ). take n (drop added c.deref.result.now)) same
    ∙ ap (λ (l : List ℕ). take count (drop added l)) (c.deref.ensures.value ∙ c.self.invariant.all)
    ∙ ap (λ (n : ℕ). take count (drop n c.self.inside.writer.index.numbers)) c.added-added.ensures in
    step_on c.self.inside.read c.self.inside.from count _ c.self.inside.writer c.add_pages.new.self (g.D.Disk.view c.args.disk.now) (g.D.Disk.view c.read_pages.new.disk) (g.D.Disk.view c.add_pages.new.disk)
    (c.read_pages.ensures.reads_only told) (c.add_pages.ensures.writes.only told).touches c.in_ok-add_pages.ensures.writer
    (take (added + count - added) (drop added c.deref.result.now)) c.deref-2.result.now (subst (λ (m : Merge). IsOn m (g.D.Disk.view c.args.disk.now).state) (sym c.self.view_is) (c.requires.on told)) sliced
    (λ layers are. c.deref-2.ensures.value ∙ take_at c.read_pages.new.into _ c.in_ok-bytes.bytes.len (omega (arith, c.read_pages.auto.into, c.deref_mut.ensures.len, ap (λ (l : List ℕ). length l) c.deref_mut.ensures.value)) ∙ c.in_ok-read_pages.ensures.bytes told layers are)
    (c.in_ok-add_pages.ensures.added told)
