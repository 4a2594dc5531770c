use Rattle.std.proofs.Common.{◌*◌, ◌∙◌, subst, length, drop}
use Rattle.disk_model.specs.declared.name.Name.TheVariants.{Page}
use Rattle.disk_model.specs.OnlyReads.{OnlyReads, reads_only_call}
use Rattle.page_file.proofs.Opened.{filled, index_of_file, index_counted}
use Rattle.page_file.proofs.file.read_ranges.Goals as goal

pub returns-in_err-read-clause-reads_only : goal.returns-in_err-read-clause-reads_only
returns-in_err-read-clause-reads_only g c = λ told.
    subst (λ n. OnlyReads n (g.D.Disk.view c.args.disk.now) (g.D.Disk.view c.read.new.self)) (c.deref_mut.ensures.len ∙ c.in_ok-bytes.ensures.len) (reads_only_call (length c.deref_mut.result.now) _ _ _ (c.read.ensures.reads_only told))

pub returns-in_err-read-2-clause-reads_only : goal.returns-in_err-read-2-clause-reads_only
returns-in_err-read-2-clause-reads_only g c = λ told.
    subst (λ n. OnlyReads n (g.D.Disk.view c.args.disk.now) (g.D.Disk.view c.read.new.self)) (c.deref_mut.ensures.len ∙ c.in_ok-bytes.ensures.len) (reads_only_call (length c.deref_mut.result.now) _ _ _ (c.read.ensures.reads_only told))

pub returns-clause-reads_only : goal.returns-clause-reads_only
returns-clause-reads_only g c = λ told.
    subst (λ n. OnlyReads n (g.D.Disk.view c.args.disk.now) (g.D.Disk.view c.read.new.self)) (c.deref_mut.ensures.len ∙ c.in_ok-bytes.ensures.len) (reads_only_call (length c.deref_mut.result.now) _ _ _ (c.read.ensures.reads_only told))

pub returns-clause-found : goal.returns-clause-found
returns-clause-found g c = λ told.
    let size = c.deref_mut.ensures.len ∙ c.in_ok-bytes.ensures.len in
    let read = filled c.deref_mut.result.now c.read.new.into c.deref.result.now (drop (length c.read.new.into) c.in_ok-bytes.bytes.items) c.in_ok-bytes.bytes.len (12 * c.args.header.ranges) ((g.D.Disk.view c.args.disk.now).state.files (Page c.args.number))
    (c.read.auto.into ∙ c.deref_mut.ensures.len) c.in_ok-bytes.ensures.len c.deref.ensures.value (c.in_ok-read.ensures.bytes told) size in
    index_of_file (g.D.Disk.view c.args.disk.now).state.files c.args.number c.args.header c.deref.result.now c.in_ok-read-2.field-0 (c.requires.header told) read c.in_ok-read-2.ensures

pub returns-clause-length : goal.returns-clause-length
returns-clause-length g c = λ told.
    let size = c.deref_mut.ensures.len ∙ c.in_ok-bytes.ensures.len in
    let read = filled c.deref_mut.result.now c.read.new.into c.deref.result.now (drop (length c.read.new.into) c.in_ok-bytes.bytes.items) c.in_ok-bytes.bytes.len (12 * c.args.header.ranges) ((g.D.Disk.view c.args.disk.now).state.files (Page c.args.number))
    (c.read.auto.into ∙ c.deref_mut.ensures.len) c.in_ok-bytes.ensures.len c.deref.ensures.value (c.in_ok-read.ensures.bytes told) size in
    index_counted (g.D.Disk.view c.args.disk.now).state.files c.args.number c.args.header c.deref.result.now c.in_ok-read-2.field-0 (c.requires.header told) read c.in_ok-read-2.ensures
