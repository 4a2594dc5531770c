use Rattle.std.proofs.Common.{◌∙◌, sym, subst, arith, List}
use Rattle.std.proofs.lemmas.Result.{err_from_is_err_and}
use Rattle.page_file.specs.declared.file.PageFile.{PageFile}
use Rattle.page_file.specs.Files.{NumberedFile}
use Rattle.disk_model.specs.OnlyReads.{reads_only_none}
use Rattle.page_file.specs.declared.error.PageError.TheVariants.{BadPage}
use Rattle.height_store.specs.Naming.{IsFileOf}
use Rattle.height_store.proofs.MarksRead.{handed_on}
use Rattle.height_store.proofs.FilesFound.{error_inside, named_by, not_there, too_many, refused, kept_of, on_ok}
use Rattle.height_store.proofs.pages.open_one.Goals as goal

pub returns-in-Some-clause-bad : goal.returns-in-Some-clause-bad
returns-in-Some-clause-bad g c = λ told n is.
    let of = subst (λ (fs : List NumberedFile). IsFileOf fs c.args.number c.in-Some.file.now) c.deref.ensures.value c.in-Some.ensures in
    too_many (g.D.Disk.view c.args.disk.now).state.files c.args.number c.args.pages c.in-Some.file.now of.same_number
    (kept_of (g.D.Disk.view c.args.disk.now).state.files c.args.files.now.items c.args.number c.in-Some.file.now (c.requires.kept told) of)
    (refused c.check_fits.result c.in-Some.file.now.number n c.args.pages c.in-Some.file.now.index.memory c.check_fits.ensures.bad is)

pub returns-in-Some-clause-reads_only : goal.returns-in-Some-clause-reads_only
returns-in-Some-clause-reads_only g c = λ told. on_ok c.check_fits.result _ (0, omega arith, reads_only_none 0 (g.D.Disk.view c.args.disk.now))

pub returns-in_err-file-clause-bad : goal.returns-in_err-file-clause-bad
returns-in_err-file-clause-bad g c = λ told n is.
    let p = err_from_is_err_and c.from_residual.result c.from_residual.ensures.1 in
    not_there (g.D.Disk.view c.args.disk.now).state.files c.args.number c.args.pages
    ((c.in_err-file.ensures.opens told).bad n (handed_on PageFile c.from_residual.result p.0 c.in_err-file.field-0.0 (BadPage n) p.1 p.2 is))

pub returns-in_err-check_fits-clause-bad : goal.returns-in_err-check_fits-clause-bad
returns-in_err-check_fits-clause-bad g c = λ told n is.
    too_many (g.D.Disk.view c.args.disk.now).state.files c.args.number c.args.pages c.in_ok-file.file c.in_ok-file.ensures.number
    (c.in_ok-file.ensures.opens told).opened c.in_err-check_fits.ensures.bad.1

pub returns-in_err-file-clause-number : goal.returns-in_err-file-clause-number
returns-in_err-file-clause-number g c = λ n is.
    let p = err_from_is_err_and c.from_residual.result c.from_residual.ensures.1 in
    named_by c.in_err-file.field-0.0 n c.args.number (sym p.2 ∙ error_inside p.0 (BadPage n) (sym p.1 ∙ is)) c.in_err-file.ensures.cause.only
