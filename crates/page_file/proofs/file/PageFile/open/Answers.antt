use Rattle.std.proofs.Common.{Ok, refl, sym, ◌∙◌, ap, subst}
use Rattle.page_file.specs.Files.{NumberedFile, FindsIndex}
use Rattle.page_file.proofs.Unique.{only_index, named_as}
use Rattle.page_file.proofs.file.PageFile.open.Goals as goal

pub returns-in-None-clause-opens : goal.returns-in-None-clause-opens
returns-in-None-clause-opens g c = λ told. record {
  opened = tt;
  same_number = tt;
  bad = λ m is. subst (λ o. FindsIndex (g.D.Disk.view c.args.disk.now).state.files c.args.number (Ok o)) c.in-None.is (c.in_ok-index.ensures.found told);
  named = λ m is. named_as c.args.number m is;
}

pub returns-in_ok-shared-in-Some-clause-only : goal.returns-in_ok-shared-in-Some-clause-only
returns-in_ok-shared-in-Some-clause-only g c = λ told i pages has.
    let files = (g.D.Disk.view c.args.disk.now).state.files in
    only_index files c.args.number c.args.number c.in-Some.index i pages refl (subst (λ o. FindsIndex files c.args.number (Ok o)) c.in-Some.is (c.in_ok-index.ensures.found told)) has
    ∙ sym (ap (λ (f : NumberedFile). f.index) c.new.ensures ∙ c.in_ok-shared-in-Some.ensures.value)
