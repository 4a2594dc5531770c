use Rattle.std.proofs.Common.{ℕ, OnOk, subst}
use Rattle.page_file.specs.Files.{ReadsFrom}
use Rattle.page_file.proofs.file.PageFile.read_page.Goals as goal

pub returns-clause-page : goal.returns-clause-page
returns-clause-page g c = λ told.
    subst (λ (size : ℕ). OnOk c.read_pages.result (ReadsFrom (g.D.Disk.view c.args.disk.now).state.files c.args.self.now c.args.place size c.read_pages.new.into)) c.told-into (c.read_pages.ensures.pages told)
