use Rattle.std.proofs.Common.{◌+◌, ◌*◌, ◌∙◌, ap, length}
use Rattle.page_spec.specs.PageFile.{PageIndex, index_length}
use Rattle.page_file.specs.Files.{NumberedFile}
use Rattle.page_file.proofs.Opened.{pages_are_there, pages_read}
use Rattle.page_file.proofs.file.PageFile.read_pages.Goals as goal

pub read-requires : goal.read-requires
read-requires g c = λ told.
    pages_are_there (g.D.Disk.view c.args.disk.now).state.files c.args.self.now c.self.inside.number c.args.place c.offset.result (length c.args.into.now) (c.requires.kept told) (ap (λ (f : NumberedFile). f.number) c.self.view_is)
    (c.offset.ensures ∙ ap (λ (i : PageIndex). index_length i + 4096 * c.args.place) c.deref.ensures ∙ ap (λ (f : NumberedFile). index_length f.index + 4096 * c.args.place) c.self.view_is) c.requires.within

pub returns-clause-pages : goal.returns-clause-pages
returns-clause-pages g c = λ told pages has.
    pages_read (g.D.Disk.view c.args.disk.now).state.files c.self.inside.number c.args.place c.offset.result (length c.args.into.now) c.args.self.now.index pages c.read.new.into c.args.self.now has (ap (λ (f : NumberedFile). f.number) c.self.view_is)
    (c.offset.ensures ∙ ap (λ (i : PageIndex). index_length i + 4096 * c.args.place) c.deref.ensures ∙ ap (λ (f : NumberedFile). index_length f.index + 4096 * c.args.place) c.self.view_is) (c.in_ok-read.ensures.bytes told)
