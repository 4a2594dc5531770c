use Rattle.std.proofs.Common.{◌%◌, ◌==◌, ◌/◌, false, List, ◌∙◌, ap}
use Rattle.disk_model.specs.declared.event.Event.{Event}
use Rattle.disk_model.specs.Record.{files_in}
use Rattle.disk_model.specs.Images.{chosen_of, is_marked_after, spoiled_where}
use Rattle.disk_model.proofs.Chosen.{image_is}
use Rattle.disk_model.specs.Mem.{mem_view}
use Rattle.disk_model.proofs.mem.MemDisk.image_files.Goals as goal

pub returns : goal.returns
unfolding mem_view
returns c =
    let m = c.args.self.now in
    let first = files_in m.first.entries in
    let reading = files_in m.files.entries in
    let chosen = files_in c.in_ok-files.files.entries in
    image_is first m.events.items c.args.choice reading chosen (files_in c.spoil_loose.new.files.entries) m.reads
    (λ q. c.in_ok-files.ensures q ∙ ap (λ (es : List Event). chosen_of (c.args.choice % 2 == 1) first first es q) c.deref.ensures.value)
    (λ q. c.in_ok-spoil_loose.ensures q ∙ ap (λ (es : List Event). spoiled_where (c.args.choice / 2 % 4) (λ n. is_marked_after n false es) reading chosen q) c.deref-2.ensures.value)
