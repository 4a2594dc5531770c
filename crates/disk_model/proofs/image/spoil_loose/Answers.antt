use Rattle.std.proofs.Common.{◌∙◌, sym, ap}
use Rattle.std.proofs.lemmas.Map.Iter.{rest_all}
use Rattle.std.specs.Map.Iter.{deref_pair}
use Rattle.disk_model.specs.Files.{Files}
use Rattle.disk_model.specs.Record.{Entries, files_in}
use Rattle.disk_model.specs.Images.{spoiled_in}
use Rattle.disk_model.proofs.Spoiled.{spoiled_each}
use Rattle.disk_model.proofs.image.spoil_loose.Goals as goal

pub returns : goal.returns
returns c = λ q.
    let ended = rest_all deref_pair c.loop-name.name-iterator c.next.new.self c.next.result c.in-None.is c.next.ensures.steps in
    sym (ap (λ (es : Entries). spoiled_in c.args.how c.args.events.now es (files_in c.loop-name.files.entries) q) ended)
    ∙ ap (λ (f : Files). f q) c.loop-name.invariant
    ∙ spoiled_each c.args.how c.args.events.now c.args.reading.now.entries c.len-count.ensures.ordered (files_in c.args.files.now.entries) q
