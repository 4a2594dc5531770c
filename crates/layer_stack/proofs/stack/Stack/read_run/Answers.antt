use Rattle.std.proofs.Common.{◌*◌, take, arith, slice_index}
use Rattle.std.proofs.lemmas.List.{length-take-le}
use Rattle.layer_stack.proofs.RunBytes.{run_within, run_kept, run_read, run_of_none}
use Rattle.layer_stack.proofs.stack.Stack.read_run.Goals as goal

pub read_pages-requires-clause-within : goal.read_pages-requires-clause-within
read_pages-requires-clause-within g c =
    let count = c.run_of-count.result in
    let pages = c.args.pages.now in
    let taken = length-take-le count pages c.run_of-count.ensures.count in
    let fits = run_within c.args.self.now c.in-Some.i c.self.inside.layers.items c.index.result.now c.self.view_is c.index.ensures (take count pages) c.in-Some.place (omega (arith, taken, c.run_of-count.ensures.some)) c.run_of-count.ensures.run in
    omega (arith, fits, taken, length-take-le (count * 4096) c.args.into.now (omega (arith, c.run_of-count.ensures.count, c.requires.size)))

pub returns-in_ok-read_pages-in-Some-clause-bytes :
    goal.returns-in_ok-read_pages-in-Some-clause-bytes
returns-in_ok-read_pages-in-Some-clause-bytes g c = λ told layers are.
    run_read c.args.self.now c.in-Some.i c.self.inside.layers.items c.index.result.now c.self.view_is c.index.ensures (g.D.Disk.view c.args.disk.now).state.files layers are
    c.args.pages.now c.in-Some.place c.run_of-count.result _ c.read_pages.new.into _ c.requires.some c.run_of-count.ensures.count c.run_of-count.ensures.run
    (run_kept c.args.self.now c.in-Some.i c.self.inside.layers.items c.index.result.now c.self.view_is c.index.ensures (g.D.Disk.view c.args.disk.now).state.files (slice_index c.args.pages.now 0) c.in-Some.place c.in-Some.ensures (c.requires.kept told))
    (length-take-le (c.run_of-count.result * 4096) c.args.into.now (omega (arith, c.run_of-count.ensures.count, c.requires.size)))
    c.read_pages.auto.into (c.in_ok-read_pages-in-Some.ensures.pages told)

pub returns-in-None-clause-bytes : goal.returns-in-None-clause-bytes
returns-in-None-clause-bytes g c = λ told layers are.
    run_of_none c.args.self.now c.args.pages.now (g.D.Disk.view c.args.disk.now).state.files layers c.clear.new.bytes c.args.into.now c.requires.some are c.in-None.ensures c.clear.ensures
