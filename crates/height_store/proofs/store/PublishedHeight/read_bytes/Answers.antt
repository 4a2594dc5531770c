use Rattle.std.proofs.Common.{◌+◌, ◌∙◌, ap, sym, take, drop}
use Rattle.format_spec.specs.Bytes.{Bytes}
use Rattle.height_store.proofs.Places.{range_fits, memory_shown}
use Rattle.height_store.proofs.store.PublishedHeight.read_bytes.Goals as goal

pub read_range-requires-clause-at_most : goal.read_range-requires-clause-at_most
read_range-requires-clause-at_most g c = range_fits c.args.self.now c.args.file (c.args.offset + c.args.len) c.sys-sys.ensures.good c.requires.within

pub returns-clause-bytes : goal.returns-clause-bytes
returns-clause-bytes g c = λ told p memory shows of.
    let there = memory_shown (g.D.Disk.view c.args.disk.now).state.files c.args.self.now p c.args.file memory shows of in
    c.from_vec.ensures ∙ c.in_ok-bytes.ensures.range told there.0 there.1 there.2 there.3 there.4 there.5
    ∙ ap (λ (bytes : Bytes). take c.args.len (drop c.args.offset bytes)) (sym there.6)

pub returns-clause-range : goal.returns-clause-range
returns-clause-range g c = λ told m stack layers at named are. c.from_vec.ensures ∙ c.in_ok-bytes.ensures.range told m stack layers at named are
