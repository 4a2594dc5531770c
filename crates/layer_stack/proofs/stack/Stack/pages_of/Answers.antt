use Rattle.std.proofs.Common.{◌≡◌, ◌-◌, length, take, drop, ap, ◌∙◌}
use Rattle.std.proofs.lemmas.List.{take_rest, take_all}
use Rattle.layer_stack.proofs.Unions.{pages_are}
use Rattle.layer_stack.proofs.stack.Stack.pages_of.Goals as goal

pub returns : goal.returns
returns c =
    let d = c.deref.result.now in
    let layers = take (length d - c.args.from) (drop c.args.from d) in
    let same : layers ≡ drop c.args.from c.args.self.now = take_rest d c.args.from ∙ ap (drop c.args.from) (c.deref.ensures.value ∙ c.self.view_is) in
    let all : take c.loop-file.file-index layers ≡ drop c.args.from c.args.self.now = take_all c.loop-file.file-index layers c.loop-file-test.false ∙ same in
    pages_are c.loop-file.marks.items layers (drop c.args.from c.args.self.now) (take c.loop-file.file-index layers) c.deref-2.result.now c.marked_pages.result same all c.deref-2.ensures.value
    c.memory_of-memory.result c.loop-file.invariant.long c.memory_of-memory.ensures.ends c.loop-file.invariant.marked c.marked_pages.ensures
