use Rattle.std.proofs.Common.{not, ap, sym, ◌∙◌}
use Rattle.sys_state.proofs.Last.{ends_in, above_last, not_above_last}
use Rattle.sys_state.proofs.reading.entries.comes_last.Goals as goal

pub returns-then-lt : goal.returns-then-lt
returns-then-lt c =
    let last = c.in-Some.last.now in
    let end = ends_in c.args.entries.now last (sym c.in-Some.ensures.value) in
    ap not c.begins.ensures ∙ sym (above_last c.args.path.now c.args.entries.now last end c.requires.sorted c.requires.apart (sym c.lt.ensures ∙ c.if-lt.true))

pub returns-else-lt : goal.returns-else-lt
returns-else-lt c =
    let last = c.in-Some.last.now in
    let end = ends_in c.args.entries.now last (sym c.in-Some.ensures.value) in
    c.if-lt.false ∙ sym (not_above_last c.args.path.now c.args.entries.now last end (sym c.lt.ensures ∙ c.if-lt.false))
