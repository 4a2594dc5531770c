use Rattle.std.proofs.Common.{ap, sym, ◌∙◌}
use Rattle.format_spec.specs.Bytes.{bytes_cmp, is_after}
use Rattle.sys_state.proofs.Last.{ends_in, last_part_is}
use Rattle.sys_state.proofs.reading.canisters.comes_last.Goals as goal

pub returns-in-Some : goal.returns-in-Some
returns-in-Some c =
    let last = c.in-Some.last.now in
    c.lt.ensures ∙ ap (λ k. is_after bytes_cmp k c.args.id.now) (sym (last_part_is c.args.canisters.now last (ends_in c.args.canisters.now last (sym c.in-Some.ensures.value))))
