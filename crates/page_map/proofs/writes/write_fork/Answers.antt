use Rattle.std.proofs.Common.{◌∙◌, ap, sym}
use Rattle.format_spec.specs.Bytes.{Bytes}
use Rattle.state_spec.specs.Memory.{with_bytes_at}
use Rattle.page_map.specs.Maps.{own_at}
use Rattle.page_map.proofs.Lives.{same_bytes}
use Rattle.page_map.proofs.Written.{apart, writes_along}
use Rattle.page_map.proofs.writes.write_fork.Goals as goal

pub returns-in-Ok-clause-written : goal.returns-in-Ok-clause-written
returns-in-Ok-clause-written g c =
    let ne = apart c.args.own.now c.args.id c.in_ok-fork.fork c.in_ok-fork.ensures.added.fresh c.requires.live in
    writes_along (own_at c.fork.new.self c.in_ok-fork.fork) (own_at c.write_pages.new.own c.in_ok-fork.fork) (own_at c.args.own.now c.args.id) (own_at c.give_up.new.self c.in_ok-fork.fork) c.args.stamp c.args.pages.0 c.args.pages.1
    (λ q. sym (c.in_ok-fork.ensures.added.here q)) (λ q. c.give_up.ensures.others.own c.in_ok-fork.fork q ne) c.in-Ok.ensures.written

pub returns-in-Ok-clause-bytes : goal.returns-in-Ok-clause-bytes
returns-in-Ok-clause-bytes g c = λ told layers count are within.
    let ne = apart c.args.own.now c.args.id c.in_ok-fork.fork c.in_ok-fork.ensures.added.fresh c.requires.live in
    same_bytes layers (own_at c.give_up.new.self c.in_ok-fork.fork) (own_at c.write_pages.new.own c.in_ok-fork.fork) count (λ q. c.give_up.ensures.others.own c.in_ok-fork.fork q ne)
    ∙ c.in-Ok.ensures.bytes told layers count are within
    ∙ ap (λ (s : Bytes). with_bytes_at s c.args.at c.args.bytes.now) (same_bytes layers (own_at c.fork.new.self c.in_ok-fork.fork) (own_at c.args.own.now c.args.id) count (λ q. c.in_ok-fork.ensures.added.here q))
