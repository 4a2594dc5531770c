use Rattle.std.proofs.Common.{◌≡◌, ◌+◌, arith}
use Rattle.slot_links.specs.Rings.{Fields}
use Rattle.slot_links.proofs.Sound.{AreAlone, sound-new, seen-new}
use Rattle.slot_links.proofs.links.Links.new.Goals as goal

pub invariant_of-result : goal.invariant_of-result
invariant_of-result c =
    let nodes : c.in-Some.nodes ≡ c.args.items + c.args.lists = omega (arith, c.in-Some.ensures) in
    let f : Fields = record { next = c.in_ok-next.next.items; previous = c.in_ok-previous.previous.items; owner = c.in_ok-owner.owner.items; items = c.args.items; lists = c.args.lists } in
    let new : AreAlone f = record {
      next = λ n below. c.in_ok-next.ensures.numbers n (omega arith);
      previous = λ n below. c.in_ok-previous.ensures.numbers n (omega arith);
      items = c.in_ok-owner.ensures.items;
      lists = c.in_ok-owner.ensures.lists;
    } in
    sound-new f new (omega (arith, c.in_ok-next.ensures.len)) (omega (arith, c.in_ok-previous.ensures.len)) (omega (arith, c.in_ok-owner.ensures.len)) (omega arith)

pub returns : goal.returns
returns c =
    let nodes : c.in-Some.nodes ≡ c.args.items + c.args.lists = omega (arith, c.in-Some.ensures) in
    let f : Fields = record { next = c.in_ok-next.next.items; previous = c.in_ok-previous.previous.items; owner = c.in_ok-owner.owner.items; items = c.args.items; lists = c.args.lists } in
    seen-new f record {
      next = λ n below. c.in_ok-next.ensures.numbers n (omega arith);
      previous = λ n below. c.in_ok-previous.ensures.numbers n (omega arith);
      items = c.in_ok-owner.ensures.items;
      lists = c.in_ok-owner.ensures.lists;
    }
