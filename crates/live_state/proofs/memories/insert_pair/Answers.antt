use Rattle.std.proofs.Common.{◌≡◌, ◌*◌, true, arith}
use Rattle.std.specs.List.{insert}
use Rattle.std.specs.Result.{is_ok}
use Rattle.live_state.proofs.Pairs.{insert_twice}
use Rattle.live_state.proofs.memories.insert_pair.Goals as goal

pub returns : goal.returns
returns c =
    let at = 2 * c.args.place in
    let first : is_ok c.insert.result ≡ true = c.insert.ensures.succeeds (omega arith) in
    let longer = rw first at c.insert.ensures.len in
    let second : is_ok c.insert-2.result ≡ true = c.insert-2.ensures.succeeds (omega (arith, longer)) in
    let one : c.insert.new.self.items ≡ insert c.args.memories.now.items at c.new.result = rw first at c.insert.ensures.items in
    let two : c.insert-2.new.self.items ≡ insert c.insert.new.self.items at c.new-2.result = rw second at c.insert-2.ensures.items in
    rw (two, one) (insert_twice (λ v. v.items) c.args.memories.now.items at c.new.result c.new-2.result (omega arith) c.new.ensures.items c.new-2.ensures.items)
