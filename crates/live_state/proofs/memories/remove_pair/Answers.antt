use Rattle.std.proofs.Common.{◌≡◌, ◌*◌, arith}
use Rattle.std.specs.List.{remove}
use Rattle.live_state.proofs.Pairs.{remove_twice}
use Rattle.live_state.proofs.memories.remove_pair.Goals as goal

pub returns : goal.returns
returns c =
    let at = 2 * c.args.place in
    let one : c.remove.new.self.items ≡ remove c.args.memories.now.items at = c.remove.ensures.items in
    let two : c.remove-2.new.self.items ≡ remove c.remove.new.self.items at = c.remove-2.ensures.items in
    rw (two, one) (remove_twice (λ v. v.items) c.args.memories.now.items at (omega arith))
