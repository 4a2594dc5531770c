use Rattle.std.proofs.Common.{ℕ, ◌+◌, Some}
use Rattle.page_pool.specs.Pool.{count_at}
use Rattle.page_delta.specs.Delta.{uses}
use Rattle.page_delta.proofs.Inserting.{Descends, inserted-differs, inserted-levels, inserted-placed, inserted-shared}
use Rattle.page_delta.proofs.tree.insert.Goals as goal

pub returns-clause-inserts : goal.returns-clause-inserts
returns-clause-inserts c =
    let h = c.requires.stands.hands in
    let l = c.requires.stands.loose in
    let upper = c.own_child-upper in
    let lower = c.own_child-lower in
    let leaf = c.own_child-leaf in
    let x0 = c.args.nodes.now.slots in
    let x1 = upper.new.nodes.slots in
    let x2 = lower.new.nodes.slots in
    let x3 = leaf.new.nodes.slots in
    let x4 = c.place.new.nodes.slots in
    let s1 = upper.ensures.shared h l c.requires.stands.shared in
    let s2 = lower.ensures.shared h l s1 in
    let way : Descends x0 x1 x2 x3 x4 c.args.root c.args.page c.args.entry = record {
      upper = upper.result;
      lower = lower.result;
      leaf = leaf.result;
      to_upper = upper.ensures.owned;
      to_lower = lower.ensures.owned;
      to_leaf = leaf.ensures.owned;
      top = c.requires.root;
      hands = h;
      loose = l;
      counts1 = count_at upper.new.pool;
      counts2 = count_at lower.new.pool;
      counts3 = count_at leaf.new.pool;
      shared1 = s1;
      shared2 = s2;
      shared3 = leaf.ensures.shared h l s2;
      now = c.place.ensures.now;
      rest = c.place.ensures.rest;
    } in
    record {
      shared = λ hands loose s.
          let in_hand : ℕ → ℕ = λ slot. loose slot + uses slot (Some c.args.entry) in
          inserted-shared x0 x1 x2 x3 x4 c.args.root c.args.page c.args.entry way (count_at leaf.new.pool) hands loose
          (leaf.ensures.shared hands in_hand (lower.ensures.shared hands in_hand (upper.ensures.shared hands in_hand s)));
      differs = inserted-differs x0 x1 x2 x3 x4 c.args.root c.args.page c.args.entry way;
      placed = inserted-placed x0 x1 x2 x3 x4 c.args.root c.args.page c.args.entry way;
      levels = inserted-levels x0 x1 x2 x3 x4 c.args.root c.args.page c.args.entry way;
    }
