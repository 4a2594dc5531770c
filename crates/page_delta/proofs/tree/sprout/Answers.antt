use Rattle.std.proofs.Common.{◌≡◌, ◌-◌, ◌∙◌, sym, ap, subst, arith}
use Rattle.page_delta.specs.Nodes.{level_in, node_at}
use Rattle.page_delta.proofs.Owning.{IsEmpty, Sprouts, is_empty, shared-sprout, owned-sprout}
use Rattle.page_delta.proofs.tree.sprout.Goals.{After-link}
use Rattle.page_delta.proofs.tree.sprout.Goals as goal

sprouts : (c : After-link) → Sprouts c.args.nodes.now.slots c.put-fresh.new.nodes.slots c.link.new.nodes.slots c.args.parent c.args.digit c.put-fresh.result (c.level-level.result - 1) c.empty.result
sprouts c =
    let is : level_in (node_at c.args.nodes.now.slots c.args.parent) ≡ c.level-level.result = ap level_in c.index.ensures ∙ sym c.level-level.ensures in
    record {
      empty = subst (λ n. IsEmpty n (c.level-level.result - 1)) (sym c.empty.ensures) (is_empty (c.level-level.result - 1));
      high = omega (arith, c.requires.parent, is);
      none = c.requires.none;
      below = c.requires.digit;
      puts = record { gone = c.put-fresh.ensures.fresh; here = c.put-fresh.ensures.here; rest = c.put-fresh.ensures.rest };
      link = c.link.ensures.now;
      rest = c.link.ensures.rest;
    }

pub returns-clause-shared : goal.returns-clause-shared
returns-clause-shared c =
    shared-sprout c.args.nodes.now.slots c.put-fresh.new.nodes.slots c.link.new.nodes.slots c.args.parent c.args.digit c.put-fresh.result (c.level-level.result - 1) c.empty.result
    (sprouts (goal.at.returns-clause-shared c).After-link)

pub returns-clause-owned : goal.returns-clause-owned
returns-clause-owned c =
    let s = c.requires.shared in
    owned-sprout c.args.nodes.now.slots c.put-fresh.new.nodes.slots c.link.new.nodes.slots c.args.parent c.args.digit c.put-fresh.result (c.level-level.result - 1) c.empty.result
    (sprouts (goal.at.returns-clause-owned c).After-link) s.0 s.1 s.2 s.3
