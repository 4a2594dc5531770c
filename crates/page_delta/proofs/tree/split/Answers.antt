use Rattle.std.proofs.Common.{◌≡◌, ℕ, ◌-◌, List, Option, set, refl, ap}
use Rattle.page_pool.specs.Pool.{count_at}
use Rattle.slab.specs.Slab.{Slab}
use Rattle.page_delta.specs.Nodes.{node_at, node_with_count, count_in}
use Rattle.page_delta.specs.Shared.{IsShared}
use Rattle.page_delta.specs.declared.node.Node.{Node}
use Rattle.page_delta.proofs.Looks.{child-live}
use Rattle.page_delta.proofs.Owning.{Splits, some_left, shared-split, owned-split}
use Rattle.page_delta.proofs.tree.split.Goals.{After-link}
use Rattle.page_delta.proofs.tree.split.Goals as goal

pub copy-fresh-requires-clause-node : goal.copy-fresh-requires-clause-node
copy-fresh-requires-clause-node c = child-live c.args.nodes.now.slots (count_at c.args.pool.now) c.requires.stands.hands c.requires.stands.loose c.args.parent c.args.digit c.args.child c.requires.stands.shared c.requires.child

abbrev lowered : List (Option Node) → ℕ → List (Option Node)
lowered nodes child = set nodes child (node_with_count (node_at nodes child) (count_in (node_at nodes child) - 1))

splits : (c : After-link) (zs : List (Option Node)) (hands loose : ℕ → ℕ) → IsShared c.args.nodes.now.slots (count_at c.args.pool.now) hands loose → zs ≡ lowered c.link.new.nodes.slots c.args.child
    → Splits c.args.nodes.now.slots c.copy-fresh.new.nodes.slots c.link.new.nodes.slots zs c.args.parent c.args.digit c.args.child c.copy-fresh.result (count_at c.args.pool.now) hands loose
splits c zs hands loose s is = record {
  shared = s;
  high = c.requires.parent;
  was = c.requires.child;
  many = c.requires.many;
  below = c.requires.digit;
  gone = c.copy-fresh.ensures.fresh;
  copied = c.copy-fresh.ensures.copy;
  rest = c.copy-fresh.ensures.rest;
  looks = c.copy-fresh.ensures.looks;
  alike = c.copy-fresh.ensures.alike;
  link = c.link.ensures.now;
  rest_link = c.link.ensures.rest;
  lowered = is;
}

pub lower-requires-clause-some : goal.lower-requires-clause-some
lower-requires-clause-some c =
    let zs = lowered c.link.new.nodes.slots c.args.child in
    some_left c.args.nodes.now.slots c.copy-fresh.new.nodes.slots c.link.new.nodes.slots zs c.args.parent c.args.digit c.args.child c.copy-fresh.result (count_at c.args.pool.now) c.requires.stands.hands c.requires.stands.loose
    (splits (goal.at.lower-requires-clause-some c).After-link zs c.requires.stands.hands c.requires.stands.loose c.requires.stands.shared refl)

pub returns-clause-shared : goal.returns-clause-shared
returns-clause-shared c = λ hands loose s.
    shared-split c.args.nodes.now.slots c.copy-fresh.new.nodes.slots c.link.new.nodes.slots c.lower.new.nodes.slots c.args.parent c.args.digit c.args.child c.copy-fresh.result (count_at c.args.pool.now) hands loose
    (splits (goal.at.returns-clause-shared c).After-link c.lower.new.nodes.slots hands loose s (ap (λ (n : Slab Node). n.slots) c.lower.ensures))
    (count_at c.copy-fresh.new.pool) hands loose (c.copy-fresh.ensures.shared hands loose s)

pub returns-clause-owned : goal.returns-clause-owned
returns-clause-owned c =
    owned-split c.args.nodes.now.slots c.copy-fresh.new.nodes.slots c.link.new.nodes.slots c.lower.new.nodes.slots c.args.parent c.args.digit c.args.child c.copy-fresh.result (count_at c.args.pool.now) c.requires.stands.hands c.requires.stands.loose
    (splits (goal.at.returns-clause-owned c).After-link c.lower.new.nodes.slots c.requires.stands.hands c.requires.stands.loose c.requires.stands.shared (ap (λ (n : Slab Node). n.slots) c.lower.ensures))
