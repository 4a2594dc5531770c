use Rattle.std.proofs.Common.{◌≡◌, ◌+◌, ◌<◌, ◌∙◌, ℕ, length, Some, drop, refl, sym, ap, subst, arith}
use Rattle.page_pool.specs.Pool.{count_at}
use Rattle.slab.specs.Slab.{Slab}
use Rattle.page_delta.specs.Totals.{total}
use Rattle.page_delta.specs.Delta.{uses}
use Rattle.page_delta.specs.Nodes.{node_at, once, level_in, count_in, names}
use Rattle.page_delta.specs.Shared.{IsShared, slots_in}
use Rattle.page_delta.specs.declared.node.Node.{Node}
use Rattle.page_delta.specs.declared.node.Node.TheVariants.{Branch, Leaf}
use Rattle.page_delta.proofs.Sharing.{shared-counts, shared-as}
use Rattle.page_delta.proofs.Pools.{keeps-trans}
use Rattle.page_delta.proofs.Releasing.{in-hand, shared-lower, shared-taken, uses-enough, hand-over, pass-over, all-over, child-level, shrinks-taken, shrinks-trans}
use Rattle.page_delta.proofs.tree.+release.Goals as goal
use Rattle.page_delta.proofs.tree.+release.Goals.{in-Some, in_default}

pub returns-then-count-gt1-clause-shared : goal.returns-then-count-gt1-clause-shared
returns-then-count-gt1-clause-shared t c = λ hands loose s.
    let xs = c.args.nodes.now.slots in
    let counts = count_at c.args.pool.now in
    let is : count_in (node_at xs c.args.node) ≡ c.count.result = ap count_in c.index.ensures ∙ sym c.count.ensures in
    subst (λ (n : Slab Node). IsShared n.slots counts hands loose) (sym c.lower.ensures)
    (shared-lower xs c.args.node (in-hand xs counts hands loose c.args.node s).1 counts hands loose (omega (arith, c.if-count-gt1.true)) s)

pub release_each-requires-clause-enough : goal.release_each-requires-clause-enough
release_each-requires-clause-enough t c =
    let s = c.requires.shared in
    rw c.all.ensures (uses-enough c.args.nodes.now.slots (count_at c.args.pool.now) (λ m. s.0 m + once m (Some c.args.node)) s.1 c.args.node c.in-Leaf.count c.in-Leaf.entries s.2 c.in-Leaf.ensures.was)

pub loop-digit-init : goal.loop-digit-init
loop-digit-init t c = record {
  shared = λ hands loose s.
      let few : count_in (node_at c.args.nodes.now.slots c.args.node) ≡ c.count.result = ap count_in c.index.ensures ∙ sym c.count.ensures in
      let node = Branch c.in-Branch.count c.in-Branch.level c.in-Branch.children in
      let taken = shared-taken c.args.nodes.now.slots c.take.new.nodes.slots (count_at c.args.pool.now) hands loose c.args.node node s c.in-Branch.ensures.was c.take.ensures.gone c.take.ensures.rest (omega (arith, c.if-count-gt1.false)) in
      shared-as c.take.new.nodes.slots (count_at c.args.pool.now) (λ m. hands m + names m (Some node)) (λ m. hands m + total (once m) (drop 0 c.in-Branch.children)) (λ slot. loose slot + slots_in slot (Some node)) loose taken (λ m. refl) (λ slot. omega arith);
  counted = c.requires.counted;
  shrinks = shrinks-taken c.args.nodes.now.slots c.take.new.nodes.slots c.args.node c.take.ensures.gone c.take.ensures.rest;
  grows = record { len = omega (arith, c.take.ensures.len); capacity = c.take.ensures.capacity };
  keeps = λ s here. (here, refl);
}

pub release-requires : goal.release-requires
release-requires t c =
    let s = c.requires.shared in
    let high = s.2.tall c.args.node c.in-Branch.count c.in-Branch.level c.in-Branch.children c.in-Branch.ensures.was in
    let level_is : level_in (node_at c.args.nodes.now.slots c.args.node) ≡ c.in-Branch.level = ap level_in c.in-Branch.ensures.was in
    let kids = c.in-Branch.children in
    let here = sym c.at.ensures ∙ c.in-Some.is in
    let inside : c.loop-digit.digit < length kids = omega (arith, s.2.wide c.args.node (Branch c.in-Branch.count c.in-Branch.level kids) c.in-Branch.ensures.was) in
    let over = hand-over c.loop-digit.nodes.slots (count_at c.loop-digit.pool) s.0 s.1 kids c.loop-digit.digit c.in-Some.child inside here (c.loop-digit.invariant.shared s.0 s.1 s.2) in
    let hands = λ (m : ℕ). s.0 m + total (once m) (drop (c.loop-digit.digit + 1) kids) in
    let below = child-level c.args.nodes.now.slots c.loop-digit.nodes.slots (count_at c.args.pool.now) (λ m. s.0 m + once m (Some c.args.node)) s.1 (count_at c.loop-digit.pool) hands s.1
    c.args.node c.in-Branch.count c.in-Branch.level c.loop-digit.digit c.in-Some.child kids s.2 c.in-Branch.ensures.was here c.loop-digit.invariant.shrinks over in
    (omega (arith, c.requires.level, c.decreases), ((hands, s.1, over), (c.loop-digit.invariant.counted, omega (arith, c.requires.level, below))))

pub loop-digit-preserved : goal.loop-digit-preserved
loop-digit-preserved t c =
    let kids = c.in-Branch.children in
    let inside : c.loop-digit.digit < length kids = omega (arith, c.requires.shared.2.wide c.args.node (Branch c.in-Branch.count c.in-Branch.level kids) c.in-Branch.ensures.was) in
    elim c.match-at.branch [
      | in-Some w ↦
          rw (w.nodes-is, w.pool-is) record {
            shared = λ hands loose s.
                w.release.ensures.shared (λ m. hands m + total (once m) (drop (c.loop-digit.digit + 1) kids)) loose
                (hand-over c.loop-digit.nodes.slots (count_at c.loop-digit.pool) hands loose kids c.loop-digit.digit w.in-Some.child inside (sym c.at.ensures ∙ w.in-Some.is) (c.loop-digit.invariant.shared hands loose s));
            counted = w.release.ensures.counted;
            shrinks = shrinks-trans c.args.nodes.now.slots c.loop-digit.nodes.slots w.release.new.nodes.slots c.loop-digit.invariant.shrinks w.release.ensures.shrinks;
            grows = record { len = omega (arith, w.release.ensures.grows.len, c.loop-digit.invariant.grows.len); capacity = w.release.ensures.grows.capacity ∙ c.loop-digit.invariant.grows.capacity };
            keeps = keeps-trans c.args.pool.now c.loop-digit.pool w.release.new.pool c.loop-digit.invariant.keeps w.release.ensures.keeps;
          }
      | in_default w ↦
          rw (w.nodes-is, w.pool-is) record {
            shared = λ hands loose s. pass-over c.loop-digit.nodes.slots (count_at c.loop-digit.pool) hands loose kids c.loop-digit.digit inside (sym c.at.ensures ∙ w.in_default.is) (c.loop-digit.invariant.shared hands loose s);
            counted = c.loop-digit.invariant.counted;
            shrinks = c.loop-digit.invariant.shrinks;
            grows = c.loop-digit.invariant.grows;
            keeps = c.loop-digit.invariant.keeps;
          }
    ]

pub returns-in-Leaf-clause-shared : goal.returns-in-Leaf-clause-shared
returns-in-Leaf-clause-shared t c = λ hands loose s.
    let leaf = Leaf c.in-Leaf.count c.in-Leaf.entries in
    let counts = count_at c.args.pool.now in
    let few : count_in (node_at c.args.nodes.now.slots c.args.node) ≡ c.count.result = ap count_in c.index.ensures ∙ sym c.count.ensures in
    let taken = shared-taken c.args.nodes.now.slots c.take.new.nodes.slots counts hands loose c.args.node leaf s c.in-Leaf.ensures.was c.take.ensures.gone c.take.ensures.rest (omega (arith, c.if-count-gt1.false)) in
    let handed : ℕ → ℕ = λ slot. loose slot + slots_in slot (Some leaf) in
    shared-counts c.take.new.nodes.slots counts (count_at c.release_each.new.pool) hands handed loose
    (shared-as c.take.new.nodes.slots counts (λ m. hands m + names m (Some leaf)) hands handed handed taken (λ m. omega arith) (λ slot. refl))
    (λ slot. let m = c.release_each.ensures.counts slot in let same = ap (total (uses slot)) c.all.ensures in omega arith)

pub returns-after-loop-digit-clause-shared : goal.returns-after-loop-digit-clause-shared
returns-after-loop-digit-clause-shared t c = λ hands loose s.
    let kids = c.in-Branch.children in
    let wide : length kids ≡ 32 = c.requires.shared.2.wide c.args.node (Branch c.in-Branch.count c.in-Branch.level kids) c.in-Branch.ensures.was in
    all-over c.loop-digit.nodes.slots (count_at c.loop-digit.pool) hands loose kids c.loop-digit.digit (omega (arith, wide)) (c.loop-digit.invariant.shared hands loose s)
