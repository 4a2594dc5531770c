use Rattle.std.proofs.Common.{◌∙◌, ℕ, sym, ap, arith}
use Rattle.slab.specs.Slab.{Slab}
use Rattle.page_pool.specs.Pool.{count_at}
use Rattle.page_delta.specs.Totals.{total}
use Rattle.page_delta.specs.Roots.{roots}
use Rattle.page_delta.specs.Nodes.{count_in}
use Rattle.page_delta.specs.declared.node.Node.{Node}
use Rattle.page_delta.proofs.Rooted.{kept-live, shared-with, held-of}
use Rattle.page_delta.proofs.RootCopies.{CopiesRoot, many-counted, stands-kept, root-some, shared-own, kept-own, maps-own, places-own}
use Rattle.page_delta.proofs.roots.own_root.Goals.{After-index_mut}
use Rattle.page_delta.proofs.roots.own_root.Goals as goal

pub index-requires-2 : goal.index-requires-2
index-requires-2 c = kept-live c.args.nodes.now.slots c.args.ids.now.slots c.args.id c.index.result.now c.requires.kept c.index.ensures

pub copy-own-requires-clause-stands : goal.copy-own-requires-clause-stands
copy-own-requires-clause-stands c = stands-kept c.args.nodes.now.slots c.args.ids.now.slots c.args.pool.now c.requires.held.0
    c.requires.kept c.requires.held.1 c.requires.held.2

copied : (c : After-index_mut) → CopiesRoot c.args.nodes.now.slots c.copy-own.new.nodes.slots c.args.ids.now.slots c.args.id c.copy-own.result c.index.result.now c.index_mut.result.now
copied c = record {
  kept = c.requires.kept;
  is = c.index.ensures;
  again_is = c.index_mut.ensures.value;
  many = many-counted c.args.nodes.now.slots c.args.ids.now.slots c.args.id c.count.result c.index.result.now c.requires.kept c.index.ensures (ap count_in c.index-2.ensures ∙ sym c.count.ensures)
      (λ e. omega (arith, c.if-count-eq1.false));
  gone = c.copy-own.ensures.fresh;
  copied = c.copy-own.ensures.copy;
  rest = c.copy-own.ensures.rest;
  looks = c.copy-own.ensures.looks;
  alike = c.copy-own.ensures.alike;
}

pub lower-requires-clause-some : goal.lower-requires-clause-some
lower-requires-clause-some c = root-some c.args.nodes.now.slots c.copy-own.new.nodes.slots c.args.ids.now.slots c.args.id c.copy-own.result c.index.result.now c.index_mut.result.now
    (copied (goal.at.lower-requires-clause-some c).After-index_mut)

pub returns-clause-kept : goal.returns-clause-kept
returns-clause-kept c =
    let xs = c.args.nodes.now.slots in
    let ids = c.args.ids.now.slots in
    let hands : ℕ → ℕ = λ key. total (roots key) ids in
    let t = c.copy-own.ensures.shared hands c.requires.held.0 (shared-with xs ids c.args.pool.now c.requires.held.0 c.requires.kept c.requires.held.1) in
    rw (ap (λ (n : Slab Node). n.slots) c.lower.ensures) (
    kept-own xs c.copy-own.new.nodes.slots ids c.args.id c.copy-own.result c.index.result.now c.index_mut.result.now (copied (goal.at.returns-clause-kept c).After-index_mut)
    (count_at c.copy-own.new.pool) c.requires.held.0 t (omega (arith, c.copy-own.ensures.grows.len, c.requires.few)))

pub returns-clause-held : goal.returns-clause-held
returns-clause-held c = λ loose h.
    let xs = c.args.nodes.now.slots in
    let ids = c.args.ids.now.slots in
    let hands : ℕ → ℕ = λ key. total (roots key) ids in
    let t = c.copy-own.ensures.shared hands loose (shared-with xs ids c.args.pool.now loose c.requires.kept h) in
    rw (ap (λ (n : Slab Node). n.slots) c.lower.ensures) (
    held-of _ c.copy-own.new.pool _ loose (
    shared-own xs c.copy-own.new.nodes.slots ids c.args.id c.copy-own.result c.index.result.now c.index_mut.result.now (copied (goal.at.returns-clause-held c).After-index_mut)
    (count_at c.copy-own.new.pool) loose t) c.copy-own.ensures.counted)

pub returns-clause-maps : goal.returns-clause-maps
returns-clause-maps c =
    rw (ap (λ (n : Slab Node). n.slots) c.lower.ensures)
    (maps-own c.args.nodes.now.slots c.copy-own.new.nodes.slots c.args.ids.now.slots c.args.id c.copy-own.result c.index.result.now c.index_mut.result.now (copied (goal.at.returns-clause-maps c).After-index_mut))

pub returns-clause-places : goal.returns-clause-places
returns-clause-places c =
    rw (ap (λ (n : Slab Node). n.slots) c.lower.ensures)
    (places-own c.args.nodes.now.slots c.copy-own.new.nodes.slots c.args.ids.now.slots c.args.id c.copy-own.result c.index.result.now c.index_mut.result.now (copied (goal.at.returns-clause-places c).After-index_mut))
