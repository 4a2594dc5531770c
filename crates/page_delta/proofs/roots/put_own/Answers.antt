use Rattle.std.proofs.Common.{◌+◌, ◌%◌, ℕ, Option, Some, sym, subst, arith}
use Rattle.page_pool.specs.Pool.{count_at}
use Rattle.page_delta.specs.Totals.{total}
use Rattle.page_delta.specs.Delta.{uses}
use Rattle.page_delta.specs.Shared.{IsShared}
use Rattle.page_delta.specs.Roots.{roots}
use Rattle.page_delta.specs.declared.entry.Entry.{Entry}
use Rattle.page_delta.proofs.Pools.{uses-le, keeps-trans}
use Rattle.page_delta.proofs.Rooted.{kept-closed, shared-with}
use Rattle.page_delta.proofs.RootCopies.{stands-kept}
use Rattle.page_delta.proofs.roots.put_own.Goals as goal

pub look-before-requires-clause-closed : goal.look-before-requires-clause-closed
look-before-requires-clause-closed c = kept-closed c.own_root-root.new.nodes.slots c.own_root-root.new.ids.slots
    c.own_root-root.ensures.kept

pub insert-requires-clause-stands : goal.insert-requires-clause-stands
insert-requires-clause-stands c =
    stands-kept c.own_root-root.new.nodes.slots c.own_root-root.new.ids.slots c.own_root-root.new.pool
    (λ slot. uses slot (Some c.args.entry)) c.own_root-root.ensures.kept
    (c.own_root-root.ensures.held (λ slot. uses slot (Some c.args.entry)) c.requires.held) (λ slot. uses-le slot (Some c.args.entry))

pub returns-clause-puts : goal.returns-clause-puts
returns-clause-puts c =
    let hands = λ (key : ℕ). total (roots key) c.own_root-root.new.ids.slots in
    let own = c.own_root-root.ensures in
    let held = own.held (λ slot. uses slot (Some c.args.entry)) c.requires.held in
    let shared = shared-with c.own_root-root.new.nodes.slots c.own_root-root.new.ids.slots c.own_root-root.new.pool
    (λ slot. 0 + uses slot (Some c.args.entry)) own.kept
    (record { counts = λ slot. (let n = held.counts slot in omega arith); counted = held.counted }) in
    record {
      mid = c.own_root-root.new.nodes.slots;
      root = c.own_root-root.result;
      live = own.live;
      rooted = own.root;
      kept = own.kept;
      own = own.own;
      maps = own.maps;
      before_is = sym c.look-before.ensures;
      differs = c.insert.ensures.inserts.differs;
      levels = c.insert.ensures.inserts.levels;
      placed = c.insert.ensures.inserts.placed own.kept.placed (own.places c.args.entry.slot (c.args.page % 32) c.requires.placed);
      shared = subst (λ (o : Option Entry). IsShared c.insert.new.nodes.slots (count_at c.insert.new.pool) hands (λ slot. 0 + uses slot o))
          (sym c.look-before.ensures) (c.insert.ensures.inserts.shared hands (λ slot. 0) shared);
      few = omega (arith, c.insert.ensures.grows.len, own.grows.len, c.requires.few);
    }

pub returns-clause-keeps : goal.returns-clause-keeps
returns-clause-keeps c = keeps-trans c.args.pool.now c.own_root-root.new.pool c.insert.new.pool c.own_root-root.ensures.keeps
    c.insert.ensures.keeps
