use Rattle.std.proofs.Common.{arith}
use Rattle.page_pool.specs.Pool.{count_at}
use Rattle.page_delta.specs.Totals.{total}
use Rattle.page_delta.specs.Roots.{roots}
use Rattle.page_delta.specs.Shared.{IsShared}
use Rattle.page_delta.proofs.Rooted.{held-of}
use Rattle.page_delta.proofs.RootCalls.{given-dropped, kept-dropped, maps-dropped, none-held}
use Rattle.page_delta.proofs.roots.drop_root.Goals.{After-release}
use Rattle.page_delta.proofs.roots.drop_root.Goals as goal

pub release-requires-clause-shared : goal.release-requires-clause-shared
release-requires-clause-shared c = (
  (λ m. total (roots m) c.remove-root.new.self.slots),
  (λ slot. 0),
  given-dropped c.args.ids.now.slots c.remove-root.new.self.slots c.args.id c.remove-root.result c.remove-root.ensures.value c.remove-root.ensures.updates.changed c.remove-root.ensures.updates.others c.args.nodes.now.slots c.args.pool.now c.requires.kept c.requires.held,
)

released : (c : After-release) → IsShared c.release.new.nodes.slots (count_at c.release.new.pool) (λ m. total (roots m) c.remove-root.new.self.slots) (λ slot. 0)
released c = c.release.ensures.shared (λ m. total (roots m) c.remove-root.new.self.slots) (λ slot. 0)
    (given-dropped c.args.ids.now.slots c.remove-root.new.self.slots c.args.id c.remove-root.result c.remove-root.ensures.value c.remove-root.ensures.updates.changed c.remove-root.ensures.updates.others c.args.nodes.now.slots c.args.pool.now c.requires.kept c.requires.held)

pub returns-clause-kept : goal.returns-clause-kept
returns-clause-kept c =
    kept-dropped c.args.ids.now.slots c.remove-root.new.self.slots c.args.id c.remove-root.result c.remove-root.ensures.value c.remove-root.ensures.updates.changed c.remove-root.ensures.updates.others
    c.args.nodes.now.slots c.release.new.nodes.slots c.requires.kept c.release.ensures.shrinks (count_at c.release.new.pool) (λ slot. 0)
    (released (goal.at.returns-clause-kept c).After-release) (omega (arith, c.release.ensures.grows.len, c.requires.kept.few_nodes))

pub returns-clause-held : goal.returns-clause-held
returns-clause-held c =
    held-of c.release.new.nodes.slots c.release.new.pool (λ m. total (roots m) c.remove-root.new.self.slots) (λ slot. 0)
    (released (goal.at.returns-clause-held c).After-release) c.release.ensures.counted

pub returns-clause-others : goal.returns-clause-others
returns-clause-others c =
    maps-dropped c.args.ids.now.slots c.remove-root.new.self.slots c.args.id c.remove-root.result c.remove-root.ensures.value c.remove-root.ensures.updates.changed c.remove-root.ensures.updates.others
    c.args.nodes.now.slots c.release.new.nodes.slots c.requires.kept c.release.ensures.shrinks (count_at c.release.new.pool) (λ slot. 0)
    (released (goal.at.returns-clause-others c).After-release)

pub returns-clause-none : goal.returns-clause-none
returns-clause-none c = λ dead slot.
    let s = released (goal.at.returns-clause-none c).After-release in
    let held = s.held slot in
    let zero_is = none-held c.release.new.nodes.slots c.remove-root.new.self.slots (count_at c.release.new.pool) (λ slot. 0) s dead slot in
    omega arith
