use Rattle.std.proofs.Common.{arith}
use Rattle.height_store.proofs.Heights.{has_stack, some_there, stack_kept, page_there}
use Rattle.height_store.proofs.store.PublishedHeight.read_page.Goals as goal

pub index-requires : goal.index-requires
index-requires g c = omega (arith, has_stack _ c.args.self.now c.args.file c.self.view_is c.self.invariant.good (some_there _ _ c.requires.within))

pub read-requires : goal.read-requires
read-requires g c = λ told.
    stack_kept _ _ c.args.self.now c.args.file _ c.self.view_is (c.requires.readable told) (has_stack _ c.args.self.now c.args.file c.self.view_is c.self.invariant.good (some_there _ _ c.requires.within)) c.index.ensures

pub returns-clause-page : goal.returns-clause-page
returns-clause-page g c = λ told stack layers.
    page_there _ _ c.args.self.now c.args.file c.args.page stack _ layers _ c.self.view_is (has_stack _ c.args.self.now c.args.file c.self.view_is c.self.invariant.good (some_there _ _ c.requires.within)) c.index.ensures
    (c.in_ok-_found.ensures.bytes told)
