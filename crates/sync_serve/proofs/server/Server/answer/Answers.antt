use Rattle.std.proofs.Common.{sym, subst}
use Rattle.height_store.specs.Laws.{stands_shown}
use Rattle.store_spec.specs.Image.{StandsFor}
use Rattle.sync_serve.proofs.server.Server.answer.Goals as goal

pub returns-clause-serves : goal.returns-clause-serves
returns-clause-serves g c = λ told ps stands.
    c.answer_over.ensures.serves told ps (stands_shown c.self.inside.store.heights _ ps c.self.invariant.0 (c.self.invariant.1 told) (subst (λ s. StandsFor (g.D.Disk.view s.disk).state.files ps) (sym c.self.view_is) stands))
