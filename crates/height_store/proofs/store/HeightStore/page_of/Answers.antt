use Rattle.std.proofs.Common.{◌<◌, Option, sym, ◌∙◌, subst}
use Rattle.std.specs.Prelude.{slice_get}
use Rattle.std.specs.Option.{IfSome, IsSomeAnd}
use Rattle.std.proofs.lemmas.Option.{same_Some}
use Rattle.state_spec.specs.Files.{memories_in}
use Rattle.sys_state.specs.System.{part_of}
use Rattle.height_store.specs.Answers.{PageIs}
use Rattle.height_store.specs.Store.{StoredHeight}
use Rattle.height_store.specs.Laws.{stacks_found}
use Rattle.height_store.proofs.store.HeightStore.page_of.Goals as goal

pub read_page-requires-clause-readable : goal.read_page-requires-clause-readable
read_page-requires-clause-readable g c = λ told. stacks_found _ c.args.self.now.heights c.args.height c.in-Some.found.now c.in-Some.ensures (c.requires.readable told)

pub read_page-requires-clause-within : goal.read_page-requires-clause-within
read_page-requires-clause-within g c =
    subst (λ (o : Option StoredHeight). IfSome o (λ h. IsSomeAnd (slice_get (memories_in (part_of h.system)) c.args.file) (λ m. c.args.page < m.1))) (sym c.in-Some.ensures) c.requires.within

pub returns-in_ok-read_page-in-Some-clause-page : goal.returns-in_ok-read_page-in-Some-clause-page
returns-in_ok-read_page-in-Some-clause-page g c = λ told h found.
    subst (λ (h : StoredHeight). PageIs (g.D.Disk.view c.args.disk.now).state.files h c.args.file c.args.page c.read_page.new.into) (same_Some _ h (c.in-Some.ensures ∙ found)) (c.in_ok-read_page-in-Some.ensures.page told)
