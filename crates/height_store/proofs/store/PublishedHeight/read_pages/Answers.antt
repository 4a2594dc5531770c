use Rattle.std.proofs.Common.{ℕ, length, List, ap, sym, ◌∙◌, subst, arith}
use Rattle.std.proofs.lemmas.List.{take_at}
use Rattle.page_file.specs.Files.{NumberedFile}
use Rattle.layer_stack.specs.Stacks.{AreLayers}
use Rattle.height_store.proofs.Heights.{has_stack, same_stack, stack_kept}
use Rattle.height_store.proofs.store.PublishedHeight.read_pages.Goals as goal

pub index-requires : goal.index-requires
index-requires g c = omega (arith, has_stack _ c.args.self.now c.args.file c.self.view_is c.self.invariant.good c.requires.there)

pub read_pages-requires-clause-kept : goal.read_pages-requires-clause-kept
read_pages-requires-clause-kept g c = λ told.
    stack_kept _ _ c.args.self.now c.args.file _ c.self.view_is (c.requires.readable told) (has_stack _ c.args.self.now c.args.file c.self.view_is c.self.invariant.good c.requires.there) c.index.ensures

pub returns-clause-pages : goal.returns-clause-pages
returns-clause-pages g c = λ told stack named layers are.
    let same = same_stack _ c.args.self.now c.args.file stack _ c.self.view_is (has_stack _ c.args.self.now c.args.file c.self.view_is c.self.invariant.good c.requires.there) c.index.ensures named in
    take_at c.read_pages.new.into _ c.in_ok-bytes.bytes.len (omega (arith, c.read_pages.auto.into, c.deref_mut.ensures.len, ap (λ (l : List ℕ). length l) c.deref_mut.ensures.value))
    ∙ c.in_ok-read_pages.ensures.bytes told layers (subst (λ (s : List NumberedFile). AreLayers (g.D.Disk.view c.args.disk.now).state.files s layers) (sym same) are)
