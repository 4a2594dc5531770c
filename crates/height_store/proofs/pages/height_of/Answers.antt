use Rattle.std.proofs.Common.{◌≡◌, ◌∙◌, true, nat_eq, ap, subst, sym}
use Rattle.std.specs.List.{list_any, AllByRecursion}
use Rattle.sys_state.specs.System.{part_of}
use Rattle.height_store.specs.declared.marks.OpenedMark.TheInside.{Inside}
use Rattle.height_store.specs.Bad.{mark_namings}
use Rattle.height_store.specs.Opened.{ReadMark, parts_of, FitNamings}
use Rattle.height_store.specs.Store.{IsHeight, numbers_of}
use Rattle.height_store.proofs.StacksFound.{are_few, are_named, fits_mark, kept_stacks}
use Rattle.height_store.proofs.pages.height_of.Goals as goal

pub stacks_of-requires-clause-few : goal.stacks_of-requires-clause-few
stacks_of-requires-clause-few c =
    are_few c.mark.inside.mark (part_of c.mark.inside.sys) c.deref.result.now c.mark.invariant.good (c.deref.ensures.value ∙ ap (λ (m : Inside). m.mark.memories) c.mark-inside.view_is)

pub stacks_of-requires-clause-named : goal.stacks_of-requires-clause-named
stacks_of-requires-clause-named c =
    are_named c.args.files.now c.mark.inside.mark (part_of c.mark.inside.sys) c.deref.result.now c.mark.invariant.good (c.deref.ensures.value ∙ ap (λ (m : Inside). m.mark.memories) c.mark-inside.view_is)
    (subst (λ (m : ReadMark). AllByRecursion (λ naming. list_any (nat_eq naming.0) (numbers_of c.args.files.now) ≡ true) (mark_namings (parts_of m))) (sym c.mark.view_is) c.requires.named)

is_height : (c : goal.In_ok-chunks) → IsHeight (record { mark = c.mark.inside.mark; system = c.mark.inside.sys; stacks = c.in_ok-stacks.stacks.items })
is_height c = record {
  parts = fits_mark c.args.files.now c.mark.inside.mark (part_of c.mark.inside.sys) c.deref.result.now c.in_ok-stacks.stacks.items c.mark.invariant.good c.mark.invariant.opened (c.deref.ensures.value ∙ ap (λ (m : Inside). m.mark.memories) c.mark-inside.view_is)
      c.in_ok-stacks.ensures.numbers c.in_ok-stacks.ensures.among (subst (λ (m : ReadMark). FitNamings c.args.files.now (mark_namings (parts_of m))) (sym c.mark.view_is) c.requires.fits);
  births = c.mark.invariant.births;
}

pub invariant_of-result : goal.invariant_of-result
invariant_of-result c = record {
  good = is_height c;
  chunks = c.in_ok-chunks.ensures;
}

pub returns-clause-stacks : goal.returns-clause-stacks
returns-clause-stacks c = λ all kept. kept_stacks c.args.files.now all c.in_ok-stacks.stacks.items kept c.in_ok-stacks.ensures.among

pub returns-clause-good : goal.returns-clause-good
returns-clause-good c = is_height c
