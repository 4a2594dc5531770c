use Rattle.std.proofs.Common.{◌≡◌, ◌≤◌, true, nat_eq, length, subst, sym, arith}
use Rattle.std.specs.List.{list_any, AllByRecursion}
use Rattle.std.proofs.lemmas.Iterator.Adapters.{YieldsList-from_vec}
use Rattle.std.proofs.lemmas.Iterator.Consumers.{YieldsList-turn}
use Rattle.height_store.specs.Bad.{mark_namings}
use Rattle.height_store.specs.Opened.{ReadMark, parts_of, FitNamings}
use Rattle.height_store.specs.Store.{numbers_of}
use Rattle.height_store.proofs.StacksFound.{namings_at, marks_more, heights_more, stacks_more}
use Rattle.height_store.proofs.pages.heights_of.Goals as goal

pub height_of-requires-clause-named : goal.height_of-requires-clause-named
height_of-requires-clause-named c =
    let all = YieldsList-from_vec c.args.marks.items c.into_iter-mark-iterator.ensures.into_iter_gives.0 (omega (arith, c.into_iter-mark-iterator.ensures.into_iter_gives.1)) in
    let t = YieldsList-turn all c.loop-mark.yielded c.loop-mark.mark-iterator c.loop-mark.yielded_by c.next.result c.next.new.self c.in-Some.mark c.in-Some.is c.next.ensures.steps in
    subst (λ (m : ReadMark). AllByRecursion (λ naming. list_any (nat_eq naming.0) (numbers_of c.args.files.now) ≡ true) (mark_namings (parts_of m))) (sym t.1)
    (namings_at (λ naming. list_any (nat_eq naming.0) (numbers_of c.args.files.now) ≡ true) c.args.marks.items (length c.loop-mark.yielded) c.in-Some.mark t.0 c.requires.named)

pub height_of-requires-clause-fits : goal.height_of-requires-clause-fits
height_of-requires-clause-fits c =
    let all = YieldsList-from_vec c.args.marks.items c.into_iter-mark-iterator.ensures.into_iter_gives.0 (omega (arith, c.into_iter-mark-iterator.ensures.into_iter_gives.1)) in
    let t = YieldsList-turn all c.loop-mark.yielded c.loop-mark.mark-iterator c.loop-mark.yielded_by c.next.result c.next.new.self c.in-Some.mark c.in-Some.is c.next.ensures.steps in
    subst (λ (m : ReadMark). FitNamings c.args.files.now (mark_namings (parts_of m))) (sym t.1)
    (namings_at (λ naming. AllByRecursion (λ file. file.number ≡ naming.0 → file.index.memory ≤ naming.1) c.args.files.now) c.args.marks.items (length c.loop-mark.yielded) c.in-Some.mark t.0 c.requires.fits)

pub loop-mark-preserved : goal.loop-mark-preserved
loop-mark-preserved c = (
  tt,
  tt,
  record {
    marks = marks_more c.loop-mark.heights.items c.push.new.self.items c.in_ok-height_of.field-0 c.loop-mark.yielded c.in-Some.mark c.in_ok-push.ensures.items c.in_ok-height_of.ensures.mark c.loop-mark.invariant.2.marks;
    good = heights_more c.loop-mark.heights.items c.push.new.self.items c.in_ok-height_of.field-0 c.in_ok-push.ensures.items c.loop-mark.invariant.2.good c.in_ok-height_of.ensures.good;
    stacks = λ all kept. stacks_more all c.loop-mark.heights.items c.push.new.self.items c.in_ok-height_of.field-0 c.in_ok-push.ensures.items (c.loop-mark.invariant.2.stacks all kept) (c.in_ok-height_of.ensures.stacks all kept);
  },
)
