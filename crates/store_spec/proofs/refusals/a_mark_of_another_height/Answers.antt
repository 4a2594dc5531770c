use Rattle.std.proofs.Common.{refl, ap, sym, ◌∙◌, arith}
use Rattle.store_spec.specs.Mark.{Mark}
use Rattle.store_spec.specs.Mark.{mark_text}
use Rattle.store_spec.specs.Example.{one_mark, one_system}
use Rattle.store_spec.proofs.GoodMark.{one_mark-IsMark}
use Rattle.store_spec.proofs.Marks.{mark_once}
use Rattle.store_spec.proofs.refusals.a_mark_of_another_height.Goals as goal

pub returns : goal.returns
returns c = λ m s h.
    let same = (mark_once 2 1 (mark_text one_mark) m one_mark s one_system h (record { spelled = refl; good = one_mark-IsMark; of_height = refl })).0 in
    let two = sym h.of_height ∙ ap (λ (x : Mark). x.height) same in
    absurd (omega (arith, two))
