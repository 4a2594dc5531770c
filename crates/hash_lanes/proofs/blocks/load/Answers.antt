use Rattle.std.proofs.Common.{rules, ◌≡◌, [], inl, inr, ap, ◌∙◌, arith, slice_index}
use Rattle.std.proofs.lemmas.List.{get_or-set_same, get_or-set_other}
use Rattle.std.proofs.lemmas.Bool.{cases_lt}
use Rattle.hash_lanes.proofs.Windows.{slice_index-window}
use Rattle.hash_lanes.proofs.blocks.load.Goals as goal

pub words-preserved : goal.words-preserved
words-preserved c = (
  search rules,
  λ j k low lt. elim (cases_lt k c.words.i) [
    | inl a ↦ ap (λ v. slice_index v j) (get_or-set_other c.words.words c.words.i k c.load_word.result [] (omega arith)) ∙ c.words.invariant.1 j k low a
    | inr b ↦
        let e : c.words.i ≡ k = omega arith in
        rw (← e) (ap (λ v. slice_index v j) (get_or-set_same c.words.words c.words.i c.load_word.result [] (omega arith)) ∙ c.load_word.ensures j low)
  ],
)

pub returns : goal.returns
returns c j k low lt = slice_index-window c.words.words j k lt ∙ c.words.invariant.1 j k low (omega arith)
