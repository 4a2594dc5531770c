use Rattle.std.proofs.Common.{◌≡◌, ◌∙◌, ℕ, Err, ap, sym, subst, eqb-true, eq-eqb}
use Rattle.std.specs.List.{AllByRecursion}
use Rattle.store_spec.specs.Mark.{Mark}
use Rattle.store_spec.proofs.Marks.{mark_once}
use Rattle.sys_state.specs.System.{part_of}
use Rattle.mark_file.specs.Spells.{DecodesBoth}
use Rattle.height_store.proofs.marks.spelled_mark.Goals as goal

pub returns-in-Err-BadMark-clause-bad : goal.returns-in-Err-BadMark-clause-bad
returns-in-Err-BadMark-clause-bad c = λ n is m s spelled opened.
    (subst (λ e. DecodesBoth c.args.height c.args.text.now (Err e)) c.in-Err-BadMark.field-0-is c.in-Err-BadMark.ensures.exact).1 m (s, spelled)

-- the text spells one mark, and that is of another version
pub returns-then-mark-ne1-clause-bad : goal.returns-then-mark-ne1-clause-bad
returns-then-mark-ne1-clause-bad c = λ n is m s spelled opened.
    let same = (mark_once c.args.height c.args.height c.args.text.now c.in-Ok.mark m (part_of c.in-Ok.sys) s c.in-Ok.ensures.exact.mark spelled).0 in
    c.if-mark-ne1.true (ap (λ (k : Mark). k.version) c.mark.view_is ∙ ap (λ (k : Mark). k.version) same ∙ eqb-true m.version 1 opened)

pub invariant_of-result : goal.invariant_of-result
invariant_of-result c = record {
  good = c.in-Ok.ensures.exact.mark.good;
  opened = eq-eqb c.in-Ok.mark.version 1 (sym (ap (λ (k : Mark). k.version) c.mark.view_is) ∙ c.if-mark-ne1.false);
  births = subst (λ (h : ℕ). AllByRecursion (λ e. e.1.birth ≡ h) c.in-Ok.sys.canisters) (sym c.in-Ok.ensures.exact.mark.of_height) c.in-Ok.ensures.exact.births;
}
