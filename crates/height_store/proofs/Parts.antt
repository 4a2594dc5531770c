-- The parts that a mark's system text spells.
use Rattle.std.proofs.Common.{◌≡◌, ℕ, List, Err, refl, sym, subst}
use Rattle.std.specs.List.{AllByRecursion}
use Rattle.format_spec.specs.Bytes.{Bytes}
use Rattle.state_spec.specs.State.{SystemPart}
use Rattle.sys_state.specs.System.{System, part_of}
use Rattle.store_spec.specs.Mark.{Mark, IsMark, mark_text}
use Rattle.store_spec.proofs.Marks.{mark_once}
use Rattle.mark_file.specs.declared.error.MarkError.{MarkError}
use Rattle.mark_file.specs.declared.error.MarkError.TheVariants.{BadMark}
use Rattle.mark_file.specs.Spells.{SpellsBoth, DecodesBoth}
use Rattle.page_file.specs.Files.{NumberedFile}
use Rattle.height_store.specs.Store.{FitsMark, IsHeight}

-- the bytes of a mark give it again, and parts of which it is one
pub height_decoded : (height : ℕ) (text : Bytes) (m : Mark) (stacks : List (List NumberedFile)) (mark : Mark) (sys : System) → text ≡ mark_text m → m.height ≡ height → (s : SystemPart) × FitsMark m s stacks → SpellsBoth height text (mark, sys)
    → (mark ≡ m) × IsHeight (record { mark = mark; system = sys; stacks = stacks })
height_decoded height text m stacks mark sys is at fits spells =
    let same = mark_once height height text mark m (part_of sys) fits.0 spells.mark (record { spelled = is; good = fits.1.mark; of_height = at }) in (
      same.0,
      record {
        parts = subst (λ (n : Mark). FitsMark n (part_of sys) stacks) (sym same.0) (subst (λ (t : SystemPart). FitsMark m t stacks) (sym same.1) fits.1);
        births = subst (λ (n : ℕ). AllByRecursion (λ c. c.1.birth ≡ n) sys.canisters) (sym spells.mark.of_height) spells.births;
      },
    )

pub is_decoded : (height : ℕ) (text : Bytes) (m : Mark) (stacks : List (List NumberedFile)) → text ≡ mark_text m → m.height ≡ height → (s : SystemPart) × FitsMark m s stacks → (e : MarkError) (n : ℕ) → e ≡ BadMark n → DecodesBoth height text (Err e) → ⊥
is_decoded height text m stacks is at fits e n same refused = (subst (λ (x : MarkError). DecodesBoth height text (Err x)) same refused).1 m (fits.0, record { spelled = is; good = fits.1.mark; of_height = at })

-- a mark is one of these parts alone
pub parts_are_one : (m : Mark) (s t : SystemPart) → IsMark m s → IsMark m t → s ≡ t
parts_are_one m s t one other = (mark_once m.height m.height (mark_text m) m m s t (record { spelled = refl; good = one; of_height = refl }) (record { spelled = refl; good = other; of_height = refl })).1
