-- One line is done: what is left begins with it, and goes on behind it.
use Rattle.std.proofs.Common.{◌≡◌, ℕ, suc, ◌+◌, ◌-◌, ◌<◌, ◌≤◌, List, [], ◌∷◌, ◌++◌, ◌∙◌, sym, ap, subst, arith}
use Rattle.format_spec.specs.Bytes.{Bytes}
use Rattle.generator.specs.Draws.{x_after}
use Rattle.generator.specs.declared.place.Place.{Place}
use Rattle.generator.specs.declared.place.Place.TheVariants.{Canisters, Writes, Behind, Last}
use Rattle.generator.specs.Places.{numbered, line_behind, last_line, count_behind, lines_after, lines_left, IsPlace}
use Rattle.generator.specs.Script.{canister_line, write_line, write_lines, x_after_writes, lines_behind}
use Rattle.generator.proofs.Lefts.{numbered_first, numbered_end}

pub at_canisters : (blocks done : ℕ) (place : Place) → place ≡ Canisters done → IsPlace blocks place → done < 4
unfolding IsPlace
at_canisters blocks done place e h = subst (IsPlace blocks) e h

pub at_writes : (blocks block done : ℕ) (place : Place) → place ≡ Writes block done → IsPlace blocks place → (block ≤ blocks) × (done < 32)
unfolding IsPlace
at_writes blocks block done place e h = subst (IsPlace blocks) e h

pub at_behind : (blocks block done : ℕ) (place : Place) → place ≡ Behind block done → IsPlace blocks place → (block ≤ blocks) × (done < count_behind block)
unfolding IsPlace
at_behind blocks block done place e h = subst (IsPlace blocks) e h

pub at_last : (blocks done : ℕ) (place : Place) → place ≡ Last done → IsPlace blocks place → done ≤ 2
unfolding IsPlace
at_last blocks done place e h = subst (IsPlace blocks) e h

pub canister_done : (blocks x done : ℕ) (place next : Place) → place ≡ Canisters done → done < 4
    → lines_left blocks x next ≡ numbered canister_line (done + 1) 4 ++ lines_after blocks 0 x
    → lines_left blocks x place ≡ canister_line done ∷ lines_left blocks x next
unfolding lines_left
canister_done blocks x done place next e h left =
    ap (lines_left blocks x) e
    ∙ ap (λ (lines : List Bytes). lines ++ lines_after blocks 0 x) (numbered_first canister_line done 4 h)
    ∙ ap (λ (lines : List Bytes). canister_line done ∷ lines) (sym left)

pub write_done : (blocks x block done : ℕ) (place next : Place) → place ≡ Writes block done → done < 32
    → lines_left blocks (x_after 3 x) next
    ≡ write_lines (32 - (done + 1)) (x_after 3 x) ++ (lines_behind block ++ lines_after blocks block (x_after_writes (32 - (done + 1)) (x_after 3 x)))
    → lines_left blocks x place ≡ write_line x ∷ lines_left blocks (x_after 3 x) next
unfolding lines_left write_lines x_after_writes
write_done blocks x block done place next e h left =
    let count : 32 - done ≡ suc (32 - (done + 1)) = omega arith in
    ap (lines_left blocks x) e
    ∙ ap (λ (n : ℕ). write_lines n x ++ (lines_behind block ++ lines_after blocks block (x_after_writes n x))) count
    ∙ ap (λ (lines : List Bytes). write_line x ∷ lines) (sym left)

pub behind_done : (blocks x block done : ℕ) (place next : Place) → place ≡ Behind block done → done < count_behind block
    → lines_left blocks x next ≡ numbered (line_behind block) (done + 1) (count_behind block) ++ lines_after blocks block x
    → lines_left blocks x place ≡ line_behind block done ∷ lines_left blocks x next
unfolding lines_left
behind_done blocks x block done place next e h left =
    ap (lines_left blocks x) e
    ∙ ap (λ (lines : List Bytes). lines ++ lines_after blocks block x) (numbered_first (line_behind block) done (count_behind block) h)
    ∙ ap (λ (lines : List Bytes). line_behind block done ∷ lines) (sym left)

pub last_done : (blocks x done : ℕ) (next : Place) → done < 2
    → lines_left blocks x next ≡ numbered last_line (done + 1) 2
    → lines_left blocks x (Last done) ≡ last_line done ∷ lines_left blocks x next
unfolding lines_left
last_done blocks x done next h left =
    numbered_first last_line done 2 h ∙ ap (λ (lines : List Bytes). last_line done ∷ lines) (sym left)

pub all_done : (blocks x done : ℕ) → 2 ≤ done → lines_left blocks x (Last done) ≡ []
unfolding lines_left
all_done blocks x done h = numbered_end last_line done 2 h
