-- The lines of a script that is taken in parts.
use Rattle.std.proofs.Common.{◌≡◌, ◌≤◌, ℕ, suc, ◌+◌, ◌==◌, Bool, true, false, cond, List, [], ◌∷◌, ◌++◌, length, refl, ◌∙◌, ap, sym, arith, append_assoc, zero-add}
use Rattle.std.specs.List.{AllByRecursion, onto_first}
use Rattle.script_text.specs.Script.{lines, feeds, text_of_lines, IsLine, IsShort}

no_feed_first : (b : Bool) (n : ℕ) → cond b (suc n) n ≡ 0 → (b ≡ false) × (n ≡ 0)
no_feed_first true n h = absurd (omega arith)
no_feed_first false n h = (refl, h)

pub feeds-append : (xs ys : List ℕ) → feeds (xs ++ ys) ≡ feeds xs + feeds ys
feeds-append [] ys = sym (zero-add (feeds ys))
feeds-append (x ∷ xs) ys =
    elim (x == 10) as (λ v. cond v (suc (feeds (xs ++ ys))) (feeds (xs ++ ys)) ≡ cond v (suc (feeds xs)) (feeds xs) + feeds ys)
    [ true ↦ omega (arith, feeds-append xs ys) | false ↦ feeds-append xs ys ]

pub lines_line : (line rest : List ℕ) → IsLine line → lines (line ++ 10 ∷ rest) ≡ line ∷ lines rest
lines_line [] rest h = refl
lines_line (b ∷ bs) rest h =
    let no = no_feed_first (b == 10) (feeds bs) h in
    rw (no.0, lines_line bs rest no.1) refl

-- the one line, where there is a byte
abbrev pub last_line : List ℕ → List (List ℕ)
last_line [] = []
last_line (b ∷ bs) = (b ∷ bs) ∷ []

pub lines_last : (line : List ℕ) → IsLine line → lines line ≡ last_line line
lines_last [] h = refl
lines_last (b ∷ []) h = rw ((no_feed_first (b == 10) 0 h).0) refl
lines_last (b ∷ c ∷ bs) h =
    let no = no_feed_first (b == 10) (feeds (c ∷ bs)) h in
    rw (no.0, lines_last (c ∷ bs) no.1) refl

pub lines_joined : (done : List (List ℕ)) (rest : List ℕ) → AllByRecursion IsLine done → lines (text_of_lines done ++ rest) ≡ done ++ lines rest
lines_joined [] rest h = refl
lines_joined (line ∷ done) rest h =
    ap lines (append_assoc (line ++ 10 ∷ []) (text_of_lines done) rest ∙ append_assoc line (10 ∷ []) (text_of_lines done ++ rest))
    ∙ lines_line line (text_of_lines done ++ rest) h.0 ∙ ap (λ ls. line ∷ ls) (lines_joined done rest h.1)

pub feeds_joined : (done : List (List ℕ)) (rest : List ℕ) → AllByRecursion IsLine done → feeds (text_of_lines done ++ rest) ≡ length done + feeds rest
feeds_joined [] rest h = sym (zero-add (feeds rest))
feeds_joined (line ∷ done) rest h =
    let e : feeds ((line ++ 10 ∷ []) ++ (text_of_lines done ++ rest)) ≡ feeds line + 1 + feeds (text_of_lines done ++ rest) = feeds-append (line ++ 10 ∷ []) (text_of_lines done ++ rest) ∙ ap (λ n. n + feeds (text_of_lines done ++ rest)) (feeds-append line (10 ∷ [])) in
    ap feeds (append_assoc (line ++ 10 ∷ []) (text_of_lines done) rest) ∙ e ∙ omega (arith, feeds_joined done rest h.1, h.0)

-- each line is no longer than the one at its place, and there are no more
abbrev pub AreBelow : List (List ℕ) → List (List ℕ) → Type 0
AreBelow [] longer = Unit {0}
AreBelow (line ∷ some_lines) [] = ⊥
AreBelow (line ∷ some_lines) (longer ∷ others) = (length line ≤ length longer) × AreBelow some_lines others

onto_below : (b : ℕ) (xs ys : List (List ℕ)) → AreBelow xs ys → AreBelow (onto_first b xs) (onto_first b ys)
onto_below b [] [] h = (omega arith, tt)
onto_below b [] (y ∷ ys) h = (omega arith, tt)
onto_below b (x ∷ xs) [] h = absurd h
onto_below b (x ∷ xs) (y ∷ ys) h = (omega (arith, h.0), h.1)

-- the lines of a front of a script, the last of which may go on
pub lines_below : (taken left : List ℕ) → AreBelow (lines taken) (lines (taken ++ left))
lines_below [] left = tt
lines_below (b ∷ bs) left =
    elim (b == 10) as (λ v. AreBelow (cond v ([] ∷ lines bs) (onto_first b (lines bs))) (cond v ([] ∷ lines (bs ++ left)) (onto_first b (lines (bs ++ left)))))
    [ true ↦ (omega arith, lines_below bs left) | false ↦ onto_below b (lines bs) (lines (bs ++ left)) (lines_below bs left) ]

pub length-below : (xs ys : List (List ℕ)) → AreBelow xs ys → length xs ≤ length ys
length-below [] ys h = omega arith
length-below (x ∷ xs) [] h = absurd h
length-below (x ∷ xs) (y ∷ ys) h = omega (arith, length-below xs ys h.1)

pub short-below : (xs ys : List (List ℕ)) → AreBelow xs ys → AllByRecursion IsShort ys → AllByRecursion IsShort xs
short-below [] ys h k = tt
short-below (x ∷ xs) [] h k = absurd h
short-below (x ∷ xs) (y ∷ ys) h k = (omega (arith, h.0, k.0), short-below xs ys h.1 k.1)
