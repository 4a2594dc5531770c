-- What a map has at a page, by its tree.
use Rattle.std.proofs.Common.{◌≡◌, ◌≢◌, ◌⊎◌, inl, inr, ℕ, zero, suc, ◌+◌, ◌^◌, ◌<◌, ◌≤◌, List, [], ◌∷◌, length, Option, Some, None, refl, sym, ap, subst, ◌∙◌, arith}
use Rattle.std.proofs.lemmas.Bool.{eq-eqb}
use Rattle.page_delta.specs.declared.entry.Entry.{Entry}
use Rattle.page_delta.specs.declared.node.Node.{Node}
use Rattle.page_delta.specs.Delta.{Pages, find, RiseFrom}
use Rattle.page_delta.specs.Nodes.{look, entry_and_rest, pairs_from, pages_below}
use Rattle.format_spec.proofs.Lists.{cases_eqb}

find-here : (page : ℕ) (o : Option Entry) (rest : Pages) → find page rest ≡ None → find page (entry_and_rest page o rest) ≡ o
find-here page None rest none = none
find-here page (Some entry) rest none = rw (eq-eqb page page refl) refl

find-there : (page start : ℕ) (o : Option Entry) (rest : Pages) → page ≢ start → find page (entry_and_rest start o rest) ≡ find page rest
find-there page start None rest other = refl
find-there page start (Some entry) rest other = elim (cases_eqb page start) [ inl h ↦ absurd (other h.0) | inr h ↦ rw h.1 refl ]

find-outside : (n start page : ℕ) (at : ℕ → Option Entry) → (page < start) ⊎ (start + n ≤ page) → find page (pairs_from n start at) ≡ None
unfolding pairs_from
find-outside zero start page at out = refl
find-outside (suc n) start page at out =
    let other : page ≢ start = λ e. elim out [ inl low ↦ omega arith | inr high ↦ omega arith ] in
    find-there page start (at start) (pairs_from n (start + 1) at) other ∙ find-outside n (start + 1) page at (elim out [ inl low ↦ inl (omega arith) | inr high ↦ inr (omega arith) ])

find-inside : (n start page : ℕ) (at : ℕ → Option Entry) → start ≤ page → page < start + n → find page (pairs_from n start at) ≡ at page
unfolding pairs_from
find-inside zero start page at low high = absurd (omega arith)
find-inside (suc n) start page at low high = elim (cases_eqb page start) [
  | inl h ↦ subst (λ p. find p (entry_and_rest start (at start) (pairs_from n (start + 1) at)) ≡ at p) (sym h.0) (find-here start (at start) (pairs_from n (start + 1) at) (find-outside n (start + 1) start at (inl (omega arith))))
  | inr h ↦ find-there page start (at start) (pairs_from n (start + 1) at) h.0 ∙ find-inside n (start + 1) page at (let ne = h.0 in omega arith) (omega arith)
]

-- what the map of a tree has at a page, and that it has no page past the last
pub find-below : (nodes : List (Option Node)) (root page : ℕ) → page < 2 ^ 20 → find page (pages_below nodes root) ≡ look 3 nodes (Some root) page
unfolding pages_below
find-below nodes root page low = find-inside (2 ^ 20) 0 page (look 3 nodes (Some root)) (omega arith) low

pub find-past : (nodes : List (Option Node)) (root page : ℕ) → 2 ^ 20 ≤ page → find page (pages_below nodes root) ≡ None
unfolding pages_below
find-past nodes root page high = find-outside (2 ^ 20) 0 page (look 3 nodes (Some root)) (inr high)

rises-later : (least start : ℕ) (pages : Pages) → least ≤ start → RiseFrom start pages → RiseFrom least pages
rises-later least start [] low rise = rise
rises-later least start (first ∷ rest) low rise = (let r = rise.0 in omega arith, rise.1)

rises-consed : (start : ℕ) (o : Option Entry) (rest : Pages) → RiseFrom (start + 1) rest → RiseFrom start (entry_and_rest start o rest)
rises-consed start None rest rise = rises-later start (start + 1) rest (omega arith) rise
rises-consed start (Some entry) rest rise = (omega arith, rise)

pairs-rise : (n start : ℕ) (at : ℕ → Option Entry) → RiseFrom start (pairs_from n start at)
unfolding pairs_from
pairs-rise zero start at = tt
pairs-rise (suc n) start at = rises-consed start (at start) (pairs_from n (start + 1) at) (pairs-rise n (start + 1) at)

-- the map of a tree rises
pub below-rises : (nodes : List (Option Node)) (root : ℕ) → RiseFrom 0 (pages_below nodes root)
unfolding pages_below
below-rises nodes root = pairs-rise (2 ^ 20) 0 (look 3 nodes (Some root))

abbrev pub one_of : Option Entry → ℕ
one_of None = 0
one_of (Some e) = 1

length-consed : (page : ℕ) (o : Option Entry) (rest : Pages) → length (entry_and_rest page o rest) ≡ one_of o + length rest
length-consed page None rest = omega arith
length-consed page (Some e) rest = omega arith

pub pairs-within : (n start : ℕ) (f g : ℕ → Option Entry) → ((k : ℕ) → start ≤ k → k < start + n → f k ≡ g k) → pairs_from n start f ≡ pairs_from n start g
unfolding pairs_from
pairs-within zero start f g same = refl
pairs-within (suc n) start f g same =
    rw (same start (omega arith) (omega arith)) (ap (entry_and_rest start (g start)) (pairs-within n (start + 1) f g (λ k low high. same k (omega arith) (omega arith))))

-- another entry at one page
length-pairs : (n start p : ℕ) (f g : ℕ → Option Entry) → start ≤ p → p < start + n → ((k : ℕ) → start ≤ k → k < start + n → k ≢ p → f k ≡ g k) → length (pairs_from n start f) + one_of (g p) ≡ length (pairs_from n start g) + one_of (f p)
unfolding pairs_from
length-pairs zero start p f g low high same = absurd (omega arith)
length-pairs (suc n) start p f g low high same =
    let a = length-consed start (f start) (pairs_from n (start + 1) f) in
    let b = length-consed start (g start) (pairs_from n (start + 1) g) in
    elim (cases_eqb p start) [
      | inl h ↦
          let rest : length (pairs_from n (start + 1) f) ≡ length (pairs_from n (start + 1) g) = ap (λ (l : Pages). length l) (pairs-within n (start + 1) f g (λ k l u. same k (omega arith) (omega arith) (λ e. let eq = h.0 in omega arith))) in
          let fp : one_of (f p) ≡ one_of (f start) = ap (λ k. one_of (f k)) h.0 in
          let gp : one_of (g p) ≡ one_of (g start) = ap (λ k. one_of (g k)) h.0 in
          omega arith
      | inr h ↦
          let ne = h.0 in
          let rest = length-pairs n (start + 1) p f g (omega arith) (omega arith) (λ k l u other. same k (omega arith) (omega arith) other) in
          let at : one_of (f start) ≡ one_of (g start) = ap one_of (same start (omega arith) (omega arith) (λ e. ne (sym e))) in
          omega arith
    ]

pub length-below : (xs ys : List (Option Node)) (root page : ℕ) → page < 2 ^ 20 → ((q : ℕ) → q < 2 ^ 20 → q ≢ page → look 3 ys (Some root) q ≡ look 3 xs (Some root) q)
    → length (pages_below ys root) + one_of (look 3 xs (Some root) page) ≡ length (pages_below xs root) + one_of (look 3 ys (Some root) page)
unfolding pages_below
length-below xs ys root page low same = length-pairs (2 ^ 20) 0 page (look 3 ys (Some root)) (look 3 xs (Some root)) (omega arith) (omega arith) (λ k l u ne. same k (omega arith) ne)

pub length-most : (n start : ℕ) (f : ℕ → Option Entry) → length (pairs_from n start f) ≤ n
unfolding pairs_from
length-most zero start f = omega arith
length-most (suc n) start f =
    let a = length-consed start (f start) (pairs_from n (start + 1) f) in
    let rest = length-most n (start + 1) f in
    let one_is = one-at-most (f start) in
    omega arith
  where
    one-at-most : (o : Option Entry) → one_of o ≤ 1
    one-at-most None = omega arith
    one-at-most (Some e) = omega arith

pub pages-most : (xs : List (Option Node)) (root : ℕ) → length (pages_below xs root) ≤ 2 ^ 20
unfolding pages_below
pages-most xs root = length-most (2 ^ 20) 0 (look 3 xs (Some root))
