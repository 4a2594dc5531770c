-- Ranges that grow by a page at their end.
use Rattle.std.proofs.Common.{◌≡◌, ℕ, zero, suc, ◌+◌, ◌-◌, take, ◌<◌, ◌≤◌, true, List, [], ◌∷◌, ◌++◌, length, get_or, sym, ◌∙◌, ap, subst, arith, append_assoc}
use Rattle.std.proofs.lemmas.List.{append-nil, take_more}
use Rattle.std.specs.List.{range_with_len, AllByRecursion}
use Rattle.std.specs.Ordering.{nat_cmp}
use Rattle.format_spec.specs.Bytes.{ascending}
use Rattle.page_file.specs.declared.range.Range.{Range}
use Rattle.page_file.specs.Ranges.{numbers_in, AreRanges}
use Rattle.page_file.proofs.Placed.{tail_below}

pub numbers_push : (rs : List Range) (x : Range) → numbers_in (rs ++ x ∷ []) ≡ numbers_in rs ++ range_with_len x.first x.length
numbers_push [] x = append-nil (range_with_len x.first x.length)
numbers_push (r ∷ rs) x = ap (λ (l : List ℕ). range_with_len r.first r.length ++ l) (numbers_push rs x) ∙ sym (append_assoc (range_with_len r.first r.length) (numbers_in rs) (range_with_len x.first x.length))

pub range_push : (a n : ℕ) → range_with_len a (n + 1) ≡ range_with_len a n ++ (a + n) ∷ []
range_push a zero = let e : a ≡ a + 0 = omega arith in (λ i. e i ∷ [])
range_push a (suc n) =
    let more : suc n + 1 ≡ suc (n + 1) = omega arith in
    let at : a + 1 + n ≡ a + suc n = omega arith in
    ap (range_with_len a) more ∙ ap (λ (l : List ℕ). a ∷ l) (range_push (a + 1) n ∙ ap (λ (k : ℕ). range_with_len (a + 1) n ++ k ∷ []) at)

abbrev pub wider : Range → Range
wider x = record x { length = x.length + 1 }

pub wider_numbers : (rs : List Range) (x : Range) (page : ℕ) (ns : List ℕ) → page ≡ x.first + x.length → numbers_in (rs ++ x ∷ []) ≡ ns → numbers_in (rs ++ wider x ∷ []) ≡ ns ++ page ∷ []
wider_numbers rs x page ns at is =
    numbers_push rs (wider x) ∙ ap (λ (l : List ℕ). numbers_in rs ++ l) (range_push x.first x.length ∙ ap (λ (k : ℕ). range_with_len x.first x.length ++ k ∷ []) (sym at))
    ∙ sym (append_assoc (numbers_in rs) (range_with_len x.first x.length) (page ∷ [])) ∙ ap (λ (l : List ℕ). l ++ page ∷ []) (sym (numbers_push rs x) ∙ is)

pub wider_are : (m l p : ℕ) (rs : List Range) (x : Range) → AreRanges m l p (rs ++ x ∷ []) → x.first + x.length < m → AreRanges m l p (rs ++ wider x ∷ [])
wider_are m l p [] x h lt = (h.0, omega arith, omega arith, h.3, tt)
wider_are m l p (r ∷ rs) x h lt = (h.0, h.1, h.2, h.3, wider_are m (r.first + r.length + 1) (p + r.length) rs x h.4 lt)

abbrev pub next : Range → ℕ → Range
next x page = record { first = page; length = 1; place = x.place + x.length }

pub next_are : (m l p : ℕ) (rs : List Range) (x : Range) (page : ℕ) → AreRanges m l p (rs ++ x ∷ []) → x.first + x.length < page → page < m → AreRanges m l p ((rs ++ x ∷ []) ++ next x page ∷ [])
next_are m l p [] x page h above below = (h.0, h.1, h.2, h.3, (omega arith, omega arith, omega arith, omega (arith, h.3), tt))
next_are m l p (r ∷ rs) x page h above below = (h.0, h.1, h.2, h.3, next_are m (r.first + r.length + 1) (p + r.length) rs x page h.4 above below)

pub next_numbers : (rs : List Range) (x : Range) (page : ℕ) (ns : List ℕ) → numbers_in (rs ++ x ∷ []) ≡ ns → numbers_in ((rs ++ x ∷ []) ++ next x page ∷ []) ≡ ns ++ page ∷ []
next_numbers rs x page ns is = numbers_push (rs ++ x ∷ []) (next x page) ∙ ap (λ (l : List ℕ). l ++ page ∷ []) is

-- the last range ends within the memory, and no later than its pages would if all pages stood before them
pub last_fits : (m l p : ℕ) (rs : List Range) (x : Range) → AreRanges m l p (rs ++ x ∷ []) → p ≤ l → (x.first + x.length ≤ m) × (x.place ≤ x.first)
last_fits m l p [] x h le = (h.2, omega (arith, h.0, h.3))
last_fits m l p (r ∷ rs) x h le = last_fits m (r.first + r.length + 1) (p + r.length) rs x h.4 (omega (arith, h.0))

-- pages that ascend within a memory
pub page_above : (ns : List ℕ) (i : ℕ) (d : ℕ) → ascending nat_cmp ns ≡ true → i + 1 < length ns → get_or ns i d < get_or ns (i + 1) d
page_above [] i d asc lt = absurd (omega arith)
page_above (n ∷ []) i d asc lt = absurd (omega arith)
page_above (n ∷ k ∷ ns) zero d asc lt = let parts = tail_below n (k ∷ ns) asc in omega (arith, parts.0.0)
page_above (n ∷ k ∷ ns) (suc i) d asc lt = let parts = tail_below n (k ∷ ns) asc in
    let at : suc i + 1 ≡ suc (i + 1) = omega arith in subst (λ j. get_or (k ∷ ns) i d < get_or (n ∷ k ∷ ns) j d) (sym at) (page_above (k ∷ ns) i d parts.1 (omega arith))

pub page_below : (m : ℕ) (ns : List ℕ) (i d : ℕ) → AllByRecursion (λ n. n < m) ns → i < length ns → get_or ns i d < m
page_below m [] i d all lt = absurd (omega arith)
page_below m (n ∷ ns) zero d all lt = all.0
page_below m (n ∷ ns) (suc i) d all lt = page_below m ns i d all.1 (omega arith)

-- ranges and a last one have the first i of these pages
pub record Has (m : ℕ) (ns : List ℕ) (i : ℕ) (rs : List Range) (x : Range) : Type 0 where
  pub some : 1 ≤ i
  pub numbers : numbers_in (rs ++ x ∷ []) ≡ take i ns
  pub ascend : AreRanges m 0 0 (rs ++ x ∷ [])
  pub end : x.first + x.length ≡ get_or ns (i - 1) 0 + 1

pub has_wider : (m : ℕ) (ns : List ℕ) (i : ℕ) (rs : List Range) (x : Range) (page : ℕ) → Has m ns i rs x → AllByRecursion (λ n. n < m) ns → i < length ns → page ≡ get_or ns i 0 → page ≡ x.first + x.length → Has m ns (i + 1) rs (wider x)
has_wider m ns i rs x page has within lt is at = let below = page_below m ns i 0 within lt in record {
  some = omega arith;
  numbers = wider_numbers rs x page (take i ns) at has.numbers ∙ ap (λ (n : ℕ). take i ns ++ n ∷ []) is ∙ sym (take_more ns i 0 lt);
  ascend = wider_are m 0 0 rs x has.ascend (omega (arith, at, is, below));
  end = (let e : i + 1 - 1 ≡ i = omega arith in subst (λ k. x.first + (x.length + 1) ≡ get_or ns k 0 + 1) (sym e) (omega (arith, at, is)));
}

pub has_next : (m : ℕ) (ns : List ℕ) (i : ℕ) (rs : List Range) (x : Range) (page : ℕ) → Has m ns i rs x → ascending nat_cmp ns ≡ true → AllByRecursion (λ n. n < m) ns → i < length ns → page ≡ get_or ns i 0 → (page ≡ x.first + x.length → ⊥)
    → Has m ns (i + 1) (rs ++ x ∷ []) (next x page)
has_next m ns i rs x page has asc within lt is apart =
    let below = page_below m ns i 0 within lt in
    let back : i - 1 + 1 ≡ i = omega (arith, has.some) in
    let above = subst (λ k. get_or ns (i - 1) 0 < get_or ns k 0) back (page_above ns (i - 1) 0 asc (omega (arith, has.some, lt))) in
    record {
      some = omega arith;
      numbers = next_numbers rs x page (take i ns) has.numbers ∙ ap (λ (n : ℕ). take i ns ++ n ∷ []) is ∙ sym (take_more ns i 0 lt);
      ascend = next_are m 0 0 rs x page has.ascend (omega (arith, is, above, has.end, apart)) (omega (arith, is, below));
      end = (let e : i + 1 - 1 ≡ i = omega arith in subst (λ k. page + 1 ≡ get_or ns k 0 + 1) (sym e) (omega (arith, is)));
    }

pub has_same : (m : ℕ) (ns : List ℕ) (i : ℕ) (rs ss : List Range) (x y : Range) → ss ≡ rs → y ≡ x → Has m ns i rs x → Has m ns i ss y
has_same m ns i rs ss x y same is has = subst (λ rs. Has m ns i rs y) (sym same) (subst (λ x. Has m ns i rs x) (sym is) has)
