-- Bytes of a map, page by page.
use Rattle.std.proofs.Common.{◌≡◌, ◌≢◌, ℕ, zero, suc, ◌+◌, ◌-◌, ◌*◌, ◌<◌, ◌≤◌, ◌==◌, List, [], ◌∷◌, ◌++◌, length, reverse, take, drop, Option, Some, None, position, refl, sym, ◌∙◌, ap, subst, arith, append_assoc}
use Rattle.std.specs.List.{AllByRecursion, flat_map, range_with_len}
use Rattle.std.proofs.Math.Seq.{take-append_seam, take-append-le, drop-append-le, take-append-add, drop-append-add}
use Rattle.std.proofs.lemmas.List.{append-nil, drop-drop, take-append-drop, length-append, length-take, length-drop, length-take-le, length-replicate, reverse-append}
use Rattle.std.proofs.lemmas.List.Quantifiers.{position-Some}
use Rattle.format_spec.specs.Bytes.{Bytes, page_at}
use Rattle.format_spec.specs.declared.limits.TheConstants.{PAGE_SIZE}
use Rattle.state_spec.specs.Memory.{with_bytes_at}
use Rattle.page_spec.specs.PageFile.{PageIndex}
use Rattle.page_spec.specs.Layers.{Layer, page_from}
use Rattle.page_spec.specs.Whole.{length-newest_page, length-pages}
use Rattle.disk_model.specs.Files.{Files}
use Rattle.page_file.specs.Files.{NumberedFile}
use Rattle.layer_stack.specs.Stacks.{AreLayers}
use Rattle.layer_stack.specs.Whole.{layers_whole}
use Rattle.page_map.specs.Maps.{OwnPage}
use Rattle.page_map.specs.Reads.{page_of, AreWhole}

-- ---- pages are whole

pub page_of_long : (files : Files) (stack : List NumberedFile) (layers : List Layer) → AreLayers files stack layers → (own : ℕ → Option OwnPage) → AreWhole own → (page : ℕ) → length (page_of layers (own page) page) ≡ PAGE_SIZE
page_of_long files stack layers are own whole page = go (own page) refl
  where
    go : (o : Option OwnPage) → own page ≡ o → length (page_of layers o page) ≡ PAGE_SIZE
    go None e = length-newest_page layers page (layers_whole files stack layers are)
    go (Some o) e = whole page o e

-- ---- pages side by side

same_below : (f g : ℕ → Bytes) (n s : ℕ) → ((q : ℕ) → s ≤ q → q < s + n → f q ≡ g q) → flat_map f (range_with_len s n) ≡ flat_map g (range_with_len s n)
same_below f g zero s same = refl
same_below f g (suc n) s same =
    ap (λ (l : Bytes). l ++ flat_map f (range_with_len (s + 1) n)) (same s (omega arith) (omega arith))
    ∙ ap (λ (l : Bytes). g s ++ l) (same_below f g n (s + 1) (λ q le lt. same q (omega arith) (omega arith)))

pub same_pages : (f g : ℕ → Bytes) (n : ℕ) → ((q : ℕ) → q < n → f q ≡ g q) → flat_map f (range_with_len 0 n) ≡ flat_map g (range_with_len 0 n)
same_pages f g n same = same_below f g n 0 (λ q le lt. same q (omega arith))

-- so many, and then so many more
pub split : (f : ℕ → Bytes) (n k s : ℕ) → flat_map f (range_with_len s (n + k)) ≡ flat_map f (range_with_len s n) ++ flat_map f (range_with_len (s + n) k)
split f zero k s = let e : 0 + k ≡ k = omega arith in let d : s ≡ s + 0 = omega arith in ap (λ (m : ℕ). flat_map f (range_with_len s m)) e ∙ ap (λ (m : ℕ). flat_map f (range_with_len m k)) d
split f (suc n) k s =
    let e : suc n + k ≡ suc (n + k) = omega arith in
    let d : s + 1 + n ≡ s + suc n = omega arith in
    ap (λ (m : ℕ). flat_map f (range_with_len s m)) e
    ∙ ap (λ (l : Bytes). f s ++ l) (split f n k (s + 1) ∙ ap (λ (m : ℕ). flat_map f (range_with_len (s + 1) n) ++ flat_map f (range_with_len m k)) d)
    ∙ sym (append_assoc (f s) (flat_map f (range_with_len (s + 1) n)) (flat_map f (range_with_len (s + suc n) k)))

-- a page between those before it and those behind
parts : (f : ℕ → Bytes) (page count : ℕ) → page < count → flat_map f (range_with_len 0 count) ≡ flat_map f (range_with_len 0 page) ++ (f page ++ flat_map f (range_with_len (page + 1) (count - page - 1)))
parts f page count lt =
    let e : count ≡ page + suc (count - page - 1) = omega (arith, lt) in
    let z : 0 + page ≡ page = omega arith in
    ap (λ (m : ℕ). flat_map f (range_with_len 0 m)) e
    ∙ split f page (suc (count - page - 1)) 0
    ∙ ap (λ (m : ℕ). flat_map f (range_with_len 0 page) ++ (f m ++ flat_map f (range_with_len (m + 1) (count - page - 1)))) z

-- ---- bytes in the middle

inside : (a x b w : Bytes) (start : ℕ) → start + length w ≤ length x → with_bytes_at (a ++ (x ++ b)) (length a + start) w ≡ a ++ (with_bytes_at x start w ++ b)
inside a x b w start le =
    let rest : Bytes = drop (start + length w) x in
    let front : take (length a + start) (a ++ (x ++ b)) ≡ a ++ take start x = take-append-add a (x ++ b) start ∙ ap (λ (l : Bytes). a ++ l) (take-append-le start x b (omega (arith, le))) in
    let e : length a + start + length w ≡ length a + (start + length w) = omega arith in
    let back : drop (length a + start + length w) (a ++ (x ++ b)) ≡ rest ++ b = ap (λ (n : ℕ). drop n (a ++ (x ++ b))) e ∙ drop-append-add a (x ++ b) (start + length w) ∙ drop-append-le (start + length w) x b le in
    ap (λ (l : Bytes). l ++ w ++ drop (length a + start + length w) (a ++ (x ++ b))) front
    ∙ ap (λ (l : Bytes). a ++ take start x ++ w ++ l) back
    ∙ regroup a (take start x) w rest b
  where
    regroup : (a p w r b : Bytes) → ((a ++ p) ++ w) ++ (r ++ b) ≡ a ++ (((p ++ w) ++ r) ++ b)
    regroup a p w r b = simp append_assoc

pub overwritten_more : (s a c : Bytes) (at : ℕ) → at + length a ≤ length s → with_bytes_at (with_bytes_at s at a) (at + length a) c ≡ with_bytes_at s at (a ++ c)
overwritten_more s a c at le =
    let k : ℕ = at + length a in
    let head : Bytes = take at s ++ a in
    let mid : Bytes = head ++ drop k s in
    let long : length head ≡ k = length-append (take at s) a ∙ ap (λ (n : ℕ). n + length a) (length-take-le at s (omega (arith, le))) in
    let front : take k mid ≡ head = ap (λ (n : ℕ). take n mid) (sym long) ∙ take-append_seam head (drop k s) in
    let e : k + length c ≡ length head + length c = ap (λ (n : ℕ). n + length c) (sym long) in
    let n_is : k + length c ≡ at + length (a ++ c) = omega (arith, length-append a c) in
    let back : drop (k + length c) mid ≡ drop (at + length (a ++ c)) s =
    ap (λ (n : ℕ). drop n mid) e ∙ drop-append-add head (drop k s) (length c) ∙ drop-drop (length c) k s ∙ ap (λ (n : ℕ). drop n s) n_is in
    ap (λ (l : Bytes). l ++ c ++ drop (k + length c) mid) front
    ∙ ap (λ (l : Bytes). head ++ c ++ l) back
    ∙ ap (λ (l : Bytes). l ++ drop (at + length (a ++ c)) s) (append_assoc (take at s) a c)

module _ (f : ℕ → Bytes) (each : (page : ℕ) → length (f page) ≡ PAGE_SIZE) where
  pub pages_long : (n : ℕ) → length (flat_map f (range_with_len 0 n)) ≡ n * PAGE_SIZE
  pages_long n = length-pages f each 0 n

  -- bytes of one page
  pub page_bytes : (page count start m : ℕ) → page < count → start + m ≤ PAGE_SIZE → take m (drop (page * PAGE_SIZE + start) (flat_map f (range_with_len 0 count))) ≡ take m (drop start (f page))
  page_bytes page count start m lt le =
      let a : Bytes = flat_map f (range_with_len 0 page) in
      let b : Bytes = flat_map f (range_with_len (page + 1) (count - page - 1)) in
      let long : page * PAGE_SIZE + start ≡ length a + start = ap (λ (n : ℕ). n + start) (sym (pages_long page)) in
      let here = each page in
      ap (λ (l : Bytes). take m (drop (page * PAGE_SIZE + start) l)) (parts f page count lt)
      ∙ ap (λ (n : ℕ). take m (drop n (a ++ (f page ++ b)))) long
      ∙ ap (take m) (drop-append-add a (f page ++ b) start ∙ drop-append-le start (f page) b (omega (arith, le, here)))
      ∙ take-append-le m (drop start (f page)) b (omega (arith, le, here, length-drop start (f page)))

  -- one page is written
  pub page_written : (g : ℕ → Bytes) (page count start : ℕ) (w : Bytes) → ((q : ℕ) → q ≢ page → g q ≡ f q) → g page ≡ with_bytes_at (f page) start w → page < count → start + length w ≤ PAGE_SIZE
      → flat_map g (range_with_len 0 count) ≡ with_bytes_at (flat_map f (range_with_len 0 count)) (page * PAGE_SIZE + start) w
  page_written g page count start w same here lt le =
      let a : Bytes = flat_map f (range_with_len 0 page) in
      let b : Bytes = flat_map f (range_with_len (page + 1) (count - page - 1)) in
      let long : page * PAGE_SIZE + start ≡ length a + start = ap (λ (n : ℕ). n + start) (sym (pages_long page)) in
      let old = each page in
      parts g page count lt
      ∙ ap (λ (l : Bytes). l ++ (g page ++ flat_map g (range_with_len (page + 1) (count - page - 1)))) (same_below g f page 0 (λ q low high. same q (λ e. absurd (omega arith))))
      ∙ ap (λ (l : Bytes). a ++ (g page ++ l)) (same_below g f (count - page - 1) (page + 1) (λ q low high. same q (λ e. absurd (omega arith))))
      ∙ ap (λ (l : Bytes). a ++ (l ++ b)) here
      ∙ sym (inside a (f page) b w start (omega (arith, le, old)))
      ∙ ap (λ (l : Bytes). with_bytes_at l (length a + start) w) (sym (parts f page count lt))
      ∙ ap (λ (n : ℕ). with_bytes_at (flat_map f (range_with_len 0 count)) n w) (sym long)
