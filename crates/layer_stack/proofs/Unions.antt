-- The pages that some of several layers have, and layers in the place of others.
use Rattle.std.proofs.Common.{◌≡◌, ℕ, zero, suc, ◌+◌, ◌-◌, ◌<◌, ◌≤◌, ◌==◌, Bool, true, false, cond, List, [], ◌∷◌, ◌++◌, length, take, drop, set, get_or, Result, Ok, Err, IfOk, Vec, Global, refl, sym, ◌∙◌, ap, subst, arith}
use Rattle.std.proofs.Math.Seq.{drop-append-add}
use Rattle.std.proofs.lemmas.List.{append-nil, map-id, take_at, set_at, drop-drop, drop_more, length-take-le, length-append, length-drop}
use Rattle.std.proofs.lemmas.List.FromFn.{filter_of_map_range_with_len_more}
use Rattle.std.specs.List.{AllByRecursion, filter, list_any, range_with_len}
use Rattle.byte_codec.specs.declared.error.NoMemory.{NoMemory}
use Rattle.page_spec.specs.Layers.{has_page, union}
use Rattle.page_file.specs.Files.{NumberedFile}
use Rattle.layer_stack.specs.Stacks.{EndBy, pages_in, list_with}

-- ---- filters of a range

pub filtered_more : (p : ℕ → Bool) (n : ℕ) → filter p (range_with_len 0 (n + 1)) ≡ filter p (range_with_len 0 n) ++ cond (p n) (n ∷ []) []
filtered_more p n =
    ap (filter p) (sym (map-id (range_with_len 0 (n + 1))))
    ∙ filter_of_map_range_with_len_more p (λ (x : ℕ). x) 0 n n (omega arith)
    ∙ ap (λ (l : List ℕ). filter p l ++ cond (p n) (n ∷ []) []) (map-id (range_with_len 0 n))

pub filtered_yes : (p : ℕ → Bool) (n : ℕ) (old new : List ℕ) → old ≡ filter p (range_with_len 0 n) → p n ≡ true → new ≡ old ++ n ∷ [] → new ≡ filter p (range_with_len 0 (n + 1))
filtered_yes p n old new was passes is =
    is ∙ ap (λ (l : List ℕ). l ++ n ∷ []) was ∙ ap (λ (b : Bool). filter p (range_with_len 0 n) ++ cond b (n ∷ []) []) (sym passes) ∙ sym (filtered_more p n)

pub filtered_no : (p : ℕ → Bool) (n : ℕ) (old : List ℕ) → old ≡ filter p (range_with_len 0 n) → p n ≡ false → old ≡ filter p (range_with_len 0 (n + 1))
filtered_no p n old was fails =
    was ∙ sym (append-nil (filter p (range_with_len 0 n))) ∙ ap (λ (b : Bool). filter p (range_with_len 0 n) ++ cond b (n ∷ []) []) (sym fails) ∙ sym (filtered_more p n)

same_filter : (p q : ℕ → Bool) → ((x : ℕ) → p x ≡ q x) → (xs : List ℕ) → filter p xs ≡ filter q xs
same_filter p q same [] = refl
same_filter p q same (x ∷ xs) =
    ap (λ (b : Bool). cond b (x ∷ filter p xs) (filter p xs)) (same x) ∙ ap (λ (l : List ℕ). cond (q x) (x ∷ l) l) (same_filter p q same xs)

filter_longer : (p : ℕ → Bool) (n k : ℕ) → ((x : ℕ) → n ≤ x → p x ≡ false) → filter p (range_with_len 0 (n + k)) ≡ filter p (range_with_len 0 n)
filter_longer p n zero none = let e : n + 0 ≡ n = omega arith in ap (λ (m : ℕ). filter p (range_with_len 0 m)) e
filter_longer p n (suc k) none =
    let e : n + suc k ≡ n + k + 1 = omega arith in
    ap (λ (m : ℕ). filter p (range_with_len 0 m)) e
    ∙ sym (filtered_no p (n + k) (filter p (range_with_len 0 n)) (sym (filter_longer p n k none)) (none (n + k) (omega arith)))

filter_to : (p : ℕ → Bool) (n m : ℕ) → n ≤ m → ((x : ℕ) → n ≤ x → p x ≡ false) → filter p (range_with_len 0 m) ≡ filter p (range_with_len 0 n)
filter_to p n m le none = let e : m ≡ n + (m - n) = omega (arith, le) in ap (λ (k : ℕ). filter p (range_with_len 0 k)) e ∙ filter_longer p n (m - n) none

-- ---- pages of layers

none_in : (n page : ℕ) (pages : List ℕ) → AllByRecursion (λ p. p < n) pages → n ≤ page → has_page page pages ≡ false
none_in n page [] all le = refl
none_in n page (p ∷ pages) all le = let first : p < n = all.0 in let e : (p == page) ≡ false = grind arith in rw e (none_in n page pages all.1 le)

none_past : (n page : ℕ) (stack : List NumberedFile) → EndBy n stack → n ≤ page → list_any (has_page page) (pages_in stack) ≡ false
none_past n page [] all le = refl
none_past n page (file ∷ stack) all le = rw (none_in n page file.index.numbers all.0 le) (none_past n page stack all.1 le)

same_length : (p : ℕ → Bool) (n m : ℕ) → ((x : ℕ) → n ≤ x → p x ≡ false) → ((x : ℕ) → m ≤ x → p x ≡ false) → filter p (range_with_len 0 n) ≡ filter p (range_with_len 0 m)
same_length p n m none_n none_m = go (n - m) refl
  where
    go : (k : ℕ) → n - m ≡ k → filter p (range_with_len 0 n) ≡ filter p (range_with_len 0 m)
    go zero e = sym (filter_to p n m (omega (arith, e)) none_n)
    go (suc k) e = filter_to p m n (omega (arith, e)) none_m

pub union_is : (marks : List Bool) (stack : List NumberedFile) (items : List ℕ) → EndBy (length marks) stack → ((page : ℕ) → get_or marks page false ≡ list_any (has_page page) (pages_in stack))
    → items ≡ filter (λ page. get_or marks page false) (range_with_len 0 (length marks)) → (memory : ℕ) → EndBy memory stack → items ≡ union memory (pages_in stack)
union_is marks stack items ends marked are memory below =
    let p : ℕ → Bool = λ page. list_any (has_page page) (pages_in stack) in
    are
    ∙ same_filter (λ page. get_or marks page false) p marked (range_with_len 0 (length marks))
    ∙ same_length p (length marks) memory (λ page le. none_past (length marks) page stack ends le) (λ page le. none_past memory page stack below le)

pub pages_are : (marks : List Bool) (layers rest taken : List NumberedFile) (lent : List Bool) (r : Result (Vec ℕ Global) NoMemory) → layers ≡ rest → taken ≡ rest → lent ≡ marks
    → (memory : ℕ) → length marks ≡ memory → EndBy memory layers → ((page : ℕ) → get_or marks page false ≡ list_any (has_page page) (pages_in taken))
    → IfOk r (λ pages. pages.items ≡ filter (λ page. get_or lent page false) (range_with_len 0 (length lent)))
    → IfOk r (λ pages. (memory : ℕ) → EndBy memory rest → pages.items ≡ union memory (pages_in rest))
pages_are marks layers rest taken lent (Err e) same all is n long ends marked are = tt
pages_are marks layers rest taken lent (Ok v) same all is n long ends marked are =
    union_is marks rest v.items (subst (EndBy (length marks)) same (subst (λ (n : ℕ). EndBy n layers) (sym long) ends))
    (subst (λ (l : List NumberedFile). (page : ℕ) → get_or marks page false ≡ list_any (has_page page) (pages_in l)) all marked)
    (are ∙ ap (λ (l : List Bool). filter (λ page. get_or l page false) (range_with_len 0 (length l))) is)

-- ---- a file in the place of others

module _ {X : Type 0} (all : List X) (from : ℕ) (within : from ≤ length all) where
  taken : length (take from all) ≡ from
  taken = length-take-le from all within

  -- one more is taken away
  pub one_gone : (i : ℕ) (old new : List X) → old ≡ take from all ++ drop (from + i) all → new ≡ take from old ++ drop (from + 1) old → new ≡ take from all ++ drop (from + (i + 1)) all
  one_gone i old new was is =
      let front : take from old ≡ take from all = ap (take from) was ∙ take_at (take from all) (drop (from + i) all) from taken in
      let e : from + 1 ≡ length (take from all) + 1 = omega (arith, taken) in
      let f : from + i + 1 ≡ from + (i + 1) = omega arith in
      let back : drop (from + 1) old ≡ drop (from + (i + 1)) all =
      ap (drop (from + 1)) was ∙ ap (λ (n : ℕ). drop n (take from all ++ drop (from + i) all)) e ∙ drop-append-add (take from all) (drop (from + i) all) 1
      ∙ drop-drop 1 (from + i) all ∙ ap (λ (n : ℕ). drop n all) f in
      is ∙ ap (λ (l : List X). l ++ drop (from + 1) old) front ∙ ap (λ (l : List X). take from all ++ l) back

  pub in_place : (count i : ℕ) (file : X) (old : List X) → i + 1 ≡ count → from + count ≤ length all → old ≡ take from all ++ drop (from + i) all → set old from file ≡ list_with from count file all
  in_place count i file old last le was =
      let e : from + i + 1 ≡ from + count = omega (arith, last) in
      ap (λ (l : List X). set l from file) (was ∙ ap (λ (l : List X). take from all ++ l) (drop_more all (from + i) file (omega (arith, last, le))))
      ∙ set_at (take from all) (get_or all (from + i) file) (drop (from + i + 1) all) file from taken
      ∙ ap (λ (n : ℕ). take from all ++ file ∷ drop n all) e
