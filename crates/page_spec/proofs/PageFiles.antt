-- A text is at most one page file, and is known by its index and its length.
use Rattle.std.proofs.Common.{◌≡◌, ℕ, suc, ◌+◌, ◌*◌, ◌^◌, ◌<◌, ◌≤◌, Bool, true, false, cond, List, [], ◌∷◌, ◌++◌, length, take, drop, codes, refl, sym, ap, ◌∙◌, arith, length-drop, is_lt, eqb-true, take-append-drop}
use Rattle.std.specs.Prelude.{◌==◌}
use Rattle.std.specs.List.{AllByRecursion, list_all, flat_map, range_with_len}
use Rattle.std.specs.Ordering.{nat_cmp}
use Rattle.std.proofs.lemmas.Bool.{and_parts}
use Rattle.format_spec.specs.Bytes.{Bytes, be32, be64, ascending}
use Rattle.format_spec.specs.declared.limits.TheConstants.{MAX_MEMORY_PAGES}
use Rattle.format_spec.proofs.Cuts.{cons_same, cut_front, be32_same}
use Rattle.page_spec.specs.PageFile.{PageIndex, IsIndex, before_runs, runs_of, ranges_text, kind_of, index_length, file_length, index_text, IsPageFile}
use Rattle.format_spec.proofs.Lists.{every, below_is}

-- ---- runs

abbrev Runs : Type 0
Runs = List (ℕ × ℕ)

-- the pages of some runs
abbrev pages_in : Runs → List ℕ
pages_in runs = flat_map (λ r. range_with_len r.0 r.1) runs

before_pages : (page : ℕ) (runs : Runs) → pages_in (before_runs page runs) ≡ page ∷ pages_in runs
before_pages page [] = refl
before_pages page (run ∷ runs) = by (run.0 == page + 1) refl
  where
    by : (b : Bool) → (run.0 == page + 1) ≡ b → pages_in (cond b ((page, run.1 + 1) ∷ runs) ((page, 1) ∷ run ∷ runs)) ≡ page ∷ pages_in (run ∷ runs)
    by true e =
        let next : run.0 ≡ page + 1 = eqb-true run.0 (page + 1) e in
        let more : run.1 + 1 ≡ suc run.1 = omega arith in
        ap (λ (n : ℕ). range_with_len page n ++ pages_in runs) more ∙ ap (λ (n : ℕ). page ∷ range_with_len n run.1 ++ pages_in runs) (sym next)
    by false e = refl

runs_pages : (pages : List ℕ) → pages_in (runs_of pages) ≡ pages
runs_pages [] = refl
runs_pages (page ∷ pages) = before_pages page (runs_of pages) ∙ ap (λ (x : List ℕ). page ∷ x) (runs_pages pages)

-- they are few and small
abbrev SmallRuns : ℕ → ℕ → Runs → Type 0
SmallRuns n k runs = AllByRecursion (λ r. (r.0 < n) × (r.1 ≤ k)) runs

more_small : (n k : ℕ) (runs : Runs) → SmallRuns n k runs → SmallRuns n (suc k) runs
more_small n k [] h = tt
more_small n k (r ∷ runs) h = ((h.0.0, omega (arith, h.0.1)), more_small n k runs h.1)

before_small : (n k page : ℕ) (runs : Runs) → page < n → SmallRuns n k runs → SmallRuns n (suc k) (before_runs page runs)
before_small n k page [] lt h = ((lt, omega arith), tt)
before_small n k page (run ∷ runs) lt h = by (run.0 == page + 1)
  where
    by : (b : Bool) → SmallRuns n (suc k) (cond b ((page, run.1 + 1) ∷ runs) ((page, 1) ∷ run ∷ runs))
    by true = ((lt, omega (arith, h.0.1)), more_small n k runs h.1)
    by false = ((lt, omega arith), more_small n k (run ∷ runs) h)

runs_small : (n : ℕ) (pages : List ℕ) → AllByRecursion (λ p. p < n) pages → SmallRuns n (length pages) (runs_of pages)
runs_small n [] h = tt
runs_small n (page ∷ pages) h = before_small n (length pages) page (runs_of pages) h.0 (runs_small n pages h.1)

before_few : (page : ℕ) (runs : Runs) → length (before_runs page runs) ≤ suc (length runs)
before_few page [] = omega arith
before_few page (run ∷ runs) = by (run.0 == page + 1)
  where
    by : (b : Bool) → length (cond b ((page, run.1 + 1) ∷ runs) ((page, 1) ∷ run ∷ runs)) ≤ suc (suc (length runs))
    by true = omega arith
    by false = omega arith

runs_few : (pages : List ℕ) → length (runs_of pages) ≤ length pages
runs_few [] = omega arith
runs_few (page ∷ pages) = omega (arith, before_few page (runs_of pages), runs_few pages)

above : (page : ℕ) (pages : List ℕ) → list_all (λ j. is_lt (nat_cmp page j)) pages ≡ true → AllByRecursion (λ p. suc page ≤ p) pages
above page [] h = tt
above page (j ∷ js) h = let q = and_parts (is_lt (nat_cmp page j)) (list_all (λ i. is_lt (nat_cmp page i)) js) h in (below_is page j q.0, above page js q.1)

-- pages that ascend below n are n at most
pages_few : (n k : ℕ) (pages : List ℕ) → ascending nat_cmp pages ≡ true → AllByRecursion (λ p. k ≤ p) pages → AllByRecursion (λ p. p < n) pages → k ≤ n → length pages + k ≤ n
pages_few n k [] a low high le = omega (arith, le)
pages_few n k (page ∷ pages) a low high le =
    let p = and_parts (list_all (λ j. is_lt (nat_cmp page j)) pages) (ascending nat_cmp pages) a in
    let more : length pages + suc page ≤ n = pages_few n (suc page) pages p.1 (above page pages p.0) high.1 (omega (arith, high.0)) in
    omega (arith, more, low.0)

-- ---- ranges

pub length-ranges_text : (n : ℕ) (runs : Runs) → length (ranges_text n runs) ≡ 12 * length runs
length-ranges_text n [] = refl
length-ranges_text n (r ∷ runs) = omega (arith, length-ranges_text (n + r.1) runs)

same_run : (r s : ℕ × ℕ) → r.0 ≡ s.0 → r.1 ≡ s.1 → r ≡ s
same_run r s p q = λ i. (p i, q i)

ranges_cut : (n m : ℕ) (rs qs : Runs) (a b : Bytes) → length rs ≡ length qs → SmallRuns (2 ^ 32) MAX_MEMORY_PAGES rs → SmallRuns (2 ^ 32) MAX_MEMORY_PAGES qs → ranges_text n rs ++ a ≡ ranges_text m qs ++ b → (rs ≡ qs) × (a ≡ b)
ranges_cut n m [] [] a b l p q e = (refl, e)
ranges_cut n m [] (s ∷ qs) a b l p q e = absurd cc
ranges_cut n m (r ∷ rs) [] a b l p q e = absurd cc
ranges_cut n m (r ∷ rs) (s ∷ qs) a b l p q e =
    let c = cut_front (be32 r.0) (be32 r.1 ++ (be32 n ++ (ranges_text (n + r.1) rs ++ a))) (be32 s.0) (be32 s.1 ++ (be32 m ++ (ranges_text (m + s.1) qs ++ b))) refl e in
    let d = cut_front (be32 r.1) (be32 n ++ (ranges_text (n + r.1) rs ++ a)) (be32 s.1) (be32 m ++ (ranges_text (m + s.1) qs ++ b)) refl c.1 in
    let f = cut_front (be32 n) (ranges_text (n + r.1) rs ++ a) (be32 m) (ranges_text (m + s.1) qs ++ b) refl d.1 in
    let more = ranges_cut (n + r.1) (m + s.1) rs qs a b (omega (arith, l)) p.1 q.1 f.1 in
    let first = same_run r s (be32_same r.0 s.0 p.0.0 q.0.0 c.0) (be32_same r.1 s.1 (omega (arith, p.0.1)) (omega (arith, q.0.1)) d.0) in
    (cons_same r s rs qs first more.0, more.1)

-- ---- the index

small_of : (n k m : ℕ) (runs : Runs) → n ≤ MAX_MEMORY_PAGES → k ≤ MAX_MEMORY_PAGES → SmallRuns n k runs → SmallRuns (2 ^ 32) MAX_MEMORY_PAGES runs
small_of n k m [] p q h = tt
small_of n k m (r ∷ runs) p q h = ((omega (arith, h.0.0, p), omega (arith, h.0.1, q)), small_of n k m runs p q h.1)

record IndexFacts (i : PageIndex) : Type 0 where
  few : length i.numbers ≤ MAX_MEMORY_PAGES
  few_runs : length (runs_of i.numbers) ≤ MAX_MEMORY_PAGES
  small : SmallRuns (2 ^ 32) MAX_MEMORY_PAGES (runs_of i.numbers)

facts : (i : PageIndex) → IsIndex i → IndexFacts i
facts i h =
    let few : length i.numbers + 0 ≤ i.memory = pages_few i.memory 0 i.numbers h.ascends (every (λ p. 0 ≤ p) (λ p. omega arith) i.numbers) h.within (omega arith) in
    record {
      few = omega (arith, few, h.memory_fits);
      few_runs = omega (arith, few, h.memory_fits, runs_few i.numbers);
      small = small_of i.memory (length i.numbers) 0 (runs_of i.numbers) h.memory_fits (omega (arith, few, h.memory_fits)) (runs_small i.memory i.numbers h.within);
    }

same_index : (i j : PageIndex) → i.memory ≡ j.memory → i.numbers ≡ j.numbers → i ≡ j
same_index i j p q = λ k. record { memory = p k; numbers = q k }

pub index_cut : (i j : PageIndex) (a b : Bytes) → IsIndex i → IsIndex j → index_text i ++ a ≡ index_text j ++ b → (i ≡ j) × (a ≡ b)
unfolding index_text
index_cut i j a b hi hj e =
    let fi = facts i hi in
    let fj = facts j hj in
    let ri : Bytes = ranges_text 0 (runs_of i.numbers) ++ a in
    let rj : Bytes = ranges_text 0 (runs_of j.numbers) ++ b in
    let c1 = cut_front (codes "ICPF" ++ be32 1 ++ be32 (kind_of i)) (be32 i.memory ++ (be32 (length (runs_of i.numbers)) ++ (be32 (length i.numbers) ++ (be64 (file_length i) ++ ri))))
    (codes "ICPF" ++ be32 1 ++ be32 (kind_of j)) (be32 j.memory ++ (be32 (length (runs_of j.numbers)) ++ (be32 (length j.numbers) ++ (be64 (file_length j) ++ rj)))) refl e in
    let c2 = cut_front (be32 i.memory) (be32 (length (runs_of i.numbers)) ++ (be32 (length i.numbers) ++ (be64 (file_length i) ++ ri)))
    (be32 j.memory) (be32 (length (runs_of j.numbers)) ++ (be32 (length j.numbers) ++ (be64 (file_length j) ++ rj))) refl c1.1 in
    let c3 = cut_front (be32 (length (runs_of i.numbers))) (be32 (length i.numbers) ++ (be64 (file_length i) ++ ri)) (be32 (length (runs_of j.numbers))) (be32 (length j.numbers) ++ (be64 (file_length j) ++ rj)) refl c2.1 in
    let c4 = cut_front (be32 (length i.numbers) ++ be64 (file_length i)) ri (be32 (length j.numbers) ++ be64 (file_length j)) rj refl c3.1 in
    let count : length (runs_of i.numbers) ≡ length (runs_of j.numbers) = be32_same (length (runs_of i.numbers)) (length (runs_of j.numbers)) (omega (arith, fi.few_runs)) (omega (arith, fj.few_runs)) c3.0 in
    let r = ranges_cut 0 0 (runs_of i.numbers) (runs_of j.numbers) a b count fi.small fj.small c4.1 in
    let memory : i.memory ≡ j.memory = be32_same i.memory j.memory (omega (arith, hi.memory_fits)) (omega (arith, hj.memory_fits)) c2.0 in
    (same_index i j memory (sym (runs_pages i.numbers) ∙ ap pages_in r.0 ∙ runs_pages j.numbers), r.1)

pub page_file_once : (text : Bytes) (i j : PageIndex) (a b : Bytes) → IsPageFile text i a → IsPageFile text j b → (i ≡ j) × (a ≡ b)
page_file_once text i j a b p q = index_cut i j a b p.good q.good (sym p.spelled ∙ q.spelled)

-- ---- known by its front and its length

pub length-index_text : (i : PageIndex) → length (index_text i) ≡ index_length i
unfolding index_text
length-index_text i = omega (arith, length-ranges_text 0 (runs_of i.numbers))

pub by_index : (text : Bytes) (i : PageIndex) → IsIndex i → take (index_length i) text ≡ index_text i → length text ≡ file_length i → IsPageFile text i (drop (index_length i) text)
by_index text i good front size = record {
  good = good;
  spelled = sym (take-append-drop (index_length i) text) ∙ ap (λ (s : Bytes). s ++ drop (index_length i) text) front;
  whole = omega (arith, size, length-drop (index_length i) text);
}
