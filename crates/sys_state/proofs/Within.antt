-- Bytes of memories within the limits of a version.
use Rattle.std.proofs.Common.{◌≡◌, ℕ, zero, suc, ◌+◌, ◌*◌, ◌≤◌, ◌<◌, List, [], ◌∷◌, ◌++◌, length, map, take, drop, get_or, set, sum_by, refl, sym, ap, ◌∙◌, subst, arith}
use Rattle.std.specs.List.{AllByRecursion}
use Rattle.std.proofs.lemmas.List.{take-append-drop}
use Rattle.std.proofs.lemmas.List.Sums.{sum_by-append, sum_by-cons, sum_by-set}
use Rattle.format_spec.specs.Bytes.{Bytes}
use Rattle.format_spec.specs.declared.limits.TheConstants.{PAGE_SIZE}
use Rattle.format_spec.specs.Versions.{memory_limit, state_limit}
use Rattle.format_spec.proofs.Lists.{all_join, all_parts}
use Rattle.state_spec.specs.State.{SystemPart, CanisterPart, FitsCanister, IsSystem, all_pages, pages_in}
use Rattle.state_spec.specs.Files.{memory_pages}
use Rattle.state_spec.proofs.FileOrder.{by_canisters}
use Rattle.sys_state.specs.Memories.{AreWithin}

abbrev Parts : Type 0
Parts = List (Bytes × CanisterPart)

abbrev size : Bytes → ℕ
size bytes = length bytes

-- each memory has as many bytes as its pages have
abbrev Fit : Parts → List Bytes → Type 0
Fit cs ms = map (λ (b : Bytes). length b) ms ≡ map (λ (m : Bytes × ℕ). m.1 * PAGE_SIZE) (memory_pages cs)

-- a memory's bytes are few
abbrev Few : ℕ → Bytes → Type 0
Few v bytes = length bytes ≤ memory_limit v * PAGE_SIZE

-- ---- by the pages of a system

pub all_bytes : (cs : Parts) (ms : List Bytes) → Fit cs ms → sum_by size ms ≡ all_pages cs * PAGE_SIZE
all_bytes cs ms fit =
    by_canisters (λ (cs : Parts) (ms : List Bytes). sum_by size ms ≡ all_pages cs * PAGE_SIZE) refl
    (λ c cs heap stable ms h s rest. omega (arith, h, s, rest, sum_by-cons size heap (stable ∷ ms), sum_by-cons size stable ms, sum_by-cons (λ (x : Bytes × CanisterPart). pages_in x.1) c cs))
    cs ms fit

few_bytes : (v pages : ℕ) (bytes : Bytes) → length bytes ≡ pages * PAGE_SIZE → pages ≤ memory_limit v → Few v bytes
few_bytes v pages bytes is few = omega (arith, is, few)

few_pages : (v pages : ℕ) (bytes : Bytes) → length bytes ≡ pages * PAGE_SIZE → Few v bytes → pages ≤ memory_limit v
few_pages v pages bytes is few = omega (arith, is, few)

each_few : (v : ℕ) (cs : Parts) (ms : List Bytes) → Fit cs ms → AllByRecursion (FitsCanister v) cs → AllByRecursion (Few v) ms
each_few v cs ms fit =
    by_canisters (λ (cs : Parts) (ms : List Bytes). AllByRecursion (FitsCanister v) cs → AllByRecursion (Few v) ms) (λ fits. tt)
    (λ c cs heap stable ms h s rest fits. (few_bytes v c.1.heap heap h fits.0.heap, (few_bytes v c.1.stable stable s fits.0.stable, rest fits.1)))
    cs ms fit

each_fits : (v : ℕ) (cs : Parts) (ms : List Bytes) → Fit cs ms → AllByRecursion (FitsCanister 2) cs → AllByRecursion (Few v) ms → AllByRecursion (FitsCanister v) cs
each_fits v cs ms fit =
    by_canisters (λ (cs : Parts) (ms : List Bytes). AllByRecursion (FitsCanister 2) cs → AllByRecursion (Few v) ms → AllByRecursion (FitsCanister v) cs) (λ fits few. tt)
    (λ c cs heap stable ms h s rest fits few. (
      record { id = fits.0.id; wasm = fits.0.wasm; certified = fits.0.certified; heap = few_pages v c.1.heap heap h few.0; stable = few_pages v c.1.stable stable s few.1.0 },
      rest fits.1 few.1.1,
    ))
    cs ms fit

-- the memories of a system within the limits are within them
pub memories_within : (v : ℕ) (s : SystemPart) (ms : List Bytes) → Fit s.canisters ms → IsSystem v s → AreWithin v ms
memories_within v s ms fit is = record {
  each = each_few v s.canisters ms fit is.canisters_fit;
  together = omega (arith, all_bytes s.canisters ms fit, is.pages_fit);
}

-- a system is within the limits where its memories are
pub system_within : (v : ℕ) (s : SystemPart) (ms : List Bytes) → Fit s.canisters ms → IsSystem 2 s → AreWithin v ms → IsSystem v s
system_within v s ms fit is within = record {
  time = is.time;
  few_canisters = is.few_canisters;
  ids_ascend = is.ids_ascend;
  canisters_fit = each_fits v s.canisters ms fit is.canisters_fit within.each;
  pages_fit = omega (arith, all_bytes s.canisters ms fit, within.together);
  few_entries = is.few_entries;
  paths_ascend = is.paths_ascend;
  paths_apart = is.paths_apart;
  entries_fit = is.entries_fit;
}

-- ---- after a change

module _ (v : ℕ) (ms : List Bytes) (within : AreWithin v ms) where
  front_back : (n : ℕ) → AllByRecursion (Few v) (take n ms) × AllByRecursion (Few v) (drop n ms)
  front_back n = all_parts (Few v) (take n ms) (drop n ms) (subst (AllByRecursion (Few v)) (sym (take-append-drop n ms)) within.each)

  both_sums : (n : ℕ) → sum_by size ms ≡ sum_by size (take n ms) + sum_by size (drop n ms)
  both_sums n = ap (sum_by size) (sym (take-append-drop n ms)) ∙ sum_by-append size (take n ms) (drop n ms)

  -- two empty memories come
  pub within_put : (n : ℕ) → AreWithin v (take n ms ++ ([] ∷ [] ∷ drop n ms))
  within_put n =
      let parts = front_back n in
      record {
        each = all_join (Few v) (take n ms) ([] ∷ [] ∷ drop n ms) parts.0 (omega arith, (omega arith, parts.1));
        together = omega (arith, within.together, both_sums n, sum_by-append size (take n ms) ([] ∷ [] ∷ drop n ms), sum_by-cons size [] ([] ∷ drop n ms), sum_by-cons size [] (drop n ms));
      }

  -- two memories go
  pub within_cut : (n : ℕ) → AreWithin v (take n ms ++ drop 2 (drop n ms))
  within_cut n =
      let parts = front_back n in
      let back : List Bytes = drop n ms in
      let rest = all_parts (Few v) (take 2 back) (drop 2 back) (subst (AllByRecursion (Few v)) (sym (take-append-drop 2 back)) parts.1) in
      let less : sum_by size back ≡ sum_by size (take 2 back) + sum_by size (drop 2 back) = ap (sum_by size) (sym (take-append-drop 2 back)) ∙ sum_by-append size (take 2 back) (drop 2 back) in
      record {
        each = all_join (Few v) (take n ms) (drop 2 back) parts.0 rest.1;
        together = omega (arith, within.together, both_sums n, less, sum_by-append size (take n ms) (drop 2 back));
      }

  each_set : (xs : List Bytes) (i : ℕ) (x : Bytes) → Few v x → AllByRecursion (Few v) xs → AllByRecursion (Few v) (set xs i x)
  each_set [] i x few all = all
  each_set (y ∷ xs) zero x few all = (few, all.1)
  each_set (y ∷ xs) (suc i) x few all = (all.0, each_set xs i x few all.1)

  -- a memory changes
  pub within_set : (i : ℕ) (x : Bytes) → i < length ms → length x ≤ memory_limit v * PAGE_SIZE → sum_by size ms + length x ≤ state_limit v * PAGE_SIZE + length (get_or ms i []) → AreWithin v (set ms i x)
  within_set i x lt few sum = record {
    each = each_set ms i x few within.each;
    together = omega (arith, sum, sum_by-set size ms i x [] lt);
  }

  few_from : (xs : List Bytes) (i : ℕ) → AllByRecursion (Few v) xs → length (get_or xs i []) ≤ memory_limit v * PAGE_SIZE
  few_from [] i all = omega arith
  few_from (y ∷ xs) zero all = all.0
  few_from (y ∷ xs) (suc i) all = few_from xs i all.1

  -- a memory that is there has few bytes
  pub few_at : (i : ℕ) → length (get_or ms i []) ≤ memory_limit v * PAGE_SIZE
  few_at i = few_from ms i within.each
