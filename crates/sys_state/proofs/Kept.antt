-- A state within the limits, after a change of its canisters.
use Rattle.std.proofs.Common.{◌≡◌, ℕ, ◌+◌, ◌≤◌, true, List, [], ◌∷◌, ◌++◌, length, map, sym, ap, ◌∙◌, arith}
use Rattle.std.specs.List.{AllByRecursion}
use Rattle.std.specs.FinMap.{is_sorted}
use Rattle.std.proofs.lemmas.List.{map-append, length-map}
use Rattle.std.proofs.lemmas.List.Sums.{sum_by-append}
use Rattle.format_spec.specs.declared.limits.TheConstants.{MAX_CANISTERS, MAX_MEMORY_PAGES}
use Rattle.format_spec.specs.Versions.{state_limit}
use Rattle.format_spec.proofs.StateLimits.{memory_limit-2}
use Rattle.format_spec.specs.Bytes.{Bytes, bytes_cmp}
use Rattle.state_spec.specs.State.{FitsCanister, all_pages, pages_in}
use Rattle.sys_state.specs.declared.record.CanisterRecord.{CanisterRecord}
use Rattle.std.proofs.Common.{Bool, false, cond, Some, subst}
use Rattle.std.specs.FinMap.{find}
use Rattle.std.specs.Ordering.{eq_by_cmp}
use Rattle.state_spec.proofs.Keys.{over, is_sorted-over}
use Rattle.sys_state.specs.Calls.{pages_of}
use Rattle.sys_state.specs.declared.mem.Mem.{Mem}
use Rattle.sys_state.specs.declared.mem.Mem.TheVariants.{Heap, Stable}
use Rattle.sys_state.specs.System.{System, part_of_record, IsWithinLimits, IsCanister}

pub ids_sorted : (s : System) → IsWithinLimits s → is_sorted bytes_cmp s.canisters ≡ true
ids_sorted s kept = sym (is_sorted-over bytes_cmp part_of_record s.canisters) ∙ kept.system.ids_ascend

pub few_canisters : (s : System) → IsWithinLimits s → length s.canisters ≤ MAX_CANISTERS
few_canisters s kept = omega (arith, kept.system.few_canisters, length-map s.canisters (over bytes_cmp part_of_record))

-- ---- what holds of each canister

pub record Good (c : Bytes × CanisterRecord) : Type 0 where
  pub fits : FitsCanister 2 (c.0, part_of_record c.1)
  pub bytes : IsCanister c

goods_in : (cs : List (Bytes × CanisterRecord)) → AllByRecursion (FitsCanister 2) (map (over bytes_cmp part_of_record) cs) → AllByRecursion IsCanister cs → AllByRecursion Good cs
goods_in [] fits bytes = tt
goods_in (c ∷ cs) fits bytes = (record { fits = fits.0; bytes = bytes.0 }, goods_in cs fits.1 bytes.1)

pub goods : (s : System) → IsWithinLimits s → AllByRecursion Good s.canisters
goods s kept = goods_in s.canisters kept.system.canisters_fit kept.canisters

all_fit : (cs : List (Bytes × CanisterRecord)) → AllByRecursion Good cs → AllByRecursion (FitsCanister 2) (map (over bytes_cmp part_of_record) cs) × AllByRecursion IsCanister cs
all_fit [] good = (tt, tt)
all_fit (c ∷ cs) good = let p = all_fit cs good.1 in ((good.0.fits, p.0), (good.0.bytes, p.1))

-- ---- the pages of all memories

abbrev pub pages : List (Bytes × CanisterRecord) → ℕ
pages cs = all_pages (map (over bytes_cmp part_of_record) cs)

pub pages-join : (cs ds : List (Bytes × CanisterRecord)) → pages (cs ++ ds) ≡ pages cs + pages ds
pages-join cs ds = ap all_pages (map-append (over bytes_cmp part_of_record) cs ds) ∙ sum_by-append (λ c. pages_in c.1) (map (over bytes_cmp part_of_record) cs) (map (over bytes_cmp part_of_record) ds)

pub pages-one : (c : Bytes × CanisterRecord) → pages (c ∷ []) ≡ c.1.heap + c.1.stable
pages-one c = omega arith

-- ---- with other canisters

pub kept_with : (s : System) → IsWithinLimits s → (cs : List (Bytes × CanisterRecord)) → length cs ≤ MAX_CANISTERS → is_sorted bytes_cmp cs ≡ true → AllByRecursion Good cs → pages cs ≤ state_limit 2 → IsWithinLimits (record s { canisters = cs })
kept_with s kept cs few sorted good sum =
    let fit = all_fit cs good in
    record {
      system = record {
        time = kept.system.time;
        few_canisters = omega (arith, few, length-map cs (over bytes_cmp part_of_record));
        ids_ascend = is_sorted-over bytes_cmp part_of_record cs ∙ sorted;
        canisters_fit = fit.0;
        pages_fit = sum;
        few_entries = kept.system.few_entries;
        paths_ascend = kept.system.paths_ascend;
        paths_apart = kept.system.paths_apart;
        entries_fit = kept.system.entries_fit;
      };
      canisters = fit.1;
      entries = kept.entries;
    }

fits_in : (cs : List (Bytes × CanisterRecord)) → AllByRecursion (FitsCanister 2) (map (over bytes_cmp part_of_record) cs) → AllByRecursion (λ c. FitsCanister 2 (c.0, part_of_record c.1)) cs
fits_in [] h = tt
fits_in (c ∷ cs) h = (h.0, fits_in cs h.1)

pub canisters_fit : (s : System) → IsWithinLimits s → AllByRecursion (λ c. FitsCanister 2 (c.0, part_of_record c.1)) s.canisters
canisters_fit s kept = fits_in s.canisters kept.system.canisters_fit

-- a canister that is found has no more pages in a memory than there may be
pub found_fits : (cs : List (Bytes × CanisterRecord)) → AllByRecursion (λ c. FitsCanister 2 (c.0, part_of_record c.1)) cs → (id : Bytes) (mem : Mem) (c : CanisterRecord) → find bytes_cmp id cs ≡ Some c → pages_of mem c ≤ MAX_MEMORY_PAGES
found_fits [] all id mem c h = absurd (cc h)
found_fits (e ∷ es) all id mem c h =
    let by : (b : Bool) → cond b (Some e.1) (find bytes_cmp id es) ≡ Some c → pages_of mem c ≤ MAX_MEMORY_PAGES = λ b. elim b as (λ (v : Bool). cond v (Some e.1) (find bytes_cmp id es) ≡ Some c → pages_of mem c ≤ MAX_MEMORY_PAGES) [
      | true ↦ λ is. let one : e.1 ≡ c = cc is in subst (λ (x : CanisterRecord). pages_of mem x ≤ MAX_MEMORY_PAGES) one (within mem)
      | false ↦ λ is. found_fits es all.1 id mem c is
    ] in
    by (eq_by_cmp bytes_cmp id e.0) h
  where
    within : (mem : Mem) → pages_of mem e.1 ≤ MAX_MEMORY_PAGES
    within Heap = let few = all.0.heap in omega (arith, few, memory_limit-2)
    within Stable = let few = all.0.stable in omega (arith, few, memory_limit-2)
