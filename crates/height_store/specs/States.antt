-- States that agree but for births and rounds, and states that are made of parts and memories.
use Rattle.std.specs.Prelude.{◌≡◌, ℕ, ◌*◌, ◌/◌, List, [], ◌∷◌, length, map, refl}
use Rattle.std.specs.List.{AllByRecursion}
use Rattle.std.proofs.lemmas.List.Folds.{flat_map-map}
use Rattle.std.proofs.Common.{sym, ◌∙◌, ap, arith}
use Rattle.format_spec.specs.Bytes.{Bytes}
use Rattle.format_spec.specs.declared.limits.TheConstants.{PAGE_SIZE}
use Rattle.state_spec.specs.State.{State, Canister, CanisterPart, SystemPart, bytes_in, system_of, memory_bytes, state_from, canisters_from, canister_without_history, without_history, SameState}
use Rattle.state_spec.specs.State as State
use Rattle.state_spec.specs.Files.{heap_pages, stable_pages, memory_pages}
use Rattle.state_spec.proofs.FileOrder.{by_two, by_canisters}
use Rattle.sys_state.specs.declared.record.CanisterRecord.{CanisterRecord}
use Rattle.sys_state.specs.System.{System, part_of, part_of_record, parts, kept_of, record_of}
use Rattle.manifest.specs.Fits.{FitMemories}

abbrev parts_in : List (Bytes × Canister) → List (Bytes × CanisterPart)
parts_in cs = map (λ (c : Bytes × Canister). (c.0, State.part_of c.1)) cs

abbrev kept_in : List (Bytes × Canister) → List (Bytes × CanisterRecord)
kept_in cs = map (λ (c : Bytes × Canister). (c.0, record_of c.1)) cs

abbrev bare : List (Bytes × Canister) → List (Bytes × Canister)
bare cs = map (λ (c : Bytes × Canister). (c.0, canister_without_history c.1)) cs

abbrev lengths : List Bytes → List ℕ
lengths memories = map (λ bytes. length bytes) memories

abbrev sizes : List (Bytes × ℕ) → List ℕ
sizes ms = map (λ m. m.1 * PAGE_SIZE) ms

-- ---- births and rounds

bare_parts : (cs : List (Bytes × Canister)) → parts_in (bare cs) ≡ parts_in cs
bare_parts [] = refl
bare_parts (c ∷ cs) = ap (λ (rest : List (Bytes × CanisterPart)). (c.0, State.part_of c.1) ∷ rest) (bare_parts cs)

bare_bytes : (cs : List (Bytes × Canister)) → bytes_in (bare cs) ≡ bytes_in cs
bare_bytes [] = refl
bare_bytes (c ∷ cs) = ap (λ (rest : List Bytes). c.1.heap.bytes ∷ c.1.stable.bytes ∷ rest) (bare_bytes cs)

without_parts : (s : State) → system_of (without_history s) ≡ system_of s
unfolding system_of
without_parts s = λ i. record { time = s.time; canisters = bare_parts s.canisters i; entries = s.entries }

module _ (s t : State) (same : SameState s t) where
  pub same_version : s.version ≡ t.version
  same_version = ap (λ (u : State). u.version) same

  pub same_parts : system_of s ≡ system_of t
  same_parts = sym (without_parts s) ∙ ap system_of same ∙ without_parts t

  pub same_bytes : memory_bytes s ≡ memory_bytes t
  same_bytes = sym (bare_bytes s.canisters) ∙ ap memory_bytes same ∙ bare_bytes t.canisters

-- ---- parts and memories

pages_in : (size n : ℕ) → size ≡ n * PAGE_SIZE → size / PAGE_SIZE ≡ n
pages_in size n e = omega (arith, e)

parts_from : (birth : ℕ) (cs : List (Bytes × CanisterPart)) (memories : List Bytes) → lengths memories ≡ sizes (memory_pages cs) → parts_in (canisters_from birth cs memories) ≡ cs
parts_from birth = by_canisters (λ (cs : List (Bytes × CanisterPart)) (memories : List Bytes). parts_in (canisters_from birth cs memories) ≡ cs) refl (λ c cs heap stable memories h s rest i. (
  c.0,
  record {
    wasm = c.1.wasm;
    certified = c.1.certified;
    heap = pages_in (length heap) c.1.heap h i;
    stable = pages_in (length stable) c.1.stable s i;
  },
) ∷ rest i)

bytes_from : (birth : ℕ) (cs : List (Bytes × CanisterPart)) (memories : List Bytes) → lengths memories ≡ sizes (memory_pages cs) → bytes_in (canisters_from birth cs memories) ≡ memories
bytes_from birth = by_canisters (λ (cs : List (Bytes × CanisterPart)) (memories : List Bytes). bytes_in (canisters_from birth cs memories) ≡ memories) refl
    (λ c cs heap stable memories h s rest. ap (λ (all : List Bytes). heap ∷ stable ∷ all) rest)

abbrev part : Bytes × CanisterRecord → Bytes × CanisterPart
part c = (c.0, part_of_record c.1)

kept_from : (birth : ℕ) (cs : List (Bytes × CanisterRecord)) (memories : List Bytes) → AllByRecursion (λ c. c.1.birth ≡ birth) cs → lengths memories ≡ sizes (memory_pages (parts cs)) → kept_in (canisters_from birth (parts cs) memories) ≡ cs
kept_from birth cs memories births fit =
    by_two (λ c. heap_pages (part c)) (λ c. stable_pages (part c)) (λ (bytes : Bytes). length bytes) (λ (m : Bytes × ℕ). m.1 * PAGE_SIZE)
    (λ (cs : List (Bytes × CanisterRecord)) (memories : List Bytes). AllByRecursion (λ c. c.1.birth ≡ birth) cs → kept_in (canisters_from birth (parts cs) memories) ≡ cs) (λ none. refl)
    (λ c cs heap stable memories h s rest births i. (
      c.0,
      record {
        «module» = c.1.module;
        certified = c.1.certified;
        heap = pages_in (length heap) c.1.heap h i;
        stable = pages_in (length stable) c.1.stable s i;
        birth = sym births.0 i;
      },
    ) ∷ rest births.1 i)
    cs memories (fit ∙ ap sizes (flat_map-map (λ (c : Bytes × CanisterPart). heap_pages c ∷ stable_pages c ∷ []) part cs)) births

module _ (version birth : ℕ) (s : SystemPart) (memories : List Bytes) (fit : FitMemories s memories) where
  pub made_parts : system_of (state_from version birth s memories) ≡ s
  unfolding system_of state_from
  made_parts = λ i. record { time = s.time; canisters = parts_from birth s.canisters memories fit i; entries = s.entries }

  pub made_bytes : memory_bytes (state_from version birth s memories) ≡ memories
  unfolding state_from
  made_bytes = bytes_from birth s.canisters memories fit

  pub made_version : (state_from version birth s memories).version ≡ version
  unfolding state_from
  made_version = refl

pub made_kept : (version birth : ℕ) (s : System) (memories : List Bytes) → AllByRecursion (λ c. c.1.birth ≡ birth) s.canisters → FitMemories (part_of s) memories → kept_of (state_from version birth (part_of s) memories) ≡ s
unfolding state_from
made_kept version birth s memories births fit = λ i. record { time = s.time; canisters = kept_from birth s.canisters memories births fit i; entries = s.entries }
