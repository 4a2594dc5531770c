-- Published heights, as the store holds them and as the machine does.
use Rattle.std.proofs.Common.{◌≡◌, ◌<◌, ◌≤◌, ◌+◌, ◌*◌, ◌^◌, ◌==◌, ℕ, suc, true, false, List, [], ◌∷◌, ◌++◌, length, map, get_or, take, Option, Some, None, refl, ◌∙◌, ap, sym, subst, arith, inl, inr}
use Rattle.std.proofs.lemmas.Bool.{cases_Bool}
use Rattle.std.proofs.lemmas.Bool.Decides.{nat_tests}
use Rattle.std.proofs.lemmas.List.{take_more, map-append}
use Rattle.std.proofs.lemmas.Map.Views.{exact_unsigned_eq}
use Rattle.std.specs.Prelude.{slice_index_or, slice_index, is_some, IsTrue}
use Rattle.std.specs.FinMap.{is_sorted}
use Rattle.std.specs.List.{AllByRecursion, AllZip, last_or}
use Rattle.std.specs.List.Sorted.{IsStrictlyIncreasing}
use Rattle.std.specs.Option.{option_map}
use Rattle.format_spec.specs.Bytes.{Bytes, bytes_cmp}
use Rattle.format_spec.specs.declared.limits.TheConstants.{PAGE_SIZE}
use Rattle.state_spec.specs.State.{State, memory_bytes, state_from}
use Rattle.state_spec.specs.Files.{memories_in}
use Rattle.store_spec.specs.Image.{Published, opened_state}
use Rattle.sys_state.specs.System.{System, part_of, kept_of, record_of, part_of_record}
use Rattle.height_store.specs.Store.{StoredHeight, height_at, heights_in}
use Rattle.height_store.specs.Known.{KnowsHeight}
use Rattle.height_store.specs.KnownLaws.{known_version}
use Rattle.machine_spec.specs.Machine.{start, newest}
use Rattle.machine_spec.specs.States.{empty_state}
use Rattle.sys_state.specs.Memories.{HaveSizes}
use Rattle.live_state.specs.StateKept.{StateView, KeepsState, live_of}
use Rattle.state_spec.proofs.Images.{sorted_images}

-- ---- the live state of a store that opens at a height

ids_ascend : (s : State) (system : System) → kept_of s ≡ system → IsTrue (is_sorted bytes_cmp (part_of system).canisters) → is_sorted bytes_cmp s.canisters ≡ true
ids_ascend s system is ascend =
    sym (sorted_images record_of s.canisters) ∙ ap (λ (t : System). is_sorted bytes_cmp t.canisters) is ∙ sym (sorted_images part_of_record system.canisters) ∙ ascend

pub opened_version : (p : Published) → p.state.version ≡ 1 → (opened_state p).version ≡ 1
unfolding opened_state state_from
opened_version p one = one

pub opened_kept : (h : StoredHeight) (p : Published) → KnowsHeight h p → KeepsState (record { system = h.system; memories = memory_bytes p.state; height = p.height }) (p.height, opened_state p)
opened_kept h p knows = record {
  version = opened_version p (known_version h p knows);
  sorted = ids_ascend (opened_state p) h.system knows.system knows.good.parts.mark.system_good.ids_ascend;
  system = sym knows.system;
  memories = sym knows.bytes;
  height = refl;
}

pub loaded_kept : (h : StoredHeight) (p : Published) → KnowsHeight h p → (height : ℕ) → h.mark.height ≡ height → (held : StateView) → held.system ≡ h.system → held.memories ≡ memory_bytes p.state → (height + 1 < 2 ^ 64 → held.height ≡ height + 1)
    → KeepsState held (p.height + 1, opened_state p)
loaded_kept h p knows height is held system memories next =
    let k = opened_kept h p knows in
    let few : height + 1 < 2 ^ 64 = omega (arith, knows.good.parts.mark.height_fits, is) in
    record {
      version = k.version;
      sorted = k.sorted;
      system = system ∙ k.system;
      memories = memories ∙ k.memories;
      height = next few ∙ ap (λ (n : ℕ). n + 1) (sym is ∙ knows.height);
    }

lengths : {V : Type 0} (bytes : V → Bytes) (vs : List V) → map (λ (b : Bytes). length b) (map bytes vs) ≡ map (λ v. length (bytes v)) vs
lengths bytes [] = refl
lengths bytes (v ∷ vs) = ap (λ (l : List ℕ). length (bytes v) ∷ l) (lengths bytes vs)

pub have_sizes : {V : Type 0} (bytes : V → Bytes) (vs : List V) (s : System) → map (λ v. length (bytes v)) vs ≡ map (λ m. m.1 * PAGE_SIZE) (memories_in (part_of s)) → HaveSizes s.canisters (map bytes vs)
have_sizes bytes vs s h = lengths bytes vs ∙ h

-- ---- the newest height

none_is_last : (h : StoredHeight) (hs : List StoredHeight) → None ≡ last_or (Some h) hs → ⊥
none_is_last h [] e = absurd (cc e)
none_is_last h (i ∷ hs) e = none_is_last i hs e

module _ (R : StoredHeight → Published → Type 0) where
  -- the last of the heights is the machine's newest one
  pub newest_found : (hs : List StoredHeight) (ps : List Published) (h : StoredHeight) → AllZip R hs ps → Some h ≡ last_or None hs → (p : Published) × R h p × (newest ps ≡ Some p)
  newest_found [] ps h each e = absurd (cc e)
  newest_found (x ∷ hs) [] h each e = absurd each
  newest_found (x ∷ []) (p ∷ []) h each e = let one : x ≡ h = cc e in (p, subst (λ (y : StoredHeight). R y p) one each.0, refl)
  newest_found (x ∷ []) (p ∷ q ∷ ps) h each e = absurd each.1
  newest_found (x ∷ y ∷ hs) (p ∷ []) h each e = absurd each.1
  newest_found (x ∷ y ∷ hs) (p ∷ q ∷ ps) h each e = newest_found (y ∷ hs) (q ∷ ps) h each.1 e

  pub newest_none : (hs : List StoredHeight) (ps : List Published) → AllZip R hs ps → None ≡ last_or None hs → ps ≡ []
  newest_none [] [] each e = refl
  newest_none [] (p ∷ ps) each e = absurd each
  newest_none (h ∷ hs) [] each e = absurd each
  newest_none (h ∷ hs) (p ∷ ps) each e = absurd (none_is_last h hs e)

-- the machine of a store goes on from the newest height
pub begun : (held : StateView) (p : Published) (ps : List Published) → KeepsState held (p.height + 1, opened_state p) → newest ps ≡ Some p → KeepsState held (live_of (start ps))
begun held p ps k last = rw last (record { version = k.version; sorted = k.sorted; system = k.system; memories = k.memories; height = k.height })

pub begun_empty : (held : StateView) (ps : List Published) → KeepsState held (1, empty_state) → ps ≡ [] → KeepsState held (live_of (start ps))
begun_empty held ps k none = rw none k
