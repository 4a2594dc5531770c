-- The manifest that a mark gives is that of the state of its height.
use Rattle.std.proofs.Common.{◌≡◌, ℕ, ◌*◌, List, [], ◌∷◌, map, Option, refl, sym, ap, ◌∙◌}
use Rattle.format_spec.specs.Bytes.{Bytes}
use Rattle.format_spec.specs.declared.limits.TheConstants.{PAGE_SIZE}
use Rattle.state_spec.specs.State.{memory_bytes}
use Rattle.state_spec.specs.Files.{memories_in}
use Rattle.state_spec.specs.Manifest.{manifest_of, manifest_from, file_sums}
use Rattle.store_spec.specs.Image.{Published}
use Rattle.sys_state.specs.System.{part_of}
use Rattle.manifest.specs.Fits.{FitSums}
use Rattle.manifest.proofs.States.{of_state}
use Rattle.mark_file.proofs.MemoryLaws.{sums_fit}
use Rattle.height_store.specs.Store.{StoredHeight, IsHeight}
use Rattle.height_store.specs.Known.{KnowsHeight}
use Rattle.height_store.specs.KnownLaws.{sums_are}
use Rattle.sync_serve.specs.Places.{HavePages}

abbrev pub sums_in : StoredHeight → List (List (Option Bytes))
sums_in h = map (λ m. m.sums) h.mark.memories

pub mark_manifest : (h : StoredHeight) (p : Published) → KnowsHeight h p → manifest_from h.mark.version (file_sums (part_of h.system) (sums_in h)) ≡ manifest_of p.state
mark_manifest h p known =
    let v = h.mark.version in
    ap (λ (hashes : List (List (Option Bytes))). manifest_from v (file_sums (part_of h.system) hashes)) (sums_are v h.mark.memories (memory_bytes p.state) known.sums)
    ∙ of_state v p.state (part_of h.system) (memory_bytes p.state) known.sizes known.version known.parts refl

pub mark_fits : (h : StoredHeight) → IsHeight h → FitSums (part_of h.system) (sums_in h)
mark_fits h good = sums_fit h.mark.version h.mark.memories (memories_in (part_of h.system)) good.parts.mark.memories_fit

-- the memories have as many pages as the system text says
pub have_pages : (h : StoredHeight) (p : Published) (pages : List ℕ) → KnowsHeight h p → pages ≡ map (λ m. m.1) (memories_in (part_of h.system)) → HavePages pages (memory_bytes p.state)
have_pages h p pages known are =
    known.sizes ∙ sym (map_twice (memories_in (part_of h.system))) ∙ ap (map (λ count. count * PAGE_SIZE)) (sym are)
  where
    map_twice : (ms : List (Bytes × ℕ)) → map (λ (count : ℕ). count * PAGE_SIZE) (map (λ m. m.1) ms) ≡ map (λ m. m.1 * PAGE_SIZE) ms
    map_twice [] = refl
    map_twice (m ∷ ms) = ap (λ (ns : List ℕ). m.1 * PAGE_SIZE ∷ ns) (map_twice ms)
