-- Where the first chunk of a size and a hash is among published heights.
use Rattle.std.proofs.Common.{◌≡◌, ℕ, ◌+◌, ◌<◌, ◌/◌, suc, true, false, cond, List, [], ◌∷◌, length, map, drop, drop-cons, get_or, Option, None, Some, refl, sym, ◌∙◌, ap, arith}
use Rattle.std.specs.List.{find, flat_map, AllZip}
use Rattle.std.specs.Option.{option_map, option_or}
use Rattle.std.proofs.lemmas.List.Folds.{find-append}
use Rattle.format_spec.specs.Bytes.{Bytes}
use Rattle.format_spec.specs.Hashes.{ChunkSum}
use Rattle.format_spec.specs.declared.limits.TheConstants.{CHUNK_SIZE}
use Rattle.format_spec.proofs.Cuts.{cons_same}
use Rattle.state_spec.specs.State.{memory_bytes}
use Rattle.state_spec.specs.Manifest.{Manifest, ChunkRow, manifest_of, manifest_from, file_sums}
use Rattle.sync_spec.specs.Local.{Source, sources_in, same_chunk, manifests_of}
use Rattle.sys_state.specs.System.{part_of}
use Rattle.manifest.proofs.States.{of_state}
use Rattle.store_spec.specs.Image.{Published}
use Rattle.chunk_index.specs.declared.index.Place.{Place}
use Rattle.chunk_index.specs.Index.{is_chunk, place_of, first_place}
use Rattle.height_store.specs.Chunks.{manifest_in, manifests_in, chunks_in, chunk_in}
use Rattle.height_store.specs.Known.{KnowsHeight}
use Rattle.height_store.specs.KnownLaws.{sums_are}
use Rattle.height_store.specs.Store.{StoredHeight}

abbrev sum_of : ℕ → Bytes → ChunkSum
sum_of size hash = record { size = size; offset = 0; hash = hash }

abbrev as_found : Source → ℕ × ℕ × ℕ
as_found source = (source.height, source.file, source.from)

abbrev at_height : ℕ → Place → ℕ × ℕ × ℕ
at_height height place = (height, place.file, place.chunk)

-- ---- one height

rows_found : (height size : ℕ) (hash : Bytes) (rows : List ChunkRow)
    → option_map as_found (option_map (λ (x : ChunkSum × Source). x.1) (find (same_chunk (sum_of size hash)) (map (λ r. (r.sum, record { height = height; file = r.file; from = r.sum.offset / CHUNK_SIZE })) rows)))
    ≡ option_map (at_height height) (first_place rows size hash)
rows_found height size hash [] = refl
rows_found height size hash (r ∷ rows) =
    elim (is_chunk size hash r.sum) as (λ b.
    option_map as_found (option_map (λ (x : ChunkSum × Source). x.1) (cond b (Some (row_source r)) (find (same_chunk (sum_of size hash)) (map row_source rows))))
    ≡ option_map (at_height height) (option_map place_of (cond b (Some r) (find (λ q. is_chunk size hash q.sum) rows)))) [
      | true ↦ refl
      | false ↦ rows_found height size hash rows
    ]
  where
    row_source : ChunkRow → ChunkSum × Source
    row_source q = (q.sum, record { height = height; file = q.file; from = q.sum.offset / CHUNK_SIZE })

-- ---- heights in order

module _ (size : ℕ) (hash : Bytes) where
  -- what a height has
  abbrev own : StoredHeight → Option (ℕ × ℕ × ℕ)
  own h = option_map (at_height h.mark.height) (first_place (chunks_in h.mark (part_of h.system)) size hash)

  next : (h : StoredHeight) (hs : List StoredHeight) → chunk_in (h ∷ hs) size hash ≡ option_or (own h) (chunk_in hs size hash)
  next h hs =
      ap found (find-append (same_chunk (sum_of size hash)) (sources_in here) (flat_map sources_in (manifests_in hs)))
      ∙ apart (find (same_chunk (sum_of size hash)) (sources_in here)) (find (same_chunk (sum_of size hash)) (flat_map sources_in (manifests_in hs)))
      ∙ ap (λ (o : Option (ℕ × ℕ × ℕ)). option_or o (chunk_in hs size hash)) (rows_found h.mark.height size hash (chunks_in h.mark (part_of h.system)))
    where
      here : ℕ × Manifest
      here = (h.mark.height, manifest_in h.mark (part_of h.system))

      found : Option (ChunkSum × Source) → Option (ℕ × ℕ × ℕ)
      found o = option_map as_found (option_map (λ (x : ChunkSum × Source). x.1) o)

      apart : (a b : Option (ChunkSum × Source)) → found (option_or a b) ≡ option_or (found a) (found b)
      apart None b = refl
      apart (Some x) b = refl

  module _ (hs : List StoredHeight) (i : ℕ) where
    cut : (h : StoredHeight) → i < length hs → h ≡ get_or hs i h → chunk_in (drop i hs) size hash ≡ option_or (own h) (chunk_in (drop (i + 1) hs) size hash)
    cut h lt is =
        let e : suc i ≡ i + 1 = omega arith in
        let parts : drop i hs ≡ h ∷ drop (i + 1) hs = drop-cons hs i h lt ∙ ap (λ (g : StoredHeight). g ∷ drop (suc i) hs) (sym is) ∙ ap (λ (k : ℕ). h ∷ drop k hs) e in
        ap (λ (l : List StoredHeight). chunk_in l size hash) parts ∙ next h (drop (i + 1) hs)

    -- the height has no such chunk, nor have those before
    pub not_here : (h : StoredHeight) → i < length hs → h ≡ get_or hs i h → first_place (chunks_in h.mark (part_of h.system)) size hash ≡ None
        → chunk_in hs size hash ≡ chunk_in (drop i hs) size hash → chunk_in hs size hash ≡ chunk_in (drop (i + 1) hs) size hash
    not_here h lt is none so_far =
        so_far ∙ cut h lt is ∙ ap (λ (o : Option Place). option_or (option_map (at_height h.mark.height) o) (chunk_in (drop (i + 1) hs) size hash)) none

    -- the height has it
    pub here : (h : StoredHeight) (place : Place) → i < length hs → h ≡ get_or hs i h → first_place (chunks_in h.mark (part_of h.system)) size hash ≡ Some place
        → chunk_in hs size hash ≡ chunk_in (drop i hs) size hash → Some (h.mark.height, place.file, place.chunk) ≡ chunk_in hs size hash
    here h place lt is some so_far =
        sym (so_far ∙ cut h lt is ∙ ap (λ (o : Option Place). option_or (option_map (at_height h.mark.height) o) (chunk_in (drop (i + 1) hs) size hash)) some)

-- ---- the manifests are those of states

abbrev with_height : ℕ → Manifest → ℕ × Manifest
with_height height m = (height, m)

known_manifest : (h : StoredHeight) (p : Published) → KnowsHeight h p → with_height h.mark.height (manifest_in h.mark (part_of h.system)) ≡ with_height p.height (manifest_of p.state)
known_manifest h p known =
    ap (λ (n : ℕ). with_height n (manifest_in h.mark (part_of h.system))) known.height
    ∙ ap (λ (hashes : List (List (Option Bytes))). with_height p.height (manifest_from h.mark.version (file_sums (part_of h.system) hashes)))
    (sums_are h.mark.version h.mark.memories (memory_bytes p.state) known.sums)
    ∙ ap (with_height p.height) (of_state h.mark.version p.state (part_of h.system) (memory_bytes p.state) known.sizes known.version known.parts refl)

pub known_manifests : (hs : List StoredHeight) (ps : List Published) → AllZip KnowsHeight hs ps → manifests_in hs ≡ manifests_of (map (λ p. (p.height, p.state)) ps)
known_manifests [] [] each = refl
known_manifests [] (p ∷ ps) each = absurd each
known_manifests (h ∷ hs) [] each = absurd each
known_manifests (h ∷ hs) (p ∷ ps) each =
    cons_same (with_height h.mark.height (manifest_in h.mark (part_of h.system))) (with_height p.height (manifest_of p.state)) (manifests_in hs) (manifests_of (map (λ p. (p.height, p.state)) ps)) (known_manifest h p each.0) (known_manifests hs ps each.1)
