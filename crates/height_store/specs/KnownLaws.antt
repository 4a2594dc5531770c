-- What a published height tells of its state.
use Rattle.std.specs.Prelude.{◌≡◌, ℕ, List, [], ◌∷◌, map, Option, refl}
use Rattle.std.specs.List.{AllZip, AllByRecursion}
use Rattle.std.proofs.Common.{sym, ◌∙◌, ap, subst, eqb-true}
use Rattle.format_spec.specs.Bytes.{Bytes}
use Rattle.format_spec.proofs.Cuts.{cons_same}
use Rattle.state_spec.specs.State.{State, SystemPart, system_of, memory_bytes, state_from}
use Rattle.state_spec.specs.Files.{memories_in}
use Rattle.state_spec.specs.Manifest.{Manifest, manifest_of, manifest_from, file_sums, chunk_hashes}
use Rattle.state_spec.specs.Root.{root_of, root_of_meta, meta_of}
use Rattle.sys_state.specs.System.{part_of, kept_of}
use Rattle.manifest.specs.Fits.{FitMemories}
use Rattle.manifest.proofs.States.{of_state}
use Rattle.store_spec.specs.Image.{Published, HasTrueSums, memories_from, opened_state}
use Rattle.store_spec.specs.Mark.{MarkMemory}
use Rattle.disk_model.specs.Files.{Files}
use Rattle.disk_model.specs.State.{DiskState}
use Rattle.disk_model.specs.Laws.{IsSound}
use Rattle.height_store.specs.Store.{StoredHeight}
use Rattle.height_store.specs.Kept.{ShowsHeight, KeepsHeights}
use Rattle.height_store.specs.Memories.{memories_long}
use Rattle.height_store.specs.States.{same_version, same_parts, same_bytes, made_parts, made_bytes, made_version, made_kept}
use Rattle.height_store.specs.Known.{KnowsHeight}

-- true sums are those of the chunks
pub sums_are : (version : ℕ) (ms : List MarkMemory) (memories : List Bytes) → AllZip (HasTrueSums version) ms memories → map (λ m. m.sums) ms ≡ map (chunk_hashes version) memories
sums_are version [] [] true_sums = refl
sums_are version [] (bytes ∷ memories) true_sums = absurd true_sums
sums_are version (m ∷ ms) [] true_sums = absurd true_sums
sums_are version (m ∷ ms) (bytes ∷ memories) true_sums = cons_same m.sums (chunk_hashes version bytes) (map (λ m. m.sums) ms) (map (chunk_hashes version) memories) true_sums.0 (sums_are version ms memories true_sums.1)

module _ (files : Files) (h : StoredHeight) (p : Published) (shows : ShowsHeight files h p) where
  abbrev system : SystemPart
  system = part_of h.system

  abbrev memories : List Bytes
  memories = memories_from system shows.made.layers

  abbrev made : State
  made = state_from h.mark.version p.height system memories

  fit : FitMemories system memories
  fit = memories_long files (memories_in system) h.stacks shows.made.layers shows.made.good.fits shows.made.there

  version : p.state.version ≡ h.mark.version
  version = same_version p.state made shows.made.same_state ∙ made_version h.mark.version p.height system memories fit

  parts : system_of p.state ≡ system
  parts = same_parts p.state made shows.made.same_state ∙ made_parts h.mark.version p.height system memories fit

  -- The bytes of its memories are those that the layers give.
  pub bytes_made : memory_bytes p.state ≡ memories
  bytes_made = same_bytes p.state made shows.made.same_state ∙ made_bytes h.mark.version p.height system memories fit

  long : FitMemories system (memory_bytes p.state)
  long = subst (FitMemories system) (sym bytes_made) fit

  opened_is : opened_state p ≡ state_from p.state.version p.height system (memory_bytes p.state)
  unfolding opened_state
  opened_is = ap (λ (s : SystemPart). state_from p.state.version p.height s (memory_bytes p.state)) parts

  births : AllByRecursion (λ c. c.1.birth ≡ p.height) h.system.canisters
  births = subst (λ (n : ℕ). AllByRecursion (λ c. c.1.birth ≡ n) h.system.canisters) (sym shows.made.height) shows.good.births

  opened_bytes : memory_bytes (opened_state p) ≡ memory_bytes p.state
  opened_bytes = ap memory_bytes opened_is ∙ made_bytes p.state.version p.height system (memory_bytes p.state) long

  sums : AllZip (HasTrueSums h.mark.version) h.mark.memories (memory_bytes p.state)
  sums = subst (AllZip (HasTrueSums h.mark.version) h.mark.memories) (sym bytes_made) shows.made.true_sums

  manifest_same : manifest_of (opened_state p) ≡ manifest_of p.state
  manifest_same =
      sym (of_state h.mark.version (opened_state p) system (memory_bytes p.state) long
      (ap (λ (s : State). s.version) opened_is ∙ made_version p.state.version p.height system (memory_bytes p.state) long ∙ version)
      (ap system_of opened_is ∙ made_parts p.state.version p.height system (memory_bytes p.state) long)
      opened_bytes)
      ∙ of_state h.mark.version p.state system (memory_bytes p.state) long version parts refl

  -- Where files show a height, it is known.
  pub shown_known : KnowsHeight h p
  unfolding root_of
  shown_known = record {
    good = shows.good;
    height = sym shows.made.height;
    version = version;
    parts = parts;
    system = ap kept_of opened_is ∙ made_kept p.state.version p.height h.system (memory_bytes p.state) births long;
    bytes = opened_bytes;
    sizes = long;
    sums = sums;
    root = shows.made.good.mark.root
        ∙ ap (λ (hashes : List (List (Option Bytes))). root_of_meta (meta_of (manifest_from h.mark.version (file_sums system hashes)))) (sums_are h.mark.version h.mark.memories (memory_bytes p.state) sums)
        ∙ ap (λ (m : Manifest). root_of_meta (meta_of m)) (of_state h.mark.version p.state system (memory_bytes p.state) long version parts refl);
    same_root = ap (λ (m : Manifest). root_of_meta (meta_of m)) manifest_same;
  }

each_known : (files : Files) (hs : List StoredHeight) (ps : List Published) → AllZip (ShowsHeight files) hs ps → AllZip KnowsHeight hs ps
each_known files [] [] each = tt
each_known files [] (p ∷ ps) each = absurd each
each_known files (h ∷ hs) [] each = absurd each
each_known files (h ∷ hs) (p ∷ ps) each = (shown_known files h p each.0, each_known files hs ps each.1)

-- Where heights are kept, they are known.
pub kept_known : (hs : List StoredHeight) (s : DiskState) (ps : List Published) → IsSound s → KeepsHeights hs s ps → AllZip KnowsHeight hs ps
kept_known hs s ps sound keeps = each_known s.files hs ps (keeps.images s.files sound).each

-- It is of the version that stores open.
pub known_version : (h : StoredHeight) (p : Published) → KnowsHeight h p → p.state.version ≡ 1
known_version h p known = known.version ∙ eqb-true h.mark.version 1 known.good.parts.opened
