-- What the sums of chunks tell of them, and how many hashes are among them.
use Rattle.std.proofs.Common.{◌≡◌, ℕ, Bool, true, false, not, List, [], ◌∷◌, length, map, filter, Option, Some, None, refl, sym, ap, ◌∙◌, subst, arith}
use Rattle.std.specs.Prelude.{if◌then◌else◌}
use Rattle.std.specs.List.{AllZip}
use Rattle.std.proofs.lemmas.List.{length-map}
use Rattle.format_spec.specs.Bytes.{Bytes, part_count, parts}
use Rattle.format_spec.specs.Hashes.{chunk_hash}
use Rattle.format_spec.specs.declared.limits.TheConstants.{CHUNK_SIZE}
use Rattle.format_spec.proofs.Cuts.{cons_same}
use Rattle.format_spec.proofs.Parts.{parts_length}
use Rattle.state_spec.specs.Manifest.{is_zeros, has_row, sum_of}
use Rattle.store_spec.specs.Mark.{MarkMemory, hash_count}
use Rattle.store_spec.specs.Image.{HasTrueSums, TellsChunk}

-- ---- counts

hashes_counted : (v : ℕ) (cs : List Bytes) → hash_count (map (sum_of v) cs) ≡ length (filter (has_row v) cs)
hashes_counted v [] = refl
hashes_counted v (c ∷ cs) = go (has_row v c) (hashes_counted v cs)
  where
    go : (b : Bool) → hash_count (map (sum_of v) cs) ≡ length (filter (has_row v) cs)
        → hash_count ((if b then Some (chunk_hash c) else None) ∷ map (sum_of v) cs) ≡ length (if b then c ∷ filter (has_row v) cs else filter (has_row v) cs)
    go true e = omega (arith, e)
    go false e = e

pub true_counts : (v : ℕ) (m : MarkMemory) (bytes : Bytes) → HasTrueSums v m bytes
    → (length m.sums ≡ part_count CHUNK_SIZE (length bytes)) × (hash_count m.sums ≡ length (filter (has_row v) (parts CHUNK_SIZE bytes)))
true_counts v m bytes e = (
  ap length e ∙ length-map (parts CHUNK_SIZE bytes) (sum_of v) ∙ parts_length CHUNK_SIZE bytes,
  ap hash_count e ∙ hashes_counted v (parts CHUNK_SIZE bytes),
)

-- ---- what they tell

first_sums : (cs : List Bytes) → map (sum_of 1) cs ≡ map (λ chunk. Some (chunk_hash chunk)) cs
first_sums [] = refl
first_sums (c ∷ cs) = cons_same (Some (chunk_hash c)) (Some (chunk_hash c)) _ _ refl (first_sums cs)

pub true_first : (m : MarkMemory) (bytes : Bytes) → HasTrueSums 1 m bytes → m.sums ≡ map (λ chunk. Some (chunk_hash chunk)) (parts CHUNK_SIZE bytes)
true_first m bytes e = e ∙ first_sums (parts CHUNK_SIZE bytes)

tells_one : (c : Bytes) → TellsChunk (sum_of 2 c) c
tells_one c = go (is_zeros c) refl
  where
    go : (b : Bool) → is_zeros c ≡ b → TellsChunk (if not b then Some (chunk_hash c) else None) c
    go true e = e
    go false e = (ap not e, refl)

tells_all : (cs : List Bytes) → AllZip TellsChunk (map (sum_of 2) cs) cs
tells_all [] = tt
tells_all (c ∷ cs) = (tells_one c, tells_all cs)

told_one : (x : Option Bytes) (c : Bytes) → TellsChunk x c → x ≡ sum_of 2 c
told_one None c h = rw (h) refl
told_one (Some hash) c h = rw (h.0) (ap Some h.1)

told_all : (xs : List (Option Bytes)) (cs : List Bytes) → AllZip TellsChunk xs cs → xs ≡ map (sum_of 2) cs
told_all [] [] h = refl
told_all [] (c ∷ cs) h = absurd h
told_all (x ∷ xs) [] h = absurd h
told_all (x ∷ xs) (c ∷ cs) h = cons_same x (sum_of 2 c) xs (map (sum_of 2) cs) (told_one x c h.0) (told_all xs cs h.1)

pub true_tells : (m : MarkMemory) (bytes : Bytes) → HasTrueSums 2 m bytes → AllZip TellsChunk m.sums (parts CHUNK_SIZE bytes)
true_tells m bytes e = subst (λ (x : List (Option Bytes)). AllZip TellsChunk x (parts CHUNK_SIZE bytes)) (sym e) (tells_all (parts CHUNK_SIZE bytes))

pub told_true : (m : MarkMemory) (bytes : Bytes) → AllZip TellsChunk m.sums (parts CHUNK_SIZE bytes) → HasTrueSums 2 m bytes
told_true m bytes h = told_all m.sums (parts CHUNK_SIZE bytes) h
