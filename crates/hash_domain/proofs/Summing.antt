-- The sums of chunks, one chunk after another.
use Rattle.std.proofs.Common.{◌≡◌, ℕ, ◌<◌, ◌≤◌, min, List, [], ◌∷◌, ◌++◌, length, map, take, Option, Some, refl, sym, ap, ◌∙◌, append_assoc}
use Rattle.std.proofs.lemmas.List.{append-nil, take_all}
use Rattle.format_spec.specs.Bytes.{Bytes, parts}
use Rattle.format_spec.specs.Hashes.{chunk_hash}
use Rattle.format_spec.proofs.Parts.{parts_first, parts_none, counts_chunks}
use Rattle.state_spec.specs.Manifest.{sum_of, chunk_hashes}

module _ (sum : Bytes → Option Bytes) where
  pub sums_more : (sums new all : List (Option Bytes)) (left chunk rest : Bytes) (now : Option Bytes) → new ≡ sums ++ now ∷ [] → now ≡ sum chunk
      → left ≡ chunk ++ rest → length chunk ≡ min 1048576 (length left) → 0 < length left
      → sums ++ map sum (parts 1048576 left) ≡ all → new ++ map sum (parts 1048576 rest) ≡ all
  sums_more sums new all left chunk rest now pushed is split size some so_far =
      let first = parts_first 1048576 counts_chunks left chunk rest split size some in
      rw (pushed, is) (append_assoc sums (sum chunk ∷ []) (map sum (parts 1048576 rest))) ∙ ap (λ (ps : List Bytes). sums ++ map sum ps) (sym first) ∙ so_far

  pub sums_all : (sums all : List (Option Bytes)) (rest : Bytes) → length rest ≡ 0 → sums ++ map sum (parts 1048576 rest) ≡ all → sums ≡ all
  sums_all sums all rest none so_far = sym (append-nil sums) ∙ ap (λ (ps : List Bytes). sums ++ map sum ps) (sym (parts_none 1048576 rest none)) ∙ so_far

-- in version 1 each chunk has its hash
pub each_hashed : (sums : List (Option Bytes)) (hashes : List Bytes) (i : ℕ) (bytes : Bytes) → length hashes ≤ i → hashes ≡ map chunk_hash (parts 1048576 bytes)
    → sums ≡ map (λ (h : Bytes). Some h) (take i hashes) → sums ≡ chunk_hashes 1 bytes
each_hashed sums hashes i bytes le are so_far =
    so_far ∙ ap (map (λ (h : Bytes). Some h)) (take_all i hashes le ∙ are) ∙ go (parts 1048576 bytes)
  where
    go : (cs : List Bytes) → map (λ (h : Bytes). Some h) (map chunk_hash cs) ≡ map (sum_of 1) cs
    go [] = refl
    go (c ∷ cs) = ap (λ (t : List (Option Bytes)). Some (chunk_hash c) ∷ t) (go cs)
