-- A byte string in parts of one size: its first part, and the parts of the rest.
use Rattle.std.proofs.Common.{◌≡◌, ℕ, ◌+◌, ◌*◌, ◌^◌, ◌<◌, ◌≤◌, min, List, [], ◌∷◌, ◌++◌, length, map, sym, ap, ◌∙◌, append_assoc, arith}
use Rattle.std.proofs.lemmas.List.{append-nil, length-map}
use Rattle.format_spec.specs.Bytes.{Bytes, parts, part_count}
use Rattle.format_spec.proofs.Parts.{parts_length, CountsFirst, parts_first, parts_none}

-- ---- each part hashed

module _ (hash : Bytes → Bytes) (n : ℕ) where
  -- one part more
  pub hashed_more : CountsFirst n → (hashes new all : List Bytes) (left chunk rest now : Bytes) → new ≡ hashes ++ now ∷ [] → now ≡ hash chunk
      → left ≡ chunk ++ rest → length chunk ≡ min n (length left) → 0 < length left
      → hashes ++ map hash (parts n left) ≡ all → new ++ map hash (parts n rest) ≡ all
  hashed_more counts hashes new all left chunk rest now pushed is split size some so_far =
      let first = parts_first n counts left chunk rest split size some in
      rw (pushed, is) (append_assoc hashes (hash chunk ∷ []) (map hash (parts n rest))) ∙ ap (λ (ps : List Bytes). hashes ++ map hash ps) (sym first) ∙ so_far

  -- all of them
  pub hashed_all : (hashes all : List Bytes) (rest : Bytes) → length rest ≡ 0 → hashes ++ map hash (parts n rest) ≡ all → hashes ≡ all
  hashed_all hashes all rest none so_far = sym (append-nil hashes) ∙ ap (λ (ps : List Bytes). hashes ++ map hash ps) (sym (parts_none n rest none)) ∙ so_far

-- ---- how many parts

-- a text of so many rows has few pieces
pub few_pieces : (hash : Bytes → Bytes) (text : Bytes) (files chunks : ℕ) → length text ≤ 16 + 296 * files + 48 * chunks → files < 2 ^ 32 → chunks < 2 ^ 32
    → length (map hash (parts 4096 text)) < 2 ^ 32
few_pieces hash text files chunks size f c =
    let count : length (map hash (parts 4096 text)) ≡ part_count 4096 (length text) = length-map (parts 4096 text) hash ∙ parts_length 4096 text in
    rw count (omega arith)
