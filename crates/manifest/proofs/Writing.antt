-- What was written behind a front.
use Rattle.std.proofs.Common.{◌≡◌, ℕ, ◌+◌, ◌<◌, ◌≤◌, List, [], ◌∷◌, ◌++◌, length, take, get_or, refl, sym, ap, ◌∙◌, append_assoc}
use Rattle.std.proofs.lemmas.List.{take_more, flat_map_more, take_all}
use Rattle.std.specs.List.{flat_map}
use Rattle.format_spec.specs.Bytes.{Bytes, be32, be64}
use Rattle.state_spec.specs.Manifest.{ChunkRow}
use Rattle.state_spec.specs.ManifestText.{chunk_row_text}

-- the row of a chunk in four parts
pub wrote_chunk : (old a b d new hash : Bytes) (row : ChunkRow) (file size offset : ℕ) → file ≡ row.file → size ≡ row.sum.size → offset ≡ row.sum.offset → hash ≡ row.sum.hash
    → a ≡ old ++ be32 file → b ≡ a ++ be32 size → d ≡ b ++ be64 offset → new ≡ d ++ hash → new ≡ old ++ chunk_row_text row
wrote_chunk old a b d new hash row file size offset f s o h e1 e2 e3 e4 =
    rw (e4, e3, e2, e1, append_assoc (old ++ be32 file) (be32 size) (be64 offset), append_assoc (old ++ be32 file) (be32 size ++ be64 offset) hash, append_assoc old (be32 file) ((be32 size ++ be64 offset) ++ hash), append_assoc (be32 size) (be64 offset) hash, f, s, o, h) refl

-- one item more of a list whose texts stand behind a front
pub wrote_more : {X : Type 0} (text : X → Bytes) (front new : Bytes) (xs : List X) (i : ℕ) (x : X) → i < length xs → x ≡ get_or xs i x
    → new ≡ (front ++ flat_map text (take i xs)) ++ text x → new ≡ front ++ flat_map text (take (i + 1) xs)
wrote_more {X = X} text front new xs i x lt is wrote =
    wrote ∙ flat_map_more text front (take i xs) x ∙ ap (λ (ys : List X). front ++ flat_map text ys) (ap (λ (y : X). take i xs ++ y ∷ []) is ∙ sym (take_more xs i x lt))

-- all of them
pub wrote_all : {X : Type 0} (text : X → Bytes) (front new : Bytes) (xs : List X) (i : ℕ) → length xs ≤ i → new ≡ front ++ flat_map text (take i xs) → new ≡ front ++ flat_map text xs
wrote_all {X = X} text front new xs i le wrote = wrote ∙ ap (λ (ys : List X). front ++ flat_map text ys) (take_all i xs le)
