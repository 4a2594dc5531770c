-- What a hasher holds after it was fed.
use Rattle.std.proofs.Common.{◌≡◌, ℕ, ◌+◌, ◌<◌, List, [], ◌∷◌, ◌++◌, length, take, get_or, sym, ap, subst, ◌∙◌, append_assoc}
use Rattle.std.proofs.lemmas.List.{append-nil, take_more, flat_map_more}
use Rattle.std.specs.List.{flat_map}
use Rattle.sha2.specs.declared.Sha256.{Sha256}
use Rattle.sha2.specs.Hashers.{Holds256}
use Rattle.format_spec.specs.Bytes.{Bytes, be32, be64}
use Rattle.format_spec.specs.Hashes.{ChunkSum, chunk_sum_text}

-- the row of a chunk in three parts
pub fed_sum : (h : Sha256) (m size offset hash : Bytes) (sum : ChunkSum) → size ≡ be32 sum.size → offset ≡ be64 sum.offset → hash ≡ sum.hash
    → Holds256 h (((m ++ size) ++ offset) ++ hash) → Holds256 h (m ++ chunk_sum_text sum)
fed_sum h m size offset hash sum s o d holds =
    subst (Holds256 h) (append_assoc (m ++ size) offset hash ∙ append_assoc m size (offset ++ hash) ∙ cc) holds

-- one item more of a list whose texts stand behind a front
pub fed_more : {X : Type 0} (h : Sha256) (text : X → Bytes) (front : Bytes) (xs : List X) (i : ℕ) (x : X) → i < length xs → x ≡ get_or xs i x
    → Holds256 h ((front ++ flat_map text (take i xs)) ++ text x) → Holds256 h (front ++ flat_map text (take (i + 1) xs))
fed_more {X = X} h text front xs i x lt is holds =
    subst (Holds256 h) (flat_map_more text front (take i xs) x ∙ ap (λ (ys : List X). front ++ flat_map text ys) (ap (λ (y : X). take i xs ++ y ∷ []) is ∙ sym (take_more xs i x lt))) holds

-- a name and a number, before the first item
pub fed_first : (h : Sha256) (a b name number : Bytes) → a ≡ name → b ≡ number → Holds256 h (([] ++ a) ++ b) → Holds256 h (name ++ (number ++ []))
fed_first h a b name number e f holds = rw (← e, ← f, append-nil) holds

-- a name and two numbers
pub fed_second : (h : Sha256) (a b d name number next : Bytes) → a ≡ name → b ≡ number → d ≡ next → Holds256 h ((([] ++ a) ++ b) ++ d) → Holds256 h (name ++ ((number ++ next) ++ []))
fed_second h a b d name number next e f g holds = rw (← e, ← f, ← g, append-nil, ← append_assoc a b d) holds
