use Rattle.std.proofs.Common.{◌≡◌, ℕ, ◌<◌, ◌+◌, ◌*◌, List, take, drop, slice_index, ap, ◌∙◌, arith, refl, sym}
use Rattle.std.proofs.lemmas.List.{get_or-take, get_or-drop}
use Rattle.sha2.specs.Sha256.{word_at}

-- a word of a block is a word of the message
pub block_word : (m : List ℕ) (i k : ℕ) → k < 16 → word_at m (64 * i + 4 * k) ≡ word_at (take 64 (drop (i * 64) m)) (4 * k)
block_word m i k lt =
    let byte : (n p : ℕ) → n < 64 → i * 64 + n ≡ p → slice_index (take 64 (drop (i * 64) m)) n ≡ slice_index m p =
    λ n p low e. get_or-take 64 (drop (i * 64) m) n 0 low ∙ get_or-drop (i * 64) m n 0 ∙ ap (slice_index m) e in
    rw (
      byte (4 * k) (64 * i + 4 * k) (omega arith) (omega arith),
      byte (4 * k + 1) (64 * i + 4 * k + 1) (omega arith) (omega arith),
      byte (4 * k + 2) (64 * i + 4 * k + 2) (omega arith) (omega arith),
      byte (4 * k + 3) (64 * i + 4 * k + 3) (omega arith) (omega arith),
    ) refl

-- a word of bytes that begin at a place
pub word_behind : (bytes : List ℕ) (start p q : ℕ) → q ≡ start + p → word_at bytes q ≡ word_at (drop start bytes) p
word_behind bytes start p q e =
    let byte : (n : ℕ) → slice_index bytes (q + n) ≡ slice_index (drop start bytes) (p + n) =
    λ n. ap (slice_index bytes) (omega arith) ∙ sym (get_or-drop start bytes (p + n) 0) in
    let first : slice_index bytes q ≡ slice_index (drop start bytes) p = ap (slice_index bytes) e ∙ sym (get_or-drop start bytes p 0) in
    rw (first, byte 1, byte 2, byte 3) refl
