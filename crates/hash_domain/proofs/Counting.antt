-- The hashes of the first chunks, one more at a time.
use Rattle.std.proofs.Common.{◌≡◌, ℕ, zero, suc, ◌+◌, ◌-◌, ◌*◌, ◌≤◌, min, List, [], ◌∷◌, ◌++◌, length, map, take, drop, refl, sym, ap, ◌∙◌, arith, inl, inr}
use Rattle.std.specs.List.{range_with_len}
use Rattle.std.proofs.lemmas.Bool.{cases_lt}
use Rattle.std.proofs.lemmas.List.{map_push, length-drop, take_all}
use Rattle.format_spec.specs.Bytes.{Bytes, parts, part_count}
use Rattle.format_spec.specs.Hashes.{chunk_hash, chunk_string}
use Rattle.sha2.specs.Sha256.{digest_bytes, final_hash, initial_hash_256, sha256}
use Rattle.hash_domain.specs.Counted.{HasFirst}

-- one number more
pub range_push : (k a : ℕ) → range_with_len a (k + 1) ≡ range_with_len a k ++ (a + k) ∷ []
range_push zero a = ap (λ (n : ℕ). n ∷ []) (omega arith)
range_push (suc k) a =
    let more : suc k + 1 ≡ suc (k + 1) = omega arith in
    let last : a + 1 + k ≡ a + suc k = omega arith in
    ap (range_with_len a) more ∙ ap (λ (rest : List ℕ). a ∷ rest) (range_push k (a + 1) ∙ ap (λ (n : ℕ). range_with_len (a + 1) k ++ n ∷ []) last)

abbrev chunk : Bytes → ℕ → Bytes
chunk bytes i = take 1048576 (drop (i * 1048576) bytes)

pub first_none : (bytes : Bytes) → HasFirst [] bytes 0
unfolding HasFirst
first_none bytes = refl

pub first_more : (hashes new : List Bytes) (hash bytes : Bytes) (k : ℕ) → new ≡ hashes ++ hash ∷ [] → hash ≡ chunk_hash (take 1048576 (drop (k * 1048576) bytes))
    → HasFirst hashes bytes k → HasFirst new bytes (k + 1)
unfolding HasFirst
first_more hashes new hash bytes k pushed is so_far =
    let range : range_with_len 0 (k + 1) ≡ range_with_len 0 k ++ k ∷ [] = range_push k 0 ∙ ap (λ (n : ℕ). range_with_len 0 k ++ n ∷ []) (omega arith) in
    let rows = map (chunk bytes) (range_with_len 0 k) in
    let more : map chunk_hash (map (chunk bytes) (range_with_len 0 (k + 1))) ≡ map chunk_hash rows ++ chunk_hash (chunk bytes k) ∷ [] =
    ap (λ r. map chunk_hash (map (chunk bytes) r)) range ∙ ap (map chunk_hash) (map_push (chunk bytes) (range_with_len 0 k) k) ∙ map_push chunk_hash rows (chunk bytes k) in
    pushed ∙ rw (so_far, is) refl ∙ sym more

-- the hashes of all of them are those of the parts
pub first_all : (hashes : List Bytes) (bytes : Bytes) (k : ℕ) → k ≡ part_count 1048576 (length bytes) → HasFirst hashes bytes k → hashes ≡ map chunk_hash (parts 1048576 bytes)
unfolding HasFirst parts
first_all hashes bytes k count held = held ∙ ap (λ n. map chunk_hash (map (chunk bytes) (range_with_len 0 n))) count

-- the same number, written another way
pub first_at : (hashes : List Bytes) (bytes : Bytes) (k n : ℕ) → k ≡ n → HasFirst hashes bytes k → HasFirst hashes bytes n
first_at hashes bytes k n same held = rw (← same) held

-- a chunk is cut by the end of the bytes
pub cut_chunk : (bytes : Bytes) (at end : ℕ) → end ≡ min (at + 1048576) (length bytes) → at ≤ length bytes → take (end - at) (drop at bytes) ≡ take 1048576 (drop at bytes)
cut_chunk bytes at end is fits =
    let left = length-drop at bytes in
    elim (cases_lt (length bytes) (at + 1048576)) [
      | inl short ↦ take_all (end - at) (drop at bytes) (omega arith) ∙ sym (take_all 1048576 (drop at bytes) (omega arith))
      | inr long ↦
          let whole : end - at ≡ 1048576 = omega arith in
          ap (λ (n : ℕ). take n (drop at bytes)) whole
    ]

pub first_empty : (hashes : List Bytes) (bytes : Bytes) (n : ℕ) → hashes ≡ [] → n ≡ 0 → HasFirst hashes bytes n
first_empty hashes bytes n is none = rw (is, none) (first_none bytes)

-- the digest of a chunk's message is the hash of the chunk
pub digest_is : (state bytes : Bytes) (start i : ℕ) → state ≡ final_hash initial_hash_256 (chunk_string (take 1048576 (drop start bytes))) → start ≡ 1048576 * i
    → digest_bytes state 8 ≡ chunk_hash (take 1048576 (drop (i * 1048576) bytes))
unfolding sha256 chunk_hash
digest_is state bytes start i is at =
    let place : start ≡ i * 1048576 = omega arith in
    ap (λ s. digest_bytes s 8) is ∙ ap (λ n. sha256 (chunk_string (take 1048576 (drop n bytes)))) place
