-- Strings of bytes: joined, cut, in parts, numbers and hashes.
use Rattle.std.proofs.Common.{◌≡◌, ℕ, zero, suc, ◌*◌, ◌<◌, true, List, [], ◌∷◌, ◌++◌, length, map, take, drop, refl, arith, nat_lt}
use Rattle.std.specs.List.{AllByRecursion, flat_map, range_with_len}
use Rattle.std.specs.Int.{bytes_high_first, byte_at, to_be_bytes, w32}
use Rattle.std.specs.Prelude.{slice_index}
use Rattle.std.proofs.lemmas.Bool.{and_parts, and_from, lt-ltb, ltb-true}
use Rattle.sha2.specs.Sha256.{sha256, digest_bytes}
use Rattle.format_spec.specs.Bytes.{Bytes, IsBytes, AreByteStrings, are_bytes, be32, short_string, parts, part_count}
use Rattle.format_spec.specs.Hashes.{with_separator}
use Rattle.format_spec.proofs.Lists.{every}

-- ---- the test

pub tested : (s : Bytes) → IsBytes s → are_bytes s ≡ true
tested [] h = refl
tested (b ∷ s) h = and_from (nat_lt b 256) (are_bytes s) (lt-ltb b 256 (h 0)) (tested s (λ i. h (suc i)))

pub by_test : (s : Bytes) → are_bytes s ≡ true → IsBytes s
by_test [] h i = omega arith
by_test (b ∷ s) h zero = ltb-true b 256 (and_parts (nat_lt b 256) (are_bytes s) h).0
by_test (b ∷ s) h (suc i) = by_test s (and_parts (nat_lt b 256) (are_bytes s) h).1 i

-- ---- joined and cut

pub one_byte : (b : ℕ) (s : Bytes) → b < 256 → IsBytes s → IsBytes (b ∷ s)
one_byte b s lt h zero = lt
one_byte b s lt h (suc i) = h i

pub join_bytes : (xs ys : Bytes) → IsBytes xs → IsBytes ys → IsBytes (xs ++ ys)
join_bytes [] ys p q = q
join_bytes (x ∷ xs) ys p q = one_byte x (xs ++ ys) (p 0) (join_bytes xs ys (λ i. p (suc i)) q)

pub cut_bytes : (xs ys : Bytes) → IsBytes (xs ++ ys) → IsBytes xs × IsBytes ys
cut_bytes [] ys h = (by_test [] refl, h)
cut_bytes (x ∷ xs) ys h = let p = cut_bytes xs ys (λ i. h (suc i)) in (one_byte x xs (h 0) p.0, p.1)

pub take_bytes : (n : ℕ) (s : Bytes) → IsBytes s → IsBytes (take n s)
take_bytes zero s h = by_test [] refl
take_bytes (suc n) [] h = h
take_bytes (suc n) (b ∷ s) h = one_byte b (take n s) (h 0) (take_bytes n s (λ i. h (suc i)))

pub drop_bytes : (n : ℕ) (s : Bytes) → IsBytes s → IsBytes (drop n s)
drop_bytes zero s h = h
drop_bytes (suc n) [] h = h
drop_bytes (suc n) (b ∷ s) h = drop_bytes n s (λ i. h (suc i))

pub short_bytes : (s : Bytes) → length s < 256 → IsBytes s → IsBytes (short_string s)
short_bytes s lt h = one_byte (length s) s lt h

pub named_bytes : (name s : Bytes) → are_bytes (short_string name) ≡ true → IsBytes s → IsBytes (with_separator name s)
named_bytes name s h p = join_bytes (short_string name) s (by_test (short_string name) h) p

-- ---- lists of strings

pub strings_join : (xs ys : List Bytes) → AreByteStrings xs → AreByteStrings ys → AreByteStrings (xs ++ ys)
strings_join [] ys p q = q
strings_join (x ∷ xs) ys p q = (p.0, strings_join xs ys p.1 q)

pub flat_bytes : {X : Type 0} (f : X → Bytes) (xs : List X) → AllByRecursion (λ x. IsBytes (f x)) xs → IsBytes (flat_map f xs)
flat_bytes f [] h = by_test [] refl
flat_bytes f (x ∷ xs) h = join_bytes (f x) (flat_map f xs) h.0 (flat_bytes f xs h.1)

pub map_bytes : {X : Type 0} (f : X → Bytes) (xs : List X) → AllByRecursion (λ x. IsBytes (f x)) xs → AreByteStrings (map f xs)
map_bytes f [] h = tt
map_bytes f (x ∷ xs) h = (h.0, map_bytes f xs h.1)

pub parts_bytes : (n : ℕ) (s : Bytes) → IsBytes s → AreByteStrings (parts n s)
unfolding parts
parts_bytes n s h =
    let part : ℕ → Bytes = λ i. take n (drop (i * n) s) in
    map_bytes part (range_with_len 0 (part_count n (length s)))
    (every (λ i. IsBytes (part i)) (λ i. take_bytes n (drop (i * n) s) (drop_bytes (i * n) s h)) (range_with_len 0 (part_count n (length s))))

-- ---- numbers and hashes

byte_fits : (k n : ℕ) → byte_at k n < 256
byte_fits zero n = omega arith
byte_fits (suc k) n = omega arith

pub high_bytes : (k n : ℕ) → IsBytes (bytes_high_first k n)
high_bytes zero n = by_test [] refl
high_bytes (suc k) n = one_byte (byte_at k n) (bytes_high_first k n) (byte_fits k n) (high_bytes k n)

pub be32_bytes : (n : ℕ) → IsBytes (be32 n)
be32_bytes n = high_bytes 4 n

digest_is : (h : List ℕ) (n : ℕ) → IsBytes (digest_bytes h n)
unfolding digest_bytes
digest_is h zero = by_test [] refl
digest_is h (suc n) = join_bytes (digest_bytes h n) (to_be_bytes w32 (slice_index h n)) (digest_is h n) (high_bytes 4 (slice_index h n))

pub sha_bytes : (m : Bytes) → IsBytes (sha256 m)
unfolding sha256
sha_bytes m = digest_is _ 8
