-- The hash value of a message that is taken in in pieces of whole blocks.
use Rattle.std.proofs.Common.{◌≡◌, ℕ, zero, suc, ◌+◌, ◌-◌, ◌*◌, ◌/◌, ◌%◌, ◌^◌, ◌≤◌, List, ◌++◌, length, take, drop, replicate, refl, sym, ap, ◌∙◌, arith, add-zero}
use Rattle.std.proofs.lemmas.List.{length-append, length-replicate, length-take-le, length-drop, append_assoc, take-append-drop, take-take, drop-drop, drop-take}
use Rattle.std.proofs.Math.Seq.{drop-append-add}
use Rattle.std.specs.Prelude.{codes}
use Rattle.std.specs.Int.{w64, to_be_bytes}
use Rattle.sha2.specs.Sha256.{hash_after, padding, padded_message, final_hash}
use Rattle.sha2.proofs.Absorbing256.{hash_after-append}
use Rattle.format_spec.specs.Bytes.{Bytes, short_string}
use Rattle.format_spec.specs.Hashes.{chunk_string}
use Rattle.hash_lanes.specs.Messages.{last_count}

-- blocks of q behind those of p
pub hash_join : (h p q : List ℕ) (a b : ℕ) → length p ≡ a * 64 → hash_after h (p ++ q) (a + b) ≡ hash_after (hash_after h p a) q b
unfolding hash_after
hash_join h p q a zero len = ap (hash_after h (p ++ q)) (add-zero a) ∙ hash_after-append h p q a (omega arith)
hash_join h p q a (suc b) len =
    let next : a + suc b ≡ suc (a + b) = omega arith in
    let place : (a + b) * 64 ≡ length p + b * 64 = omega arith in
    let behind : drop ((a + b) * 64) (p ++ q) ≡ drop (b * 64) q = ap (λ n. drop n (p ++ q)) place ∙ drop-append-add p q (b * 64) in
    ap (hash_after h (p ++ q)) next ∙ rw (behind, hash_join h p q a b len) refl

-- only the blocks that are counted matter
pub hash_front : (h p f : List ℕ) (n : ℕ) → take (n * 64) p ≡ f → length f ≡ n * 64 → hash_after h p n ≡ hash_after h f n
hash_front h p f n front len =
    ap (λ s. hash_after h s n) (sym (take-append-drop (n * 64) p) ∙ ap (λ s. s ++ drop (n * 64) p) front)
    ∙ hash_after-append h f (drop (n * 64) p) n (omega arith)

-- three pieces
pub hash_pieces : (h m first middle last : List ℕ) (k t : ℕ) → m ≡ first ++ (middle ++ last) → length first ≡ 1 * 64 → length middle ≡ k * 64 → length last ≡ t * 64
    → hash_after (hash_after (hash_after h first 1) middle k) last t ≡ hash_after h m (length m / 64)
hash_pieces h m first middle last k t is a b c =
    let len : length m ≡ length first + (length middle + length last) =
    ap length is ∙ length-append first (middle ++ last) ∙ ap (λ n. length first + n) (length-append middle last) in
    let count : length m / 64 ≡ 1 + (k + t) = omega arith in
    sym (rw (count, is) (hash_join h first (middle ++ last) 1 (k + t) a ∙ hash_join (hash_after h first 1) middle last k t b))

-- ---- the message of a chunk

pub length-padding : (n : ℕ) → length (padding n) ≡ 9 + (119 - n % 64) % 64
length-padding n =
    let zeros = length-replicate {A = ℕ} ((119 - n % 64) % 64) 0 in
    let both = length-append (replicate ((119 - n % 64) % 64) 0) (to_be_bytes w64 (n * 8 % 2 ^ 64)) in
    omega (arith, zeros, both)

pub length-last : (left : Bytes) (n : ℕ) → length left ≡ n % 64 → length (left ++ padding n) ≡ last_count (length left) * 64
length-last left n is = omega (arith, length-append left (padding n), length-padding n)

abbrev named : Bytes
named = short_string (codes "ic-state-chunk")

-- the message of a chunk in pieces: its first block, whole blocks of the chunk, and what is left with the padding
pub message_pieces : (chunk : Bytes) (k done : ℕ) → done ≡ 49 + k * 64 → done ≤ length chunk
    → padded_message (chunk_string chunk) ≡ chunk_string (take 49 chunk) ++ (take (k * 64) (drop 49 chunk) ++ (drop done chunk ++ padding (length chunk + 15)))
message_pieces chunk k done is fits =
    let size : length (chunk_string chunk) ≡ length chunk + 15 = length-append named chunk ∙ omega arith in
    let rest : drop (k * 64) (drop 49 chunk) ≡ drop done chunk = drop-drop (k * 64) 49 chunk ∙ ap (λ n. drop n chunk) (sym is) in
    let pad = padding (length chunk + 15) in
    let middle = take (k * 64) (drop 49 chunk) in
    let split : chunk ≡ take 49 chunk ++ (middle ++ drop done chunk) =
    sym (take-append-drop 49 chunk) ∙ ap (λ s. take 49 chunk ++ s) (sym (take-append-drop (k * 64) (drop 49 chunk)) ∙ ap (λ s. middle ++ s) rest) in
    ap (λ n. chunk_string chunk ++ padding n) size
    ∙ ap (λ s. (named ++ s) ++ pad) split
    ∙ append_assoc named (take 49 chunk ++ (middle ++ drop done chunk)) pad
    ∙ ap (λ s. named ++ s) (append_assoc (take 49 chunk) (middle ++ drop done chunk) pad ∙ ap (λ s. take 49 chunk ++ s) (append_assoc middle (drop done chunk) pad))
    ∙ sym (append_assoc named (take 49 chunk) (middle ++ (drop done chunk ++ pad)))

-- the whole blocks of the chunk, seen in all bytes
cut_middle : (bytes : Bytes) (start size k : ℕ) → 49 + k * 64 ≤ size → take (k * 64) (drop 49 (take size (drop start bytes))) ≡ take (k * 64) (drop (start + 49) bytes)
cut_middle bytes start size k fits =
    let split : 49 + (size - 49) ≡ size = omega arith in
    let inner : drop 49 (take size (drop start bytes)) ≡ take (size - 49) (drop (start + 49) bytes) =
    ap (λ n. drop 49 (take n (drop start bytes))) (sym split) ∙ drop-take 49 (size - 49) (drop start bytes) ∙ ap (take (size - 49)) (drop-drop 49 start bytes) in
    ap (take (k * 64)) inner ∙ take-take (k * 64) (size - 49) (drop (start + 49) bytes) (omega arith)

-- the hash value of the message of the chunk of this size that begins at `start`
pub message_hash : (h bytes first last : Bytes) (start size k done t : ℕ) → start + size ≤ length bytes → 49 ≤ size → k ≡ (size - 49) / 64 → done ≡ 49 + 64 * k
    → t ≡ last_count (size - done)
    → take 64 first ≡ chunk_string (take 49 (drop start bytes))
    → take (64 * t) (take 128 last) ≡ drop done (take size (drop start bytes)) ++ padding (size + 15)
    → hash_after (hash_after (hash_after h first 1) (drop (start + 49) bytes) k) last t ≡ final_hash h (chunk_string (take size (drop start bytes)))
message_hash h bytes first last start size k done t fits some blocks behind count is_first is_last =
    let chunk = take size (drop start bytes) in
    let len : length chunk ≡ size = length-take-le size (drop start bytes) (omega (arith, length-drop start bytes)) in
    let left : length (drop done chunk) ≡ (size + 15) % 64 = length-drop done chunk ∙ omega arith in
    let left_is : length (drop done chunk) ≡ size - done = length-drop done chunk ∙ ap (λ n. n - done) len in
    let cut : take 49 (drop start bytes) ≡ take 49 chunk = sym (take-take 49 size (drop start bytes) some) in
    let head : take (1 * 64) first ≡ chunk_string (take 49 chunk) = is_first ∙ ap chunk_string cut in
    let head_size : length (chunk_string (take 49 chunk)) ≡ 1 * 64 = length-append named (take 49 chunk) ∙ ap (λ n. 15 + n) (length-take-le 49 chunk (omega arith)) in
    let middle : take (k * 64) (drop (start + 49) bytes) ≡ take (k * 64) (drop 49 chunk) =
    sym (cut_middle bytes start size k (omega arith)) in
    let middle_size : length (take (k * 64) (drop 49 chunk)) ≡ k * 64 = length-take-le (k * 64) (drop 49 chunk) (omega (arith, length-drop 49 chunk)) in
    let last_size : length (drop done chunk ++ padding (size + 15)) ≡ t * 64 =
    length-last (drop done chunk) (size + 15) left ∙ ap (λ n. last_count n * 64) left_is ∙ ap (λ n. n * 64) (sym count) in
    let tail : take (t * 64) last ≡ drop done chunk ++ padding (size + 15) =
    sym (take-take (t * 64) 128 last (omega arith)) ∙ ap (λ n. take n (take 128 last)) (omega arith) ∙ is_last in
    hash_front _ last (drop done chunk ++ padding (size + 15)) t tail last_size
    ∙ ap (λ g. hash_after g (drop done chunk ++ padding (size + 15)) t)
    (hash_front _ (drop (start + 49) bytes) (take (k * 64) (drop 49 chunk)) k middle middle_size
    ∙ ap (λ g. hash_after g (take (k * 64) (drop 49 chunk)) k) (hash_front h first (chunk_string (take 49 chunk)) 1 head head_size))
    ∙ hash_pieces h (padded_message (chunk_string chunk)) (chunk_string (take 49 chunk)) (take (k * 64) (drop 49 chunk)) (drop done chunk ++ padding (size + 15)) k t
    (message_pieces chunk k done (omega arith) (omega arith) ∙ ap (λ n. chunk_string (take 49 chunk) ++ (take (k * 64) (drop 49 chunk) ++ (drop done chunk ++ padding (n + 15)))) len)
    head_size middle_size last_size

-- the same, as the hash value goes through the lanes
pub message_state : (s0 s1 s2 s3 h bytes first last : Bytes) (start size k done t : ℕ) → start + size ≤ length bytes → 49 ≤ size → k ≡ (size - 49) / 64 → done ≡ 49 + 64 * k
    → t ≡ last_count (size - done)
    → take 64 first ≡ chunk_string (take 49 (drop start bytes))
    → take (64 * last_count (size - done)) (take 128 last) ≡ drop done (take size (drop start bytes)) ++ padding (size + 15)
    → s0 ≡ h → s1 ≡ hash_after s0 first 1 → s2 ≡ hash_after s1 (drop (start + 49) bytes) k → s3 ≡ hash_after s2 last t
    → s3 ≡ final_hash h (chunk_string (take size (drop start bytes)))
message_state s0 s1 s2 s3 h bytes first last start size k done t fits some blocks behind count is_first is_last a b c d =
    rw (d, c, b, a)
    (message_hash h bytes first last start size k done t fits some blocks behind count is_first
    (ap (λ n. take (64 * n) (take 128 last)) count ∙ is_last))
