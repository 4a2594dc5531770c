-- The last bytes of a message with the padding behind them, written in three pieces.
use Rattle.std.proofs.Common.{◌≡◌, ℕ, ◌+◌, ◌-◌, ◌*◌, ◌%◌, ◌^◌, ◌≤◌, ◌∷◌, ◌++◌, length, take, drop, replicate, sym, ap, ◌∙◌, arith}
use Rattle.std.proofs.lemmas.List.{length-append, length-drop, length-take-le, append_assoc, drop-drop, drop-take, take_at}
use Rattle.std.proofs.lemmas.Slice.{take-put_mid}
use Rattle.std.specs.Int.{w64, to_be_bytes}
use borrow.Rule.Slice.PartMut.{put_mid, post_of}
use Rattle.sha2.specs.Sha256.{padding}
use Rattle.sha2.proofs.Absorbing256.{padding-take}
use Rattle.format_spec.specs.Bytes.{Bytes}
use Rattle.hash_lanes.specs.Messages.{last_count}

pieces : (left more pad bits : Bytes) (u e n k l : ℕ) → u ≡ length left → e ≡ u + length pad → n ≡ e + length bits
    → take n (put_mid e l (put_mid u k (left ++ more) pad) bits) ≡ left ++ (pad ++ bits)
pieces left more pad bits u e n k l a b c =
    let whole = left ++ more in
    let fits : u ≤ length whole = omega (arith, length-append left more) in
    let front : take e (put_mid u k whole pad) ≡ left ++ pad = take-put_mid u k whole pad e b fits ∙ ap (λ s. s ++ pad) (take_at left more u (sym a)) in
    let size : length (put_mid u k whole pad) ≡ u + (length pad + length (post_of u k whole)) =
    length-append (take u whole) (pad ++ post_of u k whole) ∙ ap (λ m. m + length (pad ++ post_of u k whole)) (length-take-le u whole fits) ∙ ap (λ m. u + m) (length-append pad (post_of u k whole)) in
    take-put_mid e l (put_mid u k whole pad) bits n c (omega arith) ∙ ap (λ s. s ++ bits) front ∙ append_assoc left pad bits

padded : (zeros size : ℕ) (pad bits : Bytes) → zeros ≡ (119 - size % 64) % 64 → pad ≡ take (zeros + 1) (0x80 ∷ replicate 63 0) → bits ≡ to_be_bytes w64 (size * 8 % 2 ^ 64)
    → pad ++ bits ≡ padding size
padded zeros size pad bits count is b =
    let front : pad ≡ 0x80 ∷ replicate zeros 0 = is ∙ padding-take 0x80 0 zeros (omega arith) in
    ap (λ s. s ++ bits) front ∙ ap (λ s. 0x80 ∷ replicate zeros 0 ++ s) b ∙ ap (λ z. 0x80 ∷ replicate z 0 ++ to_be_bytes w64 (size * 8 % 2 ^ 64)) count

-- the last bytes, then the padding
pub ended : (left cut more pad bits : Bytes) (used end size k l : ℕ) → cut ≡ left → used ≡ length left → used ≡ size % 64 → end ≡ 64 * last_count used - 8
    → pad ≡ take (end - used) (0x80 ∷ replicate 63 0) → bits ≡ to_be_bytes w64 (size * 8 % 2 ^ 64)
    → take (64 * last_count used) (put_mid end l (put_mid used k (cut ++ more) pad) bits) ≡ left ++ padding size
ended left cut more pad bits used end size k l same count short at pad_is bits_is =
    let zeros = end - used - 1 in
    let some : end - used ≡ zeros + 1 = omega arith in
    let first : pad ≡ take (zeros + 1) (0x80 ∷ replicate 63 0) = pad_is ∙ ap (λ n. take n (0x80 ∷ replicate 63 0)) some in
    let room : length pad ≡ end - used = ap length pad_is ∙ length-take-le (end - used) (0x80 ∷ replicate 63 0) (omega arith) in
    let eight : length bits ≡ 8 = ap length bits_is in
    pieces cut more pad bits used end (64 * last_count used) k l (count ∙ sym (ap length same)) (omega arith) (omega arith)
    ∙ (ap (λ s. s ++ (pad ++ bits)) same ∙ ap (λ s. left ++ s) (padded zeros size pad bits (omega arith) first bits_is))

-- what is left of a chunk behind its first `done` bytes
pub left_is : (bytes : Bytes) (start size done from to : ℕ) → from ≡ start + done → to ≡ start + size → done ≤ size
    → take (to - from) (drop from bytes) ≡ drop done (take size (drop start bytes))
left_is bytes start size done from to a b fits =
    let count : to - from ≡ size - done = omega arith in
    let split : done + (size - done) ≡ size = omega arith in
    rw (count, a) (sym (ap (λ n. drop done (take n (drop start bytes))) (sym split) ∙ drop-take done (size - done) (drop start bytes) ∙ ap (take (size - done)) (drop-drop done start bytes)))

-- the last blocks of the chunk that begins at `start`
pub last_row : (bytes left block new : Bytes) (start size done : ℕ) → left ≡ drop done (take size (drop start bytes)) → start + size ≤ length bytes → done ≤ size
    → take (64 * last_count (length left)) block ≡ left ++ padding (size + 15) → new ≡ block
    → take (64 * last_count (size - done)) new ≡ drop done (take size (drop start bytes)) ++ padding (size + 15)
last_row bytes left block new start size done is fits low ends same =
    let len : length left ≡ size - done =
    ap length is ∙ length-drop done (take size (drop start bytes)) ∙ ap (λ n. n - done) (length-take-le size (drop start bytes) (omega (arith, length-drop start bytes))) in
    rw (same, ← len) (ends ∙ ap (λ s. s ++ padding (size + 15)) is)
