-- One byte of the shortest LEB128 spelling, written and read.
use Rattle.std.proofs.Common.{◌≡◌, ℕ, zero, suc, ◌+◌, ◌-◌, ◌*◌, ◌/◌, ◌%◌, ◌<◌, ◌≤◌, [], ◌∷◌, ◌++◌, length, take, drop, set, slice_index, refl, sym, ap, ◌∙◌, append_assoc, arith, inl, inr, Err, Ok, false}
use Rattle.std.specs.Prelude.{◌==◌}
use Rattle.std.proofs.lemmas.Bool.{lt-ltb, le-ltb, cases_lt}
use Rattle.std.proofs.lemmas.List.{take_more_set, length-set}
use Rattle.std.proofs.lemmas.List.{length-take, length-drop, take-append-drop, take_all}
use Rattle.format_spec.specs.Bytes.{Bytes, leb, leb_within}
use Rattle.format_spec.specs.Fields.{Cursor}
use Rattle.byte_codec.specs.declared.error.LebError.{LebError}
use Rattle.byte_codec.specs.declared.error.LebError.TheVariants.{Short, Long}
use Rattle.byte_codec.specs.Leb.{leb_limit, FindsLeb, ReadsLeb}

-- ---- the spelling, a byte at a time

pub within_last : (k n : ℕ) → n < 128 → leb_within (suc k) n ≡ n ∷ []
within_last k n lt = rw (lt-ltb n 128 lt) refl

pub within_more : (k n : ℕ) → 128 ≤ n → leb_within (suc k) n ≡ (n % 128 + 128) ∷ leb_within k (n / 128)
within_more k n le = rw (le-ltb n 128 le) refl

-- by the lowest seven bits and the number above them
pub within_parts : (k high b : ℕ) → 1 ≤ high → 128 ≤ b → b < 256 → leb_within (suc k) (high * 128 + (b - 128)) ≡ b ∷ leb_within k high
within_parts k high b some large byte =
    let q : (high * 128 + (b - 128)) / 128 ≡ high = omega arith in
    let r : (high * 128 + (b - 128)) % 128 + 128 ≡ b = omega arith in
    within_more k (high * 128 + (b - 128)) (omega arith) ∙ rw (q, r) refl

pub limit_more : (k : ℕ) → 1 ≤ k → leb_limit (suc k) ≡ 128 * leb_limit k
limit_more zero some = absurd (omega arith)
limit_more (suc k) some = refl

head_is : (a b : ℕ) (s t : Bytes) → a ∷ s ≡ b ∷ t → (a ≡ b) × (s ≡ t)
head_is a b s t e = (cc, cc)

-- what goes on behind a byte with its high bit set is the spelling of the number above it
pub within_rest : (k n b : ℕ) (t : Bytes) → 128 ≤ b → leb_within (suc k) n ≡ b ∷ t → (128 ≤ n) × (leb_within k (n / 128) ≡ t)
within_rest k n b t large e =
    elim (cases_lt n 128) [
      | inl lt ↦ let same : n ≡ b = (head_is n b [] t (sym (within_last k n lt) ∙ e)).0 in absurd (omega arith)
      | inr le ↦ (le, (head_is (n % 128 + 128) b (leb_within k (n / 128)) t (sym (within_more k n le) ∙ e)).1)
    ]

-- a spelling that begins with 0 is that of 0
pub within_zero : (k n : ℕ) (t : Bytes) → leb_within (suc k) n ≡ 0 ∷ t → n ≡ 0
within_zero k n t e =
    elim (cases_lt n 128) [
      | inl lt ↦ (head_is n 0 [] t (sym (within_last k n lt) ∙ e)).0
      | inr le ↦ let same : n % 128 + 128 ≡ 0 = (head_is (n % 128 + 128) 0 (leb_within k (n / 128)) t (sym (within_more k n le) ∙ e)).0 in absurd (omega arith)
    ]

-- a spelling in front of a byte with its high bit set and more
pub within_tail : (k n b : ℕ) (s rest : Bytes) → 128 ≤ b → b ∷ s ≡ leb_within (suc k) n ++ rest → (128 ≤ n) × (s ≡ leb_within k (n / 128) ++ rest)
within_tail k n b s rest large e =
    elim (cases_lt n 128) [
      | inl lt ↦ let same : b ≡ n = (head_is b n s rest (e ∙ ap (λ (t : Bytes). t ++ rest) (within_last k n lt))).0 in absurd (omega arith)
      | inr le ↦ (le, (head_is b (n % 128 + 128) s (leb_within k (n / 128) ++ rest) (e ∙ ap (λ (t : Bytes). t ++ rest) (within_more k n le))).1)
    ]

-- a spelling in front of a text that begins with 0 is that of 0
pub within_front : (k n : ℕ) (s rest : Bytes) → 0 ∷ s ≡ leb_within (suc k) n ++ rest → n ≡ 0
within_front k n s rest e =
    elim (cases_lt n 128) [
      | inl lt ↦ sym (head_is 0 n s rest (e ∙ ap (λ (t : Bytes). t ++ rest) (within_last k n lt))).0
      | inr le ↦ let same : 0 ≡ n % 128 + 128 = (head_is 0 (n % 128 + 128) s (leb_within k (n / 128) ++ rest) (e ∙ ap (λ (t : Bytes). t ++ rest) (within_more k n le))).0 in absurd (omega arith)
    ]

-- ---- read

pub tail_is : (s : Bytes) → take (length s - 1) (drop 1 s) ≡ drop 1 s
tail_is s = take_all (length s - 1) (drop 1 s) (omega (arith, length-drop 1 s))

pub some_left : (s : Bytes) → (length s == 0) ≡ false → 1 ≤ length s
some_left [] e = absurd cc
some_left (b ∷ s) e = omega arith

-- nothing is left to read
pub front_ends : (k : ℕ) (s : Bytes) → 1 ≤ k → length s ≡ 0 → FindsLeb k s (Err Short)
front_ends zero s some none = absurd (omega arith)
front_ends (suc zero) [] some none = (1, 1 ∷ [], omega arith, omega arith, refl, λ e. cc)
front_ends (suc (suc k)) [] some none = (1, 1 ∷ [], omega arith, large k, refl, λ e. cc)
  where
    large : (k : ℕ) → 1 < leb_limit (suc (suc k))
    large zero = omega arith
    large (suc k) = let h = large k in omega arith
front_ends k (b ∷ s) some none = absurd (omega arith)

-- no spelling has 0 behind a byte with its high bit set
pub front_zero : (k size : ℕ) (s : Bytes) → 1 ≤ k → 1 ≤ length s → 128 ≤ slice_index s 0
    → FindsLeb k (drop 1 s) (Ok (0, size)) → FindsLeb (suc k) s (Err Long)
front_zero zero size s some full large found = absurd (omega arith)
front_zero (suc k) size [] some full large found = absurd (omega arith)
front_zero (suc k) size (b ∷ s) some full large found = (
  (
    suc size,
    (let short : size ≤ length s = found.1 in omega arith),
    λ n more lt e.
        let r = within_rest (suc k) n b (take size s ++ more) large e in
        let z : 0 ∷ [] ≡ take size s = found.2 in
        let q : n / 128 ≡ 0 = within_zero k (n / 128) more (r.1 ∙ ap (λ (t : Bytes). t ++ more) (sym z)) in
        absurd (let le : 128 ≤ n = r.0 in omega arith),
  ),
  λ n rest lt e.
      let r = within_tail (suc k) n b s rest large e in
      let z : 0 ∷ [] ≡ take size s = found.2 in
      let f : s ≡ 0 ∷ drop size s = sym (take-append-drop size s) ∙ ap (λ (t : Bytes). t ++ drop size s) (sym z) in
      let q : n / 128 ≡ 0 = within_front k (n / 128) (drop size s) rest (sym f ∙ r.1) in
      absurd (let le : 128 ≤ n = r.0 in omega arith),
)

-- what is refused behind the first byte is refused
pub front_refused : (e : LebError) (k : ℕ) (s : Bytes) → 1 ≤ k → 1 ≤ length s → 128 ≤ slice_index s 0 → slice_index s 0 < 256
    → FindsLeb k (drop 1 s) (Err e) → FindsLeb (suc k) s (Err e)
front_refused e k [] some full large byte found = absurd (omega arith)
front_refused Short k (b ∷ s) some full large byte found =
    let limit = limit_more k some in
    let n = found.0 in
    let lt : n < leb_limit k = found.3 in (
      n * 128 + (b - 128),
      found.1,
      (let more : 1 ≤ n = found.2 in omega arith),
      omega arith,
      within_parts k n b found.2 large byte ∙ ap (λ (t : Bytes). b ∷ t) found.4,
      found.5,
    )
front_refused Long k (b ∷ s) some full large byte found =
    let limit = limit_more k some in (
      (
        suc found.0.0,
        (let short : found.0.0 ≤ length s = found.0.1 in omega arith),
        λ n more lt e.
            let r = within_rest k n b (take found.0.0 s ++ more) large e in
            found.0.2 (n / 128) more (let le : 128 ≤ n = r.0 in omega arith) r.1,
      ),
      λ n rest lt e.
          let r = within_tail k n b s rest large e in
          found.1 (n / 128) rest (let le : 128 ≤ n = r.0 in omega arith) r.1,
    )

-- the spelling in at most ten bytes is the spelling
pub front_is : (e : LebError) (old : Cursor) → FindsLeb 10 old.rest (Err e) → ReadsLeb old old (Err e)
unfolding leb
front_is Short old found = ((found.0, found.1, found.3, found.4, found.5), refl)
front_is Long old found = (((found.0.0, found.0.1, λ begins. found.0.2 begins.0 begins.1 begins.2 begins.3), λ n rest lt e. found.1 n rest lt e), refl)

pub front_taken : (n size : ℕ) (old : Cursor) → FindsLeb 10 old.rest (Ok (n, size)) → ReadsLeb old (record { at = old.at + size; rest = drop size old.rest }) (Ok n)
unfolding leb
front_taken n size old found =
    let len : length (take size old.rest) ≡ size = (let short : size ≤ length old.rest = found.1 in omega (arith, length-take size old.rest)) in (
      found.0,
      sym (take-append-drop size old.rest) ∙ ap (λ (t : Bytes). t ++ drop size old.rest) (sym found.2),
      ap (λ (m : ℕ). old.at + m) (sym (ap length found.2 ∙ len)),
    )

-- ---- written

-- the low groups stand in the front of the room, and the number above them is left
pub record IsWritten (n left count : ℕ) (bytes : Bytes) : Type 0 where
  pub room : length bytes ≡ 10
  pub place : count ≤ 9
  pub small : left < leb_limit (10 - count)
  pub so_far : leb_within 10 n ≡ take count bytes ++ leb_within (10 - count) left

-- one byte more
pub written_more : (n left count : ℕ) (bytes : Bytes) → IsWritten n left count bytes → 128 ≤ left → IsWritten n (left / 128) (count + 1) (set bytes count (left % 128 + 128))
written_more n left count bytes w large = go (10 - count) refl w.small w.so_far
  where
    go : (k : ℕ) → 10 - count ≡ k → left < leb_limit k → leb_within 10 n ≡ take count bytes ++ leb_within k left → IsWritten n (left / 128) (count + 1) (set bytes count (left % 128 + 128))
    go zero is lt e = absurd (omega arith)
    go (suc zero) is lt e = absurd (omega arith)
    go (suc (suc k)) is lt e =
        let here : count < length bytes = (let r = w.room in omega arith) in
        let rest : 10 - (count + 1) ≡ suc k = omega arith in
        record {
          room = length-set bytes count (left % 128 + 128) ∙ w.room;
          place = omega arith;
          small = rw rest (omega arith);
          so_far = rw rest (e ∙ ap (λ (t : Bytes). take count bytes ++ t) (within_more (suc k) left large)
              ∙ sym (append_assoc (take count bytes) ((left % 128 + 128) ∷ []) (leb_within (suc k) (left / 128)))
              ∙ ap (λ (t : Bytes). t ++ leb_within (suc k) (left / 128)) (sym (take_more_set bytes count (left % 128 + 128) here)));
        }

-- the last byte
pub written_last : (n left count : ℕ) (bytes : Bytes) → IsWritten n left count bytes → left < 128 → take (count + 1) (set bytes count left) ≡ leb_within 10 n
written_last n left count bytes w small =
    let here : count < length bytes = (let r = w.room in let p = w.place in omega arith) in
    let rest : 10 - count ≡ suc (9 - count) = (let p = w.place in omega arith) in
    take_more_set bytes count left here ∙ ap (λ (t : Bytes). take count bytes ++ t) (sym (ap (λ (k : ℕ). leb_within k left) rest ∙ within_last (9 - count) left small)) ∙ sym w.so_far
