-- Bytes with their hash behind them.
use Rattle.std.proofs.Common.{◌≡◌, ℕ, ◌+◌, ◌-◌, ◌<◌, true, false, ◌++◌, length, take, drop, Result, Ok, Err, sym, ap, ◌∙◌, append_assoc, arith}
use Rattle.std.proofs.lemmas.List.{length-append, take_at, drop_at, take_all, length-drop, take-append-drop}
use Rattle.sha2.specs.Sha256.{sha256}
use Rattle.sha2.proofs.Facts256.{length-sha256}
use Rattle.format_spec.specs.Bytes.{Bytes, same_bytes}
use Rattle.format_spec.proofs.Readings.{same_bytes_is, bytes_same}
use Rattle.state_spec.specs.State.{SystemPart}
use Rattle.state_spec.proofs.SystemSizes.{system_size}
use Rattle.state_spec.specs.Files.{memories_in}
use Rattle.sys_state.specs.System.{System, part_of}
use Rattle.store_spec.specs.Mark.{Mark, mark_text, mark_body, IsMark, IsMarkText}
use Rattle.mark_file.specs.declared.error.MarkError.{MarkError}
use Rattle.mark_file.specs.declared.error.MarkError.TheVariants as errors
use Rattle.mark_file.specs.declared.error.Stop.{Stop}
use Rattle.mark_file.specs.declared.error.Stop.TheVariants as stops
use Rattle.mark_file.specs.Fits.{FitsText}
use Rattle.mark_file.specs.Spells.{Spells, SpellsBoth, Decodes, DecodesBoth, IsBody, SpellsBody, IsBothBody, Hashed, Reads}
use Rattle.mark_file.proofs.MemoryLaws.{few_layers}

hash_length : (body : Bytes) → length (sha256 body) ≡ 32
hash_length body = length-sha256 body

pub too_short : (text : Bytes) → length text < 32 → (body : Bytes) → text ≡ body ++ sha256 body → ⊥
too_short text short body is = absurd (omega (arith, short, ap length is, length-append body (sha256 body), hash_length body))

cut_here : (text body : Bytes) → text ≡ body ++ sha256 body → (take (length text - 32) text ≡ body) × (drop (length text - 32) text ≡ sha256 body)
cut_here text body is =
    let len : length text ≡ length body + 32 = ap length is ∙ length-append body (sha256 body) ∙ ap (λ (n : ℕ). length body + n) (hash_length body) in
    let at : length body ≡ length text - 32 = omega (arith, len) in
    (ap (take (length text - 32)) is ∙ take_at body (sha256 body) (length text - 32) at, ap (drop (length text - 32)) is ∙ drop_at body (sha256 body) (length text - 32) at)

-- all that stands behind a place
pub rest_at : (text : Bytes) (at : ℕ) → take (length text - at) (drop at text) ≡ drop at text
rest_at text at = take_all (length text - at) (drop at text) (omega (arith, length-drop at text))

module _ (text hash behind : Bytes) (hash_is : hash ≡ sha256 (take (length text - 32) text)) (behind_is : behind ≡ drop (length text - 32) text) where
  pub hash_agrees : same_bytes hash behind ≡ true → text ≡ take (length text - 32) text ++ sha256 (take (length text - 32) text)
  hash_agrees e =
      let same : drop (length text - 32) text ≡ sha256 (take (length text - 32) text) = sym behind_is ∙ sym (same_bytes_is hash behind e) ∙ hash_is in
      sym (take-append-drop (length text - 32) text) ∙ ap (λ (s : Bytes). take (length text - 32) text ++ s) same

  pub hash_differs : same_bytes hash behind ≡ false → (body : Bytes) → text ≡ body ++ sha256 body → ⊥
  hash_differs e body is =
      let c = cut_here text body is in
      let same : hash ≡ behind = hash_is ∙ ap sha256 c.0 ∙ sym c.1 ∙ sym behind_is in
      let equal : same_bytes hash behind ≡ true = ap (λ (x : Bytes). same_bytes x behind) same ∙ bytes_same behind in
      absurd (let no_way = sym equal ∙ e in cc)

-- ---- a mark and its body

-- a text without its hash at the end
no_body : (height : ℕ) (text : Bytes) → ((body : Bytes) → text ≡ body ++ sha256 body → ⊥) → (m : Mark) → Spells height text m → ⊥
unfolding mark_text
no_body height text none m h = none (mark_body m) h.1.spelled

pub stops_at_hash : {X : Type 0} (P : X → Type 0) (height : ℕ) (text : Bytes) (e : Stop) → Hashed (λ (s : Bytes). s) text (Err e) → Reads P (Spells height text) (Err e)
stops_at_hash P height text stops.Broken h = no_body height text h
stops_at_hash P height text stops.Memory h = absurd h

module _ (height : ℕ) (text body : Bytes) (hashed : text ≡ body ++ sha256 body) where
  outward : (m : Mark) (s : SystemPart) → IsBody height body m s → IsMarkText height text m s
  unfolding mark_text
  outward m s b = record { spelled = hashed ∙ (λ i. b.spelled i ++ sha256 (b.spelled i)); good = b.good; of_height = b.of_height }

  inward : (m : Mark) → Spells height text m → SpellsBody height body m
  unfolding mark_text
  inward m h = (h.0, record { spelled = sym (cut_here text body hashed).0 ∙ (cut_here text (mark_body m) h.1.spelled).0; good = h.1.good; of_height = h.1.of_height })

  pub from_body : (r : Result (Mark × System) Stop) → Reads (IsBothBody height body) (SpellsBody height body) r → Reads (SpellsBoth height text) (Spells height text) r
  from_body (Ok both) h = record { mark = outward both.0 (part_of both.1) h.mark; births = h.births }
  from_body (Err stops.Broken) h = λ m p. h m (inward m p)
  from_body (Err stops.Memory) h = tt

-- a refusal is one of the mark
pub errors_alike : (height : ℕ) (text : Bytes) (e : MarkError) → DecodesBoth height text (Err e) → Decodes height text (Err e)
errors_alike height text (errors.BadMark h) refused = refused
errors_alike height text errors.Memory refused = tt

-- a mark can be written
pub mark_fits : (m : Mark) (s : SystemPart) → IsMark m s → FitsText m
mark_fits m s g = record {
  system = omega (arith, ap (λ (k : Bytes). length k) g.system_spelled, (system_size m.version s g.system_good).1);
  layers = few_layers m.version m.memories (memories_in s) g.memories_fit;
}

-- ---- the fields written one after another

pub written : (old a b c d e f g h : Bytes) (name version height count system memories sums root : Bytes)
    → a ≡ old ++ name → b ≡ a ++ version → c ≡ b ++ height → d ≡ c ++ count → e ≡ d ++ system → f ≡ e ++ memories → g ≡ f ++ sums → h ≡ g ++ root
    → h ≡ old ++ (((((((name ++ version) ++ height) ++ count) ++ system) ++ memories) ++ sums) ++ root)
written old a b c d e f g h name version height count system memories sums root e1 e2 e3 e4 e5 e6 e7 e8 =
    rw (e8, e7, e6, e5, e4, e3, e2, e1) (simp append_assoc)
