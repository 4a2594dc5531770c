-- What a change of the slots keeps.
use Rattle.std.proofs.Common.{◌≡◌, inl, inr, ℕ, zero, suc, ◌+◌, ◌-◌, ◌^◌, ◌<◌, List, [], ◌∷◌, ◌++◌, map, length, get_or, set, Option, Some, None, IsSome, eqb, false, true, refl, sym, ap, subst, ◌∙◌, arith, length-set, length-append, append_assoc, replicate}
use Rattle.std.proofs.lemmas.Bool.{cases_eq, cases_Bool, eq-eqb, eqb-true}
use Rattle.std.proofs.lemmas.List.{map-set, map-append, length-map, replicate_more, get_or-set_same}
use Rattle.page_pool.specs.Pool.{Page, Pool, used_in, count_in, bytes_in, count_at, with_count, with_bytes}
use Rattle.page_pool.specs.Chains.{page_of, link_of, IsChain, IsSound}
use Rattle.page_pool.specs.declared.slot.Slot.{Slot}
use Rattle.page_pool.proofs.Links.{link-within, one-chain, no-chain, chain-set, chain-push, one_if, used-set, used-push}
use Rattle.format_spec.proofs.Lists.{none_or_some}

-- what is seen of a slot
pub seen-at : {X : Type 0} (f : Slot → Option X) (slots : List Slot) (k : ℕ) (s : Slot) → k < length slots → s ≡ get_or slots k s → get_or (map f slots) k None ≡ f s
seen-at f [] k s below read = absurd (omega arith)
seen-at f (x ∷ slots) zero s below read = ap f (sym read)
seen-at f (x ∷ slots) (suc k) s below read = seen-at f slots k s (omega arith) read

pub live-within : (slots : List Slot) (k : ℕ) → IsSome (get_or (map page_of slots) k None) → k < length slots
live-within [] k live = absurd (let e : false ≡ true = live in let no : ⊥ = cc in no)
live-within (s ∷ slots) zero live = omega arith
live-within (s ∷ slots) (suc k) live = let below = live-within slots k live in omega arith

-- a free slot, and a used one
pub free-page : (s : Slot) → s.count ≡ 0 → page_of s ≡ None
free-page s none = rw (eq-eqb s.count 0 none) refl

pub free-link : (s : Slot) → s.count ≡ 0 → link_of s ≡ Some s.next
free-link s none = rw (eq-eqb s.count 0 none) refl

counted-test : (n : ℕ) → 0 < n → eqb n 0 ≡ false
counted-test n some = elim (cases_Bool (eqb n 0)) [ inl h ↦ absurd (let none = eqb-true n 0 h in omega arith) | inr h ↦ h ]

pub used-page : (s : Slot) → 0 < s.count → page_of s ≡ Some (record { count = s.count; bytes = s.bytes.value })
used-page s some = rw (counted-test s.count some) refl

pub used-link : (s : Slot) → 0 < s.count → link_of s ≡ None
used-link s some = rw (counted-test s.count some) refl

-- the slot that is read at an index
pub record IsRead (slots : List Slot) (k : ℕ) (s : Slot) : Type 0 where
  pub within : k < length slots
  pub read : s ≡ get_or slots k s

-- a live slot is used
pub live-used : (slots : List Slot) (k : ℕ) (s : Slot) → IsSome (get_or (map page_of slots) k None) → s ≡ get_or slots k s → IsRead slots k s × (0 < s.count)
live-used slots k s live read =
    let below = live-within slots k live in (
      record { within = below; read = read },
      elim (cases_eq s.count 0) [
        | inl none ↦ absurd (let gone : get_or (map page_of slots) k None ≡ None = seen-at page_of slots k s below read ∙ free-page s none in dead (get_or (map page_of slots) k None) gone live)
        | inr ne ↦ omega arith
      ],
    )
  where
    dead : (o : Option Page) → o ≡ None → IsSome o → ⊥
    dead None e live = (let no : false ≡ true = live in let bad : ⊥ = cc in bad)
    dead (Some p) e live = cc

-- the first slot of a chain is free, and names the rest of it
pub chain-first : (slots : List Slot) (free spare : ℕ) (s : Slot) → IsChain (map link_of slots) (suc spare) free → s ≡ get_or slots free s → IsRead slots free s × (s.count ≡ 0) × IsChain (map link_of slots) spare s.next
chain-first slots free spare s chain read =
    let below : free < length slots = (let far = link-within (map link_of slots) free chain.0 chain.1 in omega (arith, length-map slots link_of)) in
    let here : link_of s ≡ Some chain.0 = sym (seen-at link_of slots free s below read) ∙ chain.1 in
    elim (cases_eq s.count 0) [
      | inl none ↦
          let both : Some s.next ≡ Some chain.0 = sym (free-link s none) ∙ here in
          let next : s.next ≡ chain.0 = cc in
          (record { within = below; read = read }, none, subst (λ i. IsChain (map link_of slots) spare i) (sym next) chain.2)
      | inr ne ↦ absurd (none_or_some chain.0 (link_of s) (used-link s (omega arith)) here)
    ]

-- how many are used after a slot is written
written : (slots : List Slot) (k : ℕ) (s now : Slot) → IsRead slots k s → used_in (map page_of (set slots k now)) + one_if (page_of s) ≡ used_in (map page_of slots) + one_if (page_of now)
written slots k s now r =
    rw (map-set, ← seen-at page_of slots k s r.within r.read) (used-set (map page_of slots) k (page_of now) (omega (arith, length-map slots page_of, r.within)))

-- the first free slot is filled
pub sound-fill : (slots : List Slot) (free spare : ℕ) (s now : Slot) → IsSound slots free (suc spare) → s ≡ get_or slots free s → 0 < now.count → IsSound (set slots free now) s.next spare
sound-fill slots free spare s now sound read some =
    let first = chain-first slots free spare s sound.chain read in
    record {
      small = rw length-set sound.small;
      chain = rw map-set (chain-set (map link_of slots) free (link_of now) spare s.next (λ m le other. (let same = one-chain (map link_of slots) m (suc spare) free other sound.chain in omega arith)) first.2);
      room = (
          let count = written slots free s now first.0 in
          let was = ap one_if (free-page s first.1) in let is = ap one_if (used-page now some) in
          omega (arith, sound.room, length-set slots free now));
    }

-- a used slot is freed
pub sound-free : (slots : List Slot) (free spare k : ℕ) (s now : Slot) → IsSound slots free spare → IsRead slots k s → 0 < s.count → now.count ≡ 0 → now.next ≡ free → IsSound (set slots k now) k (suc spare)
sound-free slots free spare k s now sound r some none next =
    let used : get_or (map link_of slots) k None ≡ None = seen-at link_of slots k s r.within r.read ∙ used-link s some in
    let below : k < length (map link_of slots) = omega (arith, length-map slots link_of, r.within) in
    record {
      small = rw length-set sound.small;
      chain = subst (λ (l : List (Option ℕ)). IsChain l (suc spare) k) (sym (map-set link_of slots k now)) (
        free,
        get_or-set_same (map link_of slots) k (link_of now) None below ∙ free-link now none ∙ ap (λ i. Some i) next,
        chain-set (map link_of slots) k (link_of now) spare free (λ m le other. no-chain (map link_of slots) m k below used other) sound.chain,
      );
      room = (
          let count = written slots k s now r in
          let was = ap one_if (used-page s some) in let is = ap one_if (free-page now none) in
          omega (arith, sound.room, length-set slots k now));
    }

-- a used slot is written
pub sound-write : (slots : List Slot) (free spare k : ℕ) (s now : Slot) → IsSound slots free spare → IsRead slots k s → 0 < s.count → 0 < now.count → IsSound (set slots k now) free spare
sound-write slots free spare k s now sound r some still =
    let used : get_or (map link_of slots) k None ≡ None = seen-at link_of slots k s r.within r.read ∙ used-link s some in
    let below : k < length (map link_of slots) = omega (arith, length-map slots link_of, r.within) in
    record {
      small = rw length-set sound.small;
      chain = rw map-set (chain-set (map link_of slots) k (link_of now) spare free (λ m le other. no-chain (map link_of slots) m k below used other) sound.chain);
      room = (
          let count = written slots k s now r in
          let was = ap one_if (used-page s some) in let is = ap one_if (used-page now still) in
          omega (arith, sound.room, length-set slots k now));
    }

-- one more free slot at the end
pub sound-push : (slots : List Slot) (free spare : ℕ) (last : Slot) → IsSound slots free spare → last.count ≡ 0 → last.next ≡ length slots + 1 → length slots + 1 < 2 ^ 32 → IsSound (slots ++ last ∷ []) free (suc spare)
sound-push slots free spare last sound none next small = record {
  small = omega (arith, length-append slots (last ∷ []));
  chain =
      subst (λ (l : List (Option ℕ)). IsChain l (suc spare) free)
      (sym (map-append link_of slots (last ∷ []) ∙ ap (λ (o : Option ℕ). map link_of slots ++ o ∷ []) (free-link last none)))
      (chain-push (map link_of slots) spare free last.next (omega (arith, length-map slots link_of)) sound.chain);
  room = rw (map-append, free-page last none, used-push) (omega (arith, sound.room, length-append slots (last ∷ [])));
}

-- what a contract sees of these fields
abbrev pub seen : List Slot → ℕ → Pool
seen slots spare = record { slots = map page_of slots; spare = spare }

pub seen-set : (slots : List Slot) (spare k : ℕ) (now : Slot) (page : Option Page) → page_of now ≡ page → map page_of (set slots k now) ≡ set (map page_of slots) k page
seen-set slots spare k now page is = map-set page_of slots k now ∙ ap (λ (p : Option Page). set (map page_of slots) k p) is

pub page-is : (slots : List Slot) (k : ℕ) (s : Slot) → IsRead slots k s → 0 < s.count → get_or (map page_of slots) k None ≡ Some (record { count = s.count; bytes = s.bytes.value })
page-is slots k s r some = seen-at page_of slots k s r.within r.read ∙ used-page s some

pub seen-push : (slots : List Slot) (last : Slot) (before : List (Option Page)) (n : ℕ) → last.count ≡ 0 → map page_of slots ≡ before ++ replicate n None → map page_of (slots ++ last ∷ []) ≡ before ++ replicate (n + 1) None
seen-push slots last before n none is =
    map-append page_of slots (last ∷ []) ∙ ap (λ (p : Option Page). map page_of slots ++ p ∷ []) (free-page last none)
    ∙ ap (λ (pages : List (Option Page)). pages ++ None ∷ []) is ∙ append_assoc before (replicate n None) (None ∷ [])
    ∙ ap (λ (pages : List (Option Page)). before ++ pages) (replicate_more n None)

-- the first free slot
module _ (slots : List Slot) (free spare : ℕ) (sound : IsSound slots free spare) (some : 0 < spare) where
  pub put-within : free < length slots
  put-within = within spare sound.chain some
    where
      within : (n : ℕ) → IsChain (map link_of slots) n free → 0 < n → free < length slots
      within zero chain low = absurd (omega arith)
      within (suc n) chain low = let far = link-within (map link_of slots) free chain.0 chain.1 in omega (arith, length-map slots link_of)

  pub put-free : (s : Slot) → s ≡ get_or slots free s → get_or (map page_of slots) free None ≡ None
  put-free s read = go spare sound.chain some
    where
      go : (n : ℕ) → IsChain (map link_of slots) n free → 0 < n → get_or (map page_of slots) free None ≡ None
      go zero chain low = absurd (omega arith)
      go (suc n) chain low =
          let first = chain-first slots free n s chain read in
          seen-at page_of slots free s first.0.within read ∙ free-page s first.1

  pub sound-put : (s now : Slot) → s ≡ get_or slots free s → 0 < now.count → IsSound (set slots free now) s.next (spare - 1)
  sound-put s now read filled =
      let more : spare ≡ suc (spare - 1) = omega arith in
      sound-fill slots free (spare - 1) s now (subst (λ n. IsSound slots free n) more sound) read filled

-- the pages that a contract sees after a slot is written
pub seen-page : (slots : List Slot) (spare k : ℕ) (now : Slot) (page : Option Page) → page_of now ≡ page → seen (set slots k now) spare ≡ record { slots = set (map page_of slots) k page; spare = spare }
seen-page slots spare k now page is =
    ap (λ (pages : List (Option Page)). let p : Pool = record { slots = pages; spare = spare } in p) (seen-set slots spare k now page is)

module _ (slots : List Slot) (spare k : ℕ) (s : Slot) (r : IsRead slots k s) (some : 0 < s.count) where
  pub count-is : count_at (seen slots spare) k ≡ s.count
  count-is = ap count_in (page-is slots k s r some)

  pub bytes-is : bytes_in (get_or (map page_of slots) k None) ≡ s.bytes.value
  bytes-is = ap bytes_in (page-is slots k s r some)

  -- another count, and other bytes
  pub seen-count : (now : Slot) → 0 < now.count → now.bytes.value ≡ s.bytes.value → seen (set slots k now) spare ≡ with_count (seen slots spare) k now.count
  seen-count now still same =
      seen-page slots spare k now (Some (record { count = now.count; bytes = bytes_in (get_or (map page_of slots) k None) }))
      (used-page now still ∙ ap (λ (b : List ℕ). let p : Option Page = Some (record { count = now.count; bytes = b }) in p) (same ∙ sym bytes-is))

  pub seen-bytes : (now : Slot) → now.count ≡ s.count → seen (set slots k now) spare ≡ with_bytes (seen slots spare) k now.bytes.value
  seen-bytes now same =
      seen-page slots spare k now (Some (record { count = count_in (get_or (map page_of slots) k None); bytes = now.bytes.value }))
      (used-page now (omega arith) ∙ ap (λ (n : ℕ). let p : Option Page = Some (record { count = n; bytes = now.bytes.value }) in p) (same ∙ sym count-is))

-- where a slot is used, not all are free
pub spare-small : (slots : List Slot) (free spare k : ℕ) (s : Slot) → IsSound slots free spare → IsRead slots k s → 0 < s.count → spare < length slots
spare-small slots free spare k s sound r some =
    let freed : Slot = record s { count = 0 } in
    let count = written slots k s freed r in
    let was = ap one_if (used-page s some) in
    let is = ap one_if (free-page freed refl) in
    omega (arith, sound.room)

pub sound-push-at : (slots : List Slot) (free spare more : ℕ) (last : Slot) → IsSound slots free (spare + more) → last.count ≡ 0 → last.next ≡ length slots + 1 → length slots + 1 < 2 ^ 32 → IsSound (slots ++ last ∷ []) free (spare + (more + 1))
sound-push-at slots free spare more last sound none next small =
    let e : suc (spare + more) ≡ spare + (more + 1) = omega arith in
    subst (λ m. IsSound (slots ++ last ∷ []) free m) e (sound-push slots free (spare + more) last sound none next small)
