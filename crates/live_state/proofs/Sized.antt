-- The sizes of memories after each change.
use Rattle.std.proofs.Common.{◌≡◌, ◌<◌, ◌≤◌, ◌+◌, ◌-◌, ◌*◌, max, ℕ, Bool, true, false, nat_lt, List, [], ◌∷◌, ◌++◌, length, map, get_or, set, take, drop, Option, Some, None, Result, refl, ◌∙◌, ap, sym, subst, arith, length-append}
use Rattle.std.proofs.lemmas.List.{length-replicate, length-map, get_or-map}
use Rattle.std.proofs.lemmas.Bool.{ltb-false}
use Rattle.std.specs.Prelude.{if◌then◌else◌}
use Rattle.std.specs.FinMap.{find}
use Rattle.format_spec.specs.Versions.{memory_limit, state_limit}
use Rattle.std.specs.Option.{IfSome}
use Rattle.byte_codec.specs.declared.error.NoMemory.{NoMemory}
use Rattle.format_spec.specs.Bytes.{Bytes, bytes_cmp}
use Rattle.format_spec.specs.declared.limits.TheConstants.{PAGE_SIZE}
use Rattle.state_spec.specs.State.{Memory}
use Rattle.state_spec.specs.Memory.{zeros, pages_for}
use Rattle.state_spec.proofs.Memories.{write_length}
use Rattle.sys_state.specs.Calls as calls
use Rattle.state_spec.specs.Places.{place_of, Stands}
use Rattle.sys_state.specs.System.{System, parts}
use Rattle.sys_state.specs.declared.error.SysError.{SysError}
use Rattle.sys_state.specs.declared.mem.Mem.{Mem}
use Rattle.sys_state.specs.declared.record.CanisterRecord.{CanisterRecord}
use Rattle.script_text.specs.declared.reply.Reply.{Reply}
use Rattle.live_state.specs.Changes.{Alters}
use Rattle.live_state.specs.Memories.{pages_more, bytes_after_write, write_refusal}
use Rattle.sys_state.specs.declared.error.SysError.TheVariants as errors
use Rattle.sys_state.specs.Memories.{index_of, HaveSizes, AreWithin}
use Rattle.sys_state.proofs.Within.{all_bytes, few_at, within_cut, within_put, within_set}
use Rattle.sys_state.proofs.Indexed.{sized_create, sized_remove, sized_same, sized_change, set_bytes, set_same, vector_size, size_at}
use Rattle.live_state.proofs.MemoryLines.{write_is, some_bytes}
use Rattle.live_state.proofs.Stepped.{alters_keeps, alters_map, alters_passed}

pub after_create : (why : Option SysError) (result : Result Reply NoMemory) (old new : System) (id : Bytes) (birth : ℕ) (ms now : List Bytes) → HaveSizes old.canisters ms
    → Alters why result (calls.Creates old new id (calls.newborn birth) × (now ≡ take (2 * place_of bytes_cmp id old.canisters) ms ++ ([] ∷ [] ∷ drop (2 * place_of bytes_cmp id old.canisters) ms))) ((new ≡ old) × (now ≡ ms))
    → HaveSizes new.canisters now
after_create why result old new id birth ms now h a =
    alters_keeps why result (calls.Creates old new id (calls.newborn birth) × (now ≡ take (2 * place_of bytes_cmp id old.canisters) ms ++ ([] ∷ [] ∷ drop (2 * place_of bytes_cmp id old.canisters) ms))) ((new ≡ old) × (now ≡ ms)) (HaveSizes new.canisters now) a
    (λ d. sized_create old new id birth ms now h d.0 d.1) (λ s. sized_same old new ms now h s.0 s.1)

pub after_remove : (why : Option SysError) (result : Result Reply NoMemory) (old new : System) (id : Bytes) (ms now : List Bytes) → HaveSizes old.canisters ms
    → Alters why result (calls.Removes old new id × (now ≡ take (2 * place_of bytes_cmp id old.canisters) ms ++ drop 2 (drop (2 * place_of bytes_cmp id old.canisters) ms))) ((new ≡ old) × (now ≡ ms))
    → HaveSizes new.canisters now
after_remove why result old new id ms now h a =
    alters_keeps why result (calls.Removes old new id × (now ≡ take (2 * place_of bytes_cmp id old.canisters) ms ++ drop 2 (drop (2 * place_of bytes_cmp id old.canisters) ms))) ((new ≡ old) × (now ≡ ms)) (HaveSizes new.canisters now) a
    (λ d. sized_remove old new id ms now h d.0 d.1) (λ s. sized_same old new ms now h s.0 s.1)

pub within_create : (why : Option SysError) (result : Result Reply NoMemory) (old new : System) (id : Bytes) (birth : ℕ) (ms now : List Bytes) → AreWithin 1 ms
    → Alters why result (calls.Creates old new id (calls.newborn birth) × (now ≡ take (2 * place_of bytes_cmp id old.canisters) ms ++ ([] ∷ [] ∷ drop (2 * place_of bytes_cmp id old.canisters) ms))) ((new ≡ old) × (now ≡ ms))
    → AreWithin 1 now
within_create why result old new id birth ms now few a =
    alters_keeps why result _ _ (AreWithin 1 now) a (λ d. subst (AreWithin 1) (sym d.1) (within_put 1 ms few (2 * place_of bytes_cmp id old.canisters))) (λ s. subst (AreWithin 1) (sym s.1) few)

pub within_remove : (why : Option SysError) (result : Result Reply NoMemory) (old new : System) (id : Bytes) (ms now : List Bytes) → AreWithin 1 ms
    → Alters why result (calls.Removes old new id × (now ≡ take (2 * place_of bytes_cmp id old.canisters) ms ++ drop 2 (drop (2 * place_of bytes_cmp id old.canisters) ms))) ((new ≡ old) × (now ≡ ms))
    → AreWithin 1 now
within_remove why result old new id ms now few a =
    alters_keeps why result _ _ (AreWithin 1 now) a (λ d. subst (AreWithin 1) (sym d.1) (within_cut 1 ms few (2 * place_of bytes_cmp id old.canisters))) (λ s. subst (AreWithin 1) (sym s.1) few)

-- pages that are not refused fit
none_refused : (a b : Bool) → (if a then Some errors.MemoryFull else if b then Some errors.StateFull else None) ≡ None → (a ≡ false) × (b ≡ false)
none_refused true b e = absurd (cc e)
none_refused false true e = absurd (cc e)
none_refused false false e = (refl, refl)

pages_fit : (s : System) (id : Bytes) (mem : Mem) (more : ℕ) (c : CanisterRecord) → calls.canister_in s id ≡ Some c → calls.extend_refusal 1 s id mem more ≡ None
    → (calls.pages_of mem c + more ≤ memory_limit 1) × (calls.all_pages_of s + more ≤ state_limit 1)
pages_fit s id mem more c there none =
    let e = none_refused (nat_lt (memory_limit 1) (calls.pages_of mem c + more)) (nat_lt (state_limit 1) (calls.all_pages_of s + more)) (ap (calls.pages_refusal 1 s mem more) (sym there) ∙ none) in
    (ltb-false (memory_limit 1) (calls.pages_of mem c + more) e.0, ltb-false (state_limit 1) (calls.all_pages_of s + more) e.1)

-- a memory that gets these pages stays within the limits
grown_within : (s : System) (id : Bytes) (mem : Mem) (more : ℕ) (c : CanisterRecord) (ms : List Bytes) (i : ℕ) (x : Bytes) → HaveSizes s.canisters ms → calls.canister_in s id ≡ Some c → i < length ms
    → length (get_or ms i []) ≡ calls.pages_of mem c * PAGE_SIZE → length x ≡ (calls.pages_of mem c + more) * PAGE_SIZE → AreWithin 1 ms → calls.extend_refusal 1 s id mem more ≡ None → AreWithin 1 (set ms i x)
grown_within s id mem more c ms i x sizes there lt size grown few none =
    let fit = pages_fit s id mem more c there none in
    within_set 1 ms few i x lt (omega (arith, grown, fit.0)) (omega (arith, grown, size, fit.1, all_bytes (parts s.canisters) ms sizes))

-- a write that isn't refused extends the memory
extends : (b : Bool) (o : Option SysError) → (if b then Some errors.MemoryFull else o) ≡ None → o ≡ None
extends true o e = absurd (cc e)
extends false o e = e

length_written : (s : Bytes) (p at : ℕ) (w : Bytes) → length s ≡ p * PAGE_SIZE → length (bytes_after_write s at w) ≡ (p + pages_more p at (length w)) * PAGE_SIZE
length_written s p at [] h = h ∙ omega arith
length_written s p at (b ∷ w) h =
    let m : Memory = record { bytes = s; rounds = [] } in
    let long : length (bytes_after_write s at (b ∷ w)) ≡ max (length s) (pages_for (at + length (b ∷ w)) * PAGE_SIZE) = ap length (write_is 0 m at (b ∷ w)) ∙ write_length 0 m at (b ∷ w) (omega arith) in
    let more : pages_more p at (length (b ∷ w)) ≡ max p (pages_for (at + length (b ∷ w))) - p = rw (some_bytes b w) refl in
    long ∙ omega (arith, h, more)

pub is_within : {V : Type 0} (bytes : V → Bytes) (vs : List V) (old : System) (id : Bytes) (n : ℕ) (mem : Mem) → HaveSizes old.canisters (map bytes vs) → Stands bytes_cmp id old.canisters n → index_of n mem < length vs
is_within bytes vs old id n mem h s = subst (λ (k : ℕ). index_of n mem < k) (length-map vs bytes) (size_at old.canisters s.at.before s.at.after id s.value (map bytes vs) n mem [] h s.at.split s.at.count).0

module _ {V : Type 0} (bytes : V → Bytes) (vs : List V) (old new : System) (id : Bytes) (n : ℕ) (mem : Mem) (d v : V) (h : HaveSizes old.canisters (map bytes vs)) (s : Stands bytes_cmp id old.canisters n) where
  -- the memory has as many bytes as the pages of its canister
  pub has_pages : (m : V) (count : ℕ) → count ≡ length (bytes m) → m ≡ get_or vs (index_of n mem) d → (o : Option CanisterRecord) → find bytes_cmp id old.canisters ≡ o → IfSome o (λ c. count ≡ calls.pages_of mem c * PAGE_SIZE)
  has_pages m count is e None f = tt
  has_pages m count is e (Some c) f = is ∙ ap (λ (x : V). length (bytes x)) e ∙ (vector_size bytes vs old id n mem d c h s f).1

  pub after_grow : (why : Option SysError) (result : Result Reply NoMemory) (more : ℕ)
      → Alters why result (calls.Changes old new id (calls.with_more_pages mem more) × (bytes v ≡ bytes (get_or vs (index_of n mem) d) ++ zeros (more * PAGE_SIZE))) ((new ≡ old) × (bytes v ≡ bytes (get_or vs (index_of n mem) d)))
      → HaveSizes new.canisters (map bytes (set vs (index_of n mem) v))
  after_grow why result more a =
      alters_keeps why result (calls.Changes old new id (calls.with_more_pages mem more) × (bytes v ≡ bytes (get_or vs (index_of n mem) d) ++ zeros (more * PAGE_SIZE)))
      ((new ≡ old) × (bytes v ≡ bytes (get_or vs (index_of n mem) d))) (HaveSizes new.canisters (map bytes (set vs (index_of n mem) v))) a
      (λ g. sized_change old new id n mem more (map bytes vs) (map bytes (set vs (index_of n mem) v)) (bytes v) h g.0 s.place
      (λ c f. ap length g.1 ∙ length-append (bytes (get_or vs (index_of n mem) d)) (zeros (more * PAGE_SIZE)) ∙ omega (arith, (vector_size bytes vs old id n mem d c h s f).1, length-replicate {A = ℕ})) (set_bytes bytes vs (index_of n mem) v))
      (λ g. sized_same old new (map bytes vs) (map bytes (set vs (index_of n mem) v)) h g.0 (set_same bytes vs (index_of n mem) v d g.1))

  pub after_write : (why : Option SysError) (result : Result Reply NoMemory) (p at : ℕ) (w : Bytes) → p * PAGE_SIZE ≡ length (bytes (get_or vs (index_of n mem) d))
      → Alters why result (calls.Changes old new id (calls.with_more_pages mem (pages_more p at (length w))) × (bytes v ≡ bytes_after_write (bytes (get_or vs (index_of n mem) d)) at w)) ((new ≡ old) × (bytes v ≡ bytes (get_or vs (index_of n mem) d)))
      → HaveSizes new.canisters (map bytes (set vs (index_of n mem) v))
  after_write why result p at w pages a =
      alters_keeps why result (calls.Changes old new id (calls.with_more_pages mem (pages_more p at (length w))) × (bytes v ≡ bytes_after_write (bytes (get_or vs (index_of n mem) d)) at w))
      ((new ≡ old) × (bytes v ≡ bytes (get_or vs (index_of n mem) d))) (HaveSizes new.canisters (map bytes (set vs (index_of n mem) v))) a
      (λ g. sized_change old new id n mem (pages_more p at (length w)) (map bytes vs) (map bytes (set vs (index_of n mem) v)) (bytes v) h g.0 s.place
      (λ c f. let same : calls.pages_of mem c ≡ p = omega (arith, (vector_size bytes vs old id n mem d c h s f).1, pages) in
      ap length g.1 ∙ length_written (bytes (get_or vs (index_of n mem) d)) p at w (sym pages) ∙ ap (λ (q : ℕ). (q + pages_more p at (length w)) * PAGE_SIZE) (sym same)) (set_bytes bytes vs (index_of n mem) v))
      (λ g. sized_same old new (map bytes vs) (map bytes (set vs (index_of n mem) v)) h g.0 (set_same bytes vs (index_of n mem) v d g.1))

  -- ---- the memory at an index of the vector

  module _ (i : ℕ) (e : i ≡ index_of n mem) (r : d ≡ get_or vs i d) where
    at_place : i ≡ index_of (place_of bytes_cmp id old.canisters) mem
    at_place = e ∙ ap (λ (p : ℕ). index_of p mem) (sym s.place)

    here : bytes d ≡ bytes (get_or vs (index_of n mem) d)
    here = ap bytes (r ∙ ap (λ (j : ℕ). get_or vs j d) e)

    was : bytes d ≡ get_or (map bytes vs) (index_of (place_of bytes_cmp id old.canisters) mem) []
    was =
        let within : i < length vs = omega (arith, e, is_within bytes vs old id n mem h s) in
        ap bytes r ∙ sym (get_or-map bytes vs i d [] within) ∙ ap (λ (j : ℕ). get_or (map bytes vs) j []) at_place

    is_set : map bytes (set vs i v) ≡ set (map bytes vs) (index_of (place_of bytes_cmp id old.canisters) mem) (bytes v)
    is_set = set_bytes bytes vs i v ∙ ap (λ (j : ℕ). set (map bytes vs) j (bytes v)) at_place

    is_same : bytes v ≡ bytes d → map bytes (set vs i v) ≡ map bytes vs
    is_same f = set_same bytes vs i v d (f ∙ ap bytes r)

    pub keeps_grow : (why : Option SysError) (result : Result Reply NoMemory) (more : ℕ)
        → Alters why result (calls.Changes old new id (calls.with_more_pages mem more) × (bytes v ≡ bytes d ++ zeros (more * PAGE_SIZE))) ((new ≡ old) × (bytes v ≡ bytes d))
        → HaveSizes new.canisters (map bytes (set vs i v))
    keeps_grow why result more a =
        subst (λ (j : ℕ). HaveSizes new.canisters (map bytes (set vs j v))) (sym e) (after_grow why result more
        (alters_map why result (calls.Changes old new id (calls.with_more_pages mem more) × (bytes v ≡ bytes d ++ zeros (more * PAGE_SIZE))) ((new ≡ old) × (bytes v ≡ bytes d))
        (calls.Changes old new id (calls.with_more_pages mem more) × (bytes v ≡ bytes (get_or vs (index_of n mem) d) ++ zeros (more * PAGE_SIZE))) ((new ≡ old) × (bytes v ≡ bytes (get_or vs (index_of n mem) d))) a
        (λ g. (g.0, g.1 ∙ ap (λ (b : Bytes). b ++ zeros (more * PAGE_SIZE)) here)) (λ g. (g.0, g.1 ∙ here))))

    pub steps_grow : (why : Option SysError) (result : Result Reply NoMemory) (more : ℕ)
        → Alters why result (calls.Changes old new id (calls.with_more_pages mem more) × (bytes v ≡ bytes d ++ zeros (more * PAGE_SIZE))) ((new ≡ old) × (bytes v ≡ bytes d))
        → Alters why result (calls.Changes old new id (calls.with_more_pages mem more) × (map bytes (set vs i v) ≡ set (map bytes vs) (index_of (place_of bytes_cmp id old.canisters) mem) (bytes v))
        × (bytes v ≡ get_or (map bytes vs) (index_of (place_of bytes_cmp id old.canisters) mem) [] ++ zeros (more * PAGE_SIZE))) ((new ≡ old) × (map bytes (set vs i v) ≡ map bytes vs))
    steps_grow why result more a =
        alters_map why result (calls.Changes old new id (calls.with_more_pages mem more) × (bytes v ≡ bytes d ++ zeros (more * PAGE_SIZE))) ((new ≡ old) × (bytes v ≡ bytes d))
        (calls.Changes old new id (calls.with_more_pages mem more) × (map bytes (set vs i v) ≡ set (map bytes vs) (index_of (place_of bytes_cmp id old.canisters) mem) (bytes v))
        × (bytes v ≡ get_or (map bytes vs) (index_of (place_of bytes_cmp id old.canisters) mem) [] ++ zeros (more * PAGE_SIZE))) ((new ≡ old) × (map bytes (set vs i v) ≡ map bytes vs)) a
        (λ g. (g.0, is_set, g.1 ∙ ap (λ (b : Bytes). b ++ zeros (more * PAGE_SIZE)) was)) (λ g. (g.0, is_same g.1))

    pub keeps_write : (why : Option SysError) (result : Result Reply NoMemory) (p at : ℕ) (w : Bytes) → p * PAGE_SIZE ≡ length (bytes d)
        → Alters why result (calls.Changes old new id (calls.with_more_pages mem (pages_more p at (length w))) × (bytes v ≡ bytes_after_write (bytes d) at w)) ((new ≡ old) × (bytes v ≡ bytes d))
        → HaveSizes new.canisters (map bytes (set vs i v))
    keeps_write why result p at w pages a =
        subst (λ (j : ℕ). HaveSizes new.canisters (map bytes (set vs j v))) (sym e) (after_write why result p at w (pages ∙ ap (λ (b : Bytes). length b) here)
        (alters_map why result (calls.Changes old new id (calls.with_more_pages mem (pages_more p at (length w))) × (bytes v ≡ bytes_after_write (bytes d) at w)) ((new ≡ old) × (bytes v ≡ bytes d))
        (calls.Changes old new id (calls.with_more_pages mem (pages_more p at (length w))) × (bytes v ≡ bytes_after_write (bytes (get_or vs (index_of n mem) d)) at w)) ((new ≡ old) × (bytes v ≡ bytes (get_or vs (index_of n mem) d))) a
        (λ g. (g.0, g.1 ∙ ap (λ (b : Bytes). bytes_after_write b at w) here)) (λ g. (g.0, g.1 ∙ here))))

    pub steps_write : (why : Option SysError) (result : Result Reply NoMemory) (p at : ℕ) (w : Bytes)
        → Alters why result (calls.Changes old new id (calls.with_more_pages mem (pages_more p at (length w))) × (bytes v ≡ bytes_after_write (bytes d) at w)) ((new ≡ old) × (bytes v ≡ bytes d))
        → Alters why result (calls.Changes old new id (calls.with_more_pages mem (pages_more p at (length w))) × (map bytes (set vs i v) ≡ set (map bytes vs) (index_of (place_of bytes_cmp id old.canisters) mem) (bytes v))
        × (bytes v ≡ bytes_after_write (get_or (map bytes vs) (index_of (place_of bytes_cmp id old.canisters) mem) []) at w)) ((new ≡ old) × (map bytes (set vs i v) ≡ map bytes vs))
    steps_write why result p at w a =
        alters_map why result (calls.Changes old new id (calls.with_more_pages mem (pages_more p at (length w))) × (bytes v ≡ bytes_after_write (bytes d) at w)) ((new ≡ old) × (bytes v ≡ bytes d))
        (calls.Changes old new id (calls.with_more_pages mem (pages_more p at (length w))) × (map bytes (set vs i v) ≡ set (map bytes vs) (index_of (place_of bytes_cmp id old.canisters) mem) (bytes v))
        × (bytes v ≡ bytes_after_write (get_or (map bytes vs) (index_of (place_of bytes_cmp id old.canisters) mem) []) at w)) ((new ≡ old) × (map bytes (set vs i v) ≡ map bytes vs)) a
        (λ g. (g.0, is_set, g.1 ∙ ap (λ (b : Bytes). bytes_after_write b at w) was)) (λ g. (g.0, is_same g.1))

    place_there : index_of (place_of bytes_cmp id old.canisters) mem < length (map bytes vs)
    place_there = omega (arith, at_place, e, is_within bytes vs old id n mem h s, length-map vs bytes)

    size_there : length (get_or (map bytes vs) (index_of (place_of bytes_cmp id old.canisters) mem) []) ≡ calls.pages_of mem s.value * PAGE_SIZE
    size_there = sym (ap length was) ∙ ap length here ∙ (vector_size bytes vs old id n mem d s.value h s s.found).1

    changed_within : (more : ℕ) → AreWithin 1 (map bytes vs) → length (bytes v) ≡ (calls.pages_of mem s.value + more) * PAGE_SIZE → calls.extend_refusal 1 old id mem more ≡ None → AreWithin 1 (map bytes (set vs i v))
    changed_within more few grown none =
        subst (AreWithin 1) (sym is_set) (grown_within old id mem more s.value (map bytes vs) (index_of (place_of bytes_cmp id old.canisters) mem) (bytes v) h s.found place_there size_there grown few none)

    pub within_grow : (result : Result Reply NoMemory) (more : ℕ) → AreWithin 1 (map bytes vs)
        → Alters (calls.extend_refusal 1 old id mem more) result (calls.Changes old new id (calls.with_more_pages mem more) × (bytes v ≡ bytes d ++ zeros (more * PAGE_SIZE))) ((new ≡ old) × (bytes v ≡ bytes d))
        → AreWithin 1 (map bytes (set vs i v))
    within_grow result more few a =
        alters_passed (calls.extend_refusal 1 old id mem more) result _ _ (AreWithin 1 (map bytes (set vs i v))) a
        (λ none g. changed_within more few (ap length g.1 ∙ length-append (bytes d) (zeros (more * PAGE_SIZE)) ∙ omega (arith, ap length was, size_there, length-replicate {A = ℕ})) none)
        (λ g. subst (AreWithin 1) (sym (is_same g.1)) few)

    pub within_write : (result : Result Reply NoMemory) (p at : ℕ) (w : Bytes) → p * PAGE_SIZE ≡ length (bytes d) → AreWithin 1 (map bytes vs)
        → Alters (write_refusal 1 old id mem p at (length w)) result (calls.Changes old new id (calls.with_more_pages mem (pages_more p at (length w))) × (bytes v ≡ bytes_after_write (bytes d) at w)) ((new ≡ old) × (bytes v ≡ bytes d))
        → AreWithin 1 (map bytes (set vs i v))
    within_write result p at w pages few a =
        let same : calls.pages_of mem s.value ≡ p = omega (arith, pages, ap length was, size_there) in
        alters_passed (write_refusal 1 old id mem p at (length w)) result _ _ (AreWithin 1 (map bytes (set vs i v))) a
        (λ none g. changed_within (pages_more p at (length w)) few (ap length g.1 ∙ length_written (bytes d) p at w (sym pages) ∙ ap (λ (q : ℕ). (q + pages_more p at (length w)) * PAGE_SIZE) (sym same))
        (extends (nat_lt (memory_limit 1 * PAGE_SIZE) (at + length w)) (calls.extend_refusal 1 old id mem (pages_more p at (length w))) none))
        (λ g. subst (AreWithin 1) (sym (is_same g.1)) few)

    -- the memory has few pages
    pub few_pages : (p : ℕ) → p * PAGE_SIZE ≡ length (bytes d) → AreWithin 1 (map bytes vs) → p ≤ memory_limit 1
    few_pages p pages few = omega (arith, pages, ap length was, few_at 1 (map bytes vs) few (index_of (place_of bytes_cmp id old.canisters) mem))
