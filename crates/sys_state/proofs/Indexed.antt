-- Heap and stable memory of a canister among all memories: their sizes and their bytes.
use Rattle.std.proofs.Common.{◌≡◌, ◌<◌, ◌+◌, ◌-◌, ◌*◌, ℕ, List, [], ◌∷◌, ◌++◌, length, map, get_or, set, take, drop, refl, ◌∙◌, ap, sym, subst, arith, length-append}
use Rattle.std.proofs.Math.Seq.{get_or-append_seam, set-append_seam, map-set_same}
use Rattle.std.proofs.lemmas.List.{get_or-append-add, set-append_right, get_or-map, map-set, length-map, map-append, take-map, drop-map}
use Rattle.format_spec.specs.Bytes.{Bytes}
use Rattle.format_spec.specs.declared.limits.TheConstants.{PAGE_SIZE}
use Rattle.std.proofs.Common.{Some}
use Rattle.std.specs.FinMap.{find}
use Rattle.format_spec.specs.Bytes.{bytes_cmp}
use Rattle.sys_state.specs.Calls.{pages_of, with_more_pages, newborn, Creates, Removes, Changes}
use Rattle.state_spec.specs.FileOrder.{in_turn}
use Rattle.state_spec.specs.Files.{memory_pages}
use Rattle.state_spec.specs.Places.{place_of, Stands}
use Rattle.state_spec.proofs.FileOrder.{length-in_turn, in_turn-append, in_turn-insert, in_turn-remove}
use Rattle.sys_state.specs.System.{System, parts}
use Rattle.sys_state.specs.declared.mem.Mem.{Mem}
use Rattle.sys_state.specs.declared.mem.Mem.TheVariants.{Heap, Stable}
use Rattle.sys_state.specs.declared.record.CanisterRecord.{CanisterRecord}
use Rattle.sys_state.specs.Memories.{index_of, HaveSizes}

-- of a heap and a stable memory, the one that is meant, and the two with another one in its place
abbrev pub pick : {X : Type 0} → Mem → X → X → X
pick Heap h s = h
pick Stable h s = s

abbrev pub heap_with : {X : Type 0} → Mem → X → X → X
heap_with Heap h x = x
heap_with Stable h x = h

abbrev pub stable_with : {X : Type 0} → Mem → X → X → X
stable_with Heap s x = s
stable_with Stable s x = x

pub pair_get : {X : Type 0} (front rest : List X) (h s d : X) (n : ℕ) (mem : Mem) → length front ≡ 2 * n → get_or (front ++ h ∷ s ∷ rest) (index_of n mem) d ≡ pick mem h s
pair_get front rest h s d n Heap e = ap (λ k. get_or (front ++ h ∷ s ∷ rest) k d) (sym e) ∙ get_or-append_seam front h (s ∷ rest) d
pair_get front rest h s d n Stable e = ap (λ k. get_or (front ++ h ∷ s ∷ rest) (k + 1) d) (sym e) ∙ get_or-append-add front (h ∷ s ∷ rest) 1 d

pub pair_set : {X : Type 0} (front rest : List X) (h s x : X) (n : ℕ) (mem : Mem) → length front ≡ 2 * n → set (front ++ h ∷ s ∷ rest) (index_of n mem) x ≡ front ++ heap_with mem h x ∷ stable_with mem s x ∷ rest
pair_set front rest h s x n Heap e = ap (λ k. set (front ++ h ∷ s ∷ rest) k x) (sym e) ∙ set-append_seam front h (s ∷ rest) x
pair_set front rest h s x n Stable e =
    let one : 2 * n + 1 - 2 * n ≡ 1 = omega arith in
    set-append_right front (h ∷ s ∷ rest) (2 * n) (2 * n + 1) x e (omega arith) ∙ ap (λ k. front ++ set (h ∷ s ∷ rest) k x) one

pub index_within : {X : Type 0} (front rest : List X) (h s : X) (n : ℕ) (mem : Mem) → length front ≡ 2 * n → index_of n mem < length (front ++ h ∷ s ∷ rest)
index_within front rest h s n Heap e = omega (arith, e, length-append front (h ∷ s ∷ rest))
index_within front rest h s n Stable e = omega (arith, e, length-append front (h ∷ s ∷ rest))

-- ---- sizes

abbrev heap_size : Bytes × CanisterRecord → ℕ
heap_size c = c.1.heap * PAGE_SIZE

abbrev stable_size : Bytes × CanisterRecord → ℕ
stable_size c = c.1.stable * PAGE_SIZE

abbrev sizes_of : List (Bytes × CanisterRecord) → List ℕ
sizes_of cs = in_turn heap_size stable_size cs

sizes_are : (cs : List (Bytes × CanisterRecord)) → map (λ (memory : Bytes × ℕ). memory.1 * PAGE_SIZE) (memory_pages (parts cs)) ≡ sizes_of cs
sizes_are [] = refl
sizes_are (c ∷ cs) = ap (λ (ns : List ℕ). heap_size c ∷ stable_size c ∷ ns) (sizes_are cs)

pub pair_for_each : (cs : List (Bytes × CanisterRecord)) (ms : List Bytes) → HaveSizes cs ms → length ms ≡ 2 * length cs
pair_for_each cs ms h = sym (length-map ms (λ (bytes : Bytes). length bytes)) ∙ ap length (h ∙ sizes_are cs) ∙ length-in_turn heap_size stable_size cs

split_sizes : (cs before after : List (Bytes × CanisterRecord)) (id : Bytes) (c : CanisterRecord) (ms : List Bytes) → HaveSizes cs ms → cs ≡ before ++ (id, c) ∷ after
    → map (λ (bytes : Bytes). length bytes) ms ≡ sizes_of before ++ c.heap * PAGE_SIZE ∷ c.stable * PAGE_SIZE ∷ sizes_of after
split_sizes cs before after id c ms h split = h ∙ sizes_are cs ∙ ap sizes_of split ∙ in_turn-append heap_size stable_size before ((id, c) ∷ after)

pick_pages : (mem : Mem) (c : CanisterRecord) → pick mem (c.heap * PAGE_SIZE) (c.stable * PAGE_SIZE) ≡ pages_of mem c * PAGE_SIZE
pick_pages Heap c = refl
pick_pages Stable c = refl

-- the memory of a canister at a place has as many bytes as its pages
pub size_at : (cs before after : List (Bytes × CanisterRecord)) (id : Bytes) (c : CanisterRecord) (ms : List Bytes) (n : ℕ) (mem : Mem) (d : Bytes) → HaveSizes cs ms → cs ≡ before ++ (id, c) ∷ after → length before ≡ n
    → (index_of n mem < length ms) × (length (get_or ms (index_of n mem) d) ≡ pages_of mem c * PAGE_SIZE)
size_at cs before after id c ms n mem d h split count =
    let sizes = split_sizes cs before after id c ms h split in
    let front : length (sizes_of before) ≡ 2 * n = length-in_turn heap_size stable_size before ∙ ap (λ k. 2 * k) count in
    let within : index_of n mem < length ms = subst (λ k. index_of n mem < k) (sym (ap length sizes) ∙ length-map ms (λ (bytes : Bytes). length bytes)) (index_within (sizes_of before) (sizes_of after) (c.heap * PAGE_SIZE) (c.stable * PAGE_SIZE) n mem front) in
    (within, sym (get_or-map (λ (bytes : Bytes). length bytes) ms (index_of n mem) d 0 within) ∙ ap (λ l. get_or l (index_of n mem) 0) sizes ∙ pair_get (sizes_of before) (sizes_of after) (c.heap * PAGE_SIZE) (c.stable * PAGE_SIZE) 0 n mem front ∙ pick_pages mem c)

-- ---- sizes after a change

pub resized : (cs new before after : List (Bytes × CanisterRecord)) (id : Bytes) (c : CanisterRecord) (ms : List Bytes) (n : ℕ) (mem : Mem) (more : ℕ) (x : Bytes) → HaveSizes cs ms
    → cs ≡ before ++ (id, c) ∷ after → new ≡ before ++ (id, with_more_pages mem more c) ∷ after → length before ≡ n → length x ≡ (pages_of mem c + more) * PAGE_SIZE
    → HaveSizes new (set ms (index_of n mem) x)
resized cs new before after id c ms n mem more x h split now count size =
    let sizes = split_sizes cs before after id c ms h split in
    let front : length (sizes_of before) ≡ 2 * n = length-in_turn heap_size stable_size before ∙ ap (λ k. 2 * k) count in
    map-set (λ (bytes : Bytes). length bytes) ms (index_of n mem) x ∙ ap (λ l. set l (index_of n mem) (length x)) sizes
    ∙ pair_set (sizes_of before) (sizes_of after) (c.heap * PAGE_SIZE) (c.stable * PAGE_SIZE) (length x) n mem front
    ∙ extended_sizes mem size
    ∙ sym (sizes_are new ∙ ap sizes_of now ∙ in_turn-append heap_size stable_size before ((id, with_more_pages mem more c) ∷ after))
  where
    extended_sizes : (mem : Mem) → length x ≡ (pages_of mem c + more) * PAGE_SIZE
        → sizes_of before ++ heap_with mem (c.heap * PAGE_SIZE) (length x) ∷ stable_with mem (c.stable * PAGE_SIZE) (length x) ∷ sizes_of after ≡ sizes_of before ++ (with_more_pages mem more c).heap * PAGE_SIZE ∷ (with_more_pages mem more c).stable * PAGE_SIZE ∷ sizes_of after
    extended_sizes Heap e = ap (λ k. sizes_of before ++ k ∷ c.stable * PAGE_SIZE ∷ sizes_of after) e
    extended_sizes Stable e = ap (λ k. sizes_of before ++ c.heap * PAGE_SIZE ∷ k ∷ sizes_of after) e

pub with_pair : (cs new before after : List (Bytes × CanisterRecord)) (id : Bytes) (birth : ℕ) (ms : List Bytes) → HaveSizes cs ms
    → cs ≡ before ++ after → new ≡ before ++ (id, newborn birth) ∷ after
    → HaveSizes new (take (2 * length before) ms ++ ([] ∷ [] ∷ drop (2 * length before) ms))
with_pair cs new before after id birth ms h split now =
    let at = 2 * length before in
    let f : Bytes → ℕ = λ (bytes : Bytes). length bytes in
    map-append f (take at ms) ([] ∷ [] ∷ drop at ms)
    ∙ (λ i. sym (take-map f at ms) i ++ 0 ∷ 0 ∷ sym (drop-map f at ms) i)
    ∙ ap (λ (ns : List ℕ). take at ns ++ 0 ∷ 0 ∷ drop at ns) (h ∙ sizes_are cs ∙ ap sizes_of split)
    ∙ in_turn-insert heap_size stable_size before (id, newborn birth) after (length before) refl
    ∙ sym (sizes_are new ∙ ap sizes_of now)

pub without_pair : (cs new before after : List (Bytes × CanisterRecord)) (id : Bytes) (c : CanisterRecord) (ms : List Bytes) → HaveSizes cs ms
    → cs ≡ before ++ (id, c) ∷ after → new ≡ before ++ after
    → HaveSizes new (take (2 * length before) ms ++ drop 2 (drop (2 * length before) ms))
without_pair cs new before after id c ms h split now =
    let at = 2 * length before in
    let f : Bytes → ℕ = λ (bytes : Bytes). length bytes in
    map-append f (take at ms) (drop 2 (drop at ms))
    ∙ (λ i. sym (take-map f at ms) i ++ (sym (drop-map f 2 (drop at ms)) ∙ ap (drop 2) (sym (drop-map f at ms))) i)
    ∙ ap (λ (ns : List ℕ). take at ns ++ drop 2 (drop at ns)) (h ∙ sizes_are cs ∙ ap sizes_of split)
    ∙ in_turn-remove heap_size stable_size before (id, c) after (length before) refl
    ∙ sym (sizes_are new ∙ ap sizes_of now)

-- ---- sizes, by what the system's calls say

pub sized_create : (old new : System) (id : Bytes) (birth : ℕ) (ms now : List Bytes) → HaveSizes old.canisters ms → Creates old new id (newborn birth)
    → now ≡ take (2 * place_of bytes_cmp id old.canisters) ms ++ ([] ∷ [] ∷ drop (2 * place_of bytes_cmp id old.canisters) ms) → HaveSizes new.canisters now
sized_create old new id birth ms now h c e =
    let put = with_pair old.canisters new.canisters c.split.before c.split.after id birth ms h c.split.old_is c.split.new_is in
    subst (HaveSizes new.canisters) (ap (λ (n : ℕ). take (2 * n) ms ++ ([] ∷ [] ∷ drop (2 * n) ms)) c.split.count ∙ sym e) put

pub sized_remove : (old new : System) (id : Bytes) (ms now : List Bytes) → HaveSizes old.canisters ms → Removes old new id
    → now ≡ take (2 * place_of bytes_cmp id old.canisters) ms ++ drop 2 (drop (2 * place_of bytes_cmp id old.canisters) ms) → HaveSizes new.canisters now
sized_remove old new id ms now h c e =
    let gone = without_pair old.canisters new.canisters c.split.before c.split.after id c.c ms h c.split.old_is c.split.new_is in
    subst (HaveSizes new.canisters) (ap (λ (n : ℕ). take (2 * n) ms ++ drop 2 (drop (2 * n) ms)) c.split.count ∙ sym e) gone

pub sized_same : (old new : System) (ms now : List Bytes) → HaveSizes old.canisters ms → new ≡ old → now ≡ ms → HaveSizes new.canisters now
sized_same old new ms now h s e = subst (HaveSizes new.canisters) (sym e) (subst (λ (x : System). HaveSizes x.canisters ms) (sym s) h)

-- a vector of memories, one of which has changed
module _ {V : Type 0} (bytes : V → Bytes) (vs : List V) where
  pub set_bytes : (i : ℕ) (v : V) → map bytes (set vs i v) ≡ set (map bytes vs) i (bytes v)
  set_bytes i v = map-set bytes vs i v

  pub set_same : (i : ℕ) (v d : V) → bytes v ≡ bytes (get_or vs i d) → map bytes (set vs i v) ≡ map bytes vs
  set_same i v d e = map-set_same bytes vs i v d e

  pub vector_size : (old : System) (id : Bytes) (n : ℕ) (mem : Mem) (d : V) (c : CanisterRecord) → HaveSizes old.canisters (map bytes vs) → (s : Stands bytes_cmp id old.canisters n) → find bytes_cmp id old.canisters ≡ Some c
      → (index_of n mem < length vs) × (length (bytes (get_or vs (index_of n mem) d)) ≡ pages_of mem c * PAGE_SIZE)
  vector_size old id n mem d c h s found =
      let value : s.value ≡ c = cc (s.found, found) in
      let all = size_at old.canisters s.at.before s.at.after id s.value (map bytes vs) n mem (bytes d) h s.at.split s.at.count in
      let within : index_of n mem < length vs = subst (λ (k : ℕ). index_of n mem < k) (length-map vs bytes) all.0 in
      (within, ap length (sym (get_or-map bytes vs (index_of n mem) d (bytes d) within)) ∙ all.1 ∙ ap (λ (x : CanisterRecord). pages_of mem x * PAGE_SIZE) value)

pub sized_change : (old new : System) (id : Bytes) (n : ℕ) (mem : Mem) (more : ℕ) (ms now : List Bytes) (x : Bytes) → HaveSizes old.canisters ms → Changes old new id (with_more_pages mem more) → place_of bytes_cmp id old.canisters ≡ n
    → ((c : CanisterRecord) → find bytes_cmp id old.canisters ≡ Some c → length x ≡ (pages_of mem c + more) * PAGE_SIZE) → now ≡ set ms (index_of n mem) x → HaveSizes new.canisters now
sized_change old new id n mem more ms now x h c place size e =
    subst (HaveSizes new.canisters) (sym e) (resized old.canisters new.canisters c.split.before c.split.after id c.c ms n mem more x h c.split.old_is c.split.new_is (c.split.count ∙ place) (size c.c c.was))

-- the bytes at an index of a vector
pub bytes_at : {V : Type 0} (bytes : V → Bytes) (vs : List V) (i j : ℕ) (d : V) → i ≡ j → i < length vs → d ≡ get_or vs i d → bytes d ≡ get_or (map bytes vs) j []
bytes_at bytes vs i j d e within r = ap bytes r ∙ sym (get_or-map bytes vs i d [] within) ∙ ap (λ (k : ℕ). get_or (map bytes vs) k []) e
