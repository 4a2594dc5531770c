-- `read` at a published height.
use Rattle.std.proofs.Common.{◌≡◌, ◌<◌, ◌≤◌, ◌+◌, ◌*◌, ◌^◌, ℕ, Bool, true, false, cond, nat_lt, List, [], ◌∷◌, ◌++◌, length, map, get_or, take, drop, Option, Some, None, refl, ◌∙◌, ap, sym, subst, arith, length-append}
use Rattle.std.proofs.lemmas.List.{length-map, map-append}
use Rattle.std.proofs.lemmas.Option.{slice_get-get_or}
use Rattle.std.specs.FinMap.{find}
use Rattle.std.specs.Option.{option_map, IsSomeAnd}
use Rattle.std.specs.Ordering.{eq_by_cmp}
use Rattle.std.specs.Prelude.{slice_get, ⊤, if◌then◌else◌}
use Rattle.format_spec.specs.Bytes.{Bytes, bytes_cmp}
use Rattle.format_spec.specs.declared.limits.TheConstants.{PAGE_SIZE, MAX_CANISTERS}
use Rattle.state_spec.specs.Files.{heap_name, heap_pages, stable_name, stable_pages, memories_in, memory_pages}
use Rattle.state_spec.specs.State.{State, Canister, CanisterPart, SystemPart, bytes_in, system_of, memory_bytes}
use Rattle.state_spec.proofs.FileOrder.{length-in_turn, in_turn-append}
use Rattle.store_spec.specs.Image.{Published, opened_state}
use Rattle.sys_state.specs.Calls as calls
use Rattle.state_spec.specs.Places.{Stands, place_of}
use Rattle.sys_state.specs.System.{System, part_of, part_of_record, parts}
use Rattle.sys_state.specs.declared.mem.Mem.{Mem}
use Rattle.sys_state.specs.declared.mem.Mem.TheVariants.{Heap, Stable}
use Rattle.sys_state.specs.declared.record.CanisterRecord.{CanisterRecord}
use Rattle.height_store.specs.Store.{StoredHeight}
use Rattle.height_store.specs.Known.{KnowsHeight, IsMemoryAt}
use Rattle.script_text.specs.declared.reply.Reply.{Reply}
use Rattle.script_text.specs.declared.reply.Reply.TheVariants as replies
use Rattle.script_text.specs.declared.reply.Refusal.TheVariants.{NoCanister, PastEnd}
use Rattle.machine_spec.specs.LiveSteps.{reply_of_bytes, reply_of_canister, read_reply}
use Rattle.machine_spec.specs.States.{canister_in, memory_of}
use Rattle.sys_state.specs.Memories.{index_of}
use Rattle.live_state.specs.StateKept.{StateView}
use Rattle.state_manager.proofs.AtHeights.{opened_kept}
use Rattle.sys_state.proofs.Indexed.{index_within, pair_get, pick, size_at}
use Rattle.live_state.proofs.MemoryLines.{reads_bytes, reads_nowhere, reads_past}
use Rattle.sys_state.proofs.OfState.{parts_of_state}

-- ---- states with the same parts and bytes answer the same

abbrev SameReads : Option Canister → Option Canister → Type 0
SameReads None None = ⊤
SameReads (Some c) (Some d) = (c.heap.bytes ≡ d.heap.bytes) × (c.stable.bytes ≡ d.stable.bytes)
SameReads _ _ = ⊥

alike : (id : Bytes) (cs ds : List (Bytes × Canister)) → map (λ (c : Bytes × Canister). c.0) cs ≡ map (λ (c : Bytes × Canister). c.0) ds → bytes_in cs ≡ bytes_in ds → SameReads (find bytes_cmp id cs) (find bytes_cmp id ds)
alike id [] [] ids bytes = tt
alike id [] (d ∷ ds) ids bytes = absurd (cc ids)
alike id (c ∷ cs) [] ids bytes = absurd (cc ids)
alike id (c ∷ cs) (d ∷ ds) ids bytes =
    let one : c.0 ≡ d.0 = cc ids in
    let others : map (λ (c : Bytes × Canister). c.0) cs ≡ map (λ (c : Bytes × Canister). c.0) ds = cc ids in
    let heap : c.1.heap.bytes ≡ d.1.heap.bytes = cc bytes in
    let stable : c.1.stable.bytes ≡ d.1.stable.bytes = cc bytes in
    let rest : bytes_in cs ≡ bytes_in ds = cc bytes in
    subst (λ (b : Bool). SameReads (cond (eq_by_cmp bytes_cmp id c.0) (Some c.1) (find bytes_cmp id cs)) (cond b (Some d.1) (find bytes_cmp id ds))) (ap (eq_by_cmp bytes_cmp id) one)
    (elim (eq_by_cmp bytes_cmp id c.0) as (λ (b : Bool). SameReads (cond b (Some c.1) (find bytes_cmp id cs)) (cond b (Some d.1) (find bytes_cmp id ds)))
    [ true ↦ (heap, stable) | false ↦ alike id cs ds others rest ])

ids_of_parts : (cs : List (Bytes × Canister)) (f : Canister → CanisterPart) → map (λ (c : Bytes × CanisterPart). c.0) (map (λ (c : Bytes × Canister). (c.0, f c.1)) cs) ≡ map (λ (c : Bytes × Canister). c.0) cs
ids_of_parts [] f = refl
ids_of_parts (c ∷ cs) f = ap (λ l. c.0 ∷ l) (ids_of_parts cs f)

same_ids : (s t : State) → system_of s ≡ system_of t → map (λ (c : Bytes × Canister). c.0) s.canisters ≡ map (λ (c : Bytes × Canister). c.0) t.canisters
unfolding system_of
same_ids s t e = sym (ids_of_parts s.canisters _) ∙ ap (λ (p : SystemPart). map (λ (c : Bytes × CanisterPart). c.0) p.canisters) e ∙ ids_of_parts t.canisters _

told_same : (o p : Option Canister) → SameReads o p → (mem : Mem) (from len : ℕ) → reply_of_canister o mem from len ≡ reply_of_canister p mem from len
told_same None None same mem from len = refl
told_same None (Some d) same mem from len = absurd same
told_same (Some c) None same mem from len = absurd same
told_same (Some c) (Some d) same mem from len = by mem same
  where
    bytes_same : (a b : Bytes) → a ≡ b → (if nat_lt (length a) (from + len) then replies.Refused PastEnd else replies.Bytes (take len (drop from a))) ≡ (if nat_lt (length b) (from + len) then replies.Refused PastEnd else replies.Bytes (take len (drop from b)))
    bytes_same a b e = ap (λ (x : Bytes). if nat_lt (length x) (from + len) then replies.Refused PastEnd else replies.Bytes (take len (drop from x))) e

    by : (mem : Mem) → (c.heap.bytes ≡ d.heap.bytes) × (c.stable.bytes ≡ d.stable.bytes) → reply_of_bytes (memory_of c mem) from len ≡ reply_of_bytes (memory_of d mem) from len
    by Heap same = bytes_same c.heap.bytes d.heap.bytes same.0
    by Stable same = bytes_same c.stable.bytes d.stable.bytes same.1

-- ---- where a memory is

abbrev part : Bytes × CanisterRecord → Bytes × CanisterPart
part c = (c.0, part_of_record c.1)

picked_pages : (mem : Mem) (id : Bytes) (c : CanisterRecord) → (pick {X = Bytes × ℕ} mem (heap_name id, c.heap) (stable_name id, c.stable)).1 ≡ calls.pages_of mem c
picked_pages Heap id c = refl
picked_pages Stable id c = refl

pub file_there : (s : System) (id : Bytes) (n : ℕ) (mem : Mem) → (at : Stands bytes_cmp id s.canisters n) → (end : ℕ) → end ≤ calls.pages_of mem at.value * PAGE_SIZE
    → IsSomeAnd (slice_get (memories_in (part_of s)) (index_of n mem)) (λ m. end ≤ m.1 * PAGE_SIZE)
file_there s id n mem at end within =
    let before = at.at.before in
    let c = at.value in
    let after = at.at.after in
    let split : memories_in (part_of s) ≡ memory_pages (parts before) ++ (heap_name id, c.heap) ∷ (stable_name id, c.stable) ∷ memory_pages (parts after) =
    ap memory_pages (ap parts at.at.split ∙ map-append part before ((id, c) ∷ after)) ∙ in_turn-append heap_pages stable_pages (parts before) (part (id, c) ∷ parts after) in
    let front : length (memory_pages (parts before)) ≡ 2 * n = length-in_turn heap_pages stable_pages (parts before) ∙ ap (λ k. 2 * k) (length-map before part ∙ at.at.count) in
    let d : Bytes × ℕ = ([], 0) in
    let there : slice_get (memories_in (part_of s)) (index_of n mem) ≡ Some (pick mem (heap_name id, c.heap) (stable_name id, c.stable)) =
    ap (λ (l : List (Bytes × ℕ)). slice_get l (index_of n mem)) split
    ∙ slice_get-get_or (memory_pages (parts before) ++ (heap_name id, c.heap) ∷ (stable_name id, c.stable) ∷ memory_pages (parts after)) (index_of n mem) d (index_within (memory_pages (parts before)) (memory_pages (parts after)) (heap_name id, c.heap) (stable_name id, c.stable) n mem front)
    ∙ ap (λ (x : Bytes × ℕ). Some x) (pair_get (memory_pages (parts before)) (memory_pages (parts after)) (heap_name id, c.heap) (stable_name id, c.stable) d n mem front) in
    subst (λ (o : Option (Bytes × ℕ)). IsSomeAnd o (λ m. end ≤ m.1 * PAGE_SIZE)) (sym there) (subst (λ (k : ℕ). end ≤ k * PAGE_SIZE) (sym (picked_pages mem id c)) within)

pub index_fits : (s : System) (id : Bytes) (n : ℕ) (mem : Mem) → Stands bytes_cmp id s.canisters n → length (part_of s).canisters ≤ MAX_CANISTERS → index_of n mem < 2 ^ 32
index_fits s id n mem at many =
    let few : length s.canisters ≤ MAX_CANISTERS = subst (λ (k : ℕ). k ≤ MAX_CANISTERS) (length-map s.canisters part) many in
    let below : n < length s.canisters = omega (arith, at.at.count, ap length at.at.split, length-append at.at.before ((id, at.value) ∷ at.at.after)) in
    small mem below few
  where
    small : (mem : Mem) → n < length s.canisters → length s.canisters ≤ MAX_CANISTERS → index_of n mem < 2 ^ 32
    small Heap below few = omega (arith, below, few)
    small Stable below few = omega (arith, below, few)

pub pages_are : (o : Option CanisterRecord) (c : CanisterRecord) (mem : Mem) (pages : ℕ) → o ≡ Some c → Some pages ≡ option_map (calls.pages_of mem) o → pages ≡ calls.pages_of mem c
pages_are o c mem pages found e = let one : Some pages ≡ Some (calls.pages_of mem c) = e ∙ ap (option_map (calls.pages_of mem)) found in cc one

-- ---- what is answered

module _ (h : StoredHeight) (p : Published) (knows : KnowsHeight h p) (id : Bytes) (mem : Mem) (from len : ℕ) where
  abbrev held : StateView
  held = record { system = h.system; memories = memory_bytes p.state; height = p.height }

  answers : (reply : Reply) → reply ≡ read_reply (opened_state p) id mem from len → reply ≡ read_reply p.state id mem from len
  answers reply is =
      let ids = same_ids (opened_state p) p.state (sym (parts_of_state (opened_state p)) ∙ ap part_of knows.system ∙ sym knows.parts) in
      is ∙ told_same (canister_in (opened_state p) id) (canister_in p.state id) (alike id (opened_state p).canisters p.state.canisters ids knows.bytes) mem from len

  pub reads_no_canister : (system : System) → system ≡ h.system → calls.canister_in system id ≡ None → replies.Refused NoCanister ≡ read_reply p.state id mem from len
  reads_no_canister system is none =
      answers (replies.Refused NoCanister) (reads_nowhere held (p.height, opened_state p) (opened_kept h p knows) id mem from len (sym (ap (λ (s : System). calls.canister_in s id) is) ∙ none))

  module _ (n : ℕ) (at : Stands bytes_cmp id h.system.canisters n) where
    size : (index_of n mem < length (memory_bytes p.state)) × (length (get_or (memory_bytes p.state) (index_of n mem) []) ≡ calls.pages_of mem at.value * PAGE_SIZE)
    size = size_at h.system.canisters at.at.before at.at.after id at.value (memory_bytes p.state) n mem [] knows.sizes at.at.split at.at.count

    pub reads_past_end : calls.pages_of mem at.value * PAGE_SIZE < from + len → replies.Refused PastEnd ≡ read_reply p.state id mem from len
    reads_past_end past =
        answers (replies.Refused PastEnd) (reads_past held (p.height, opened_state p) (opened_kept h p knows) id n mem at from len (subst (λ (k : ℕ). k < from + len) (sym size.1) past))

    pub memory_there : IsMemoryAt p.state (index_of n mem) (get_or (memory_bytes p.state) (index_of n mem) [])
    memory_there = slice_get-get_or (memory_bytes p.state) (index_of n mem) [] size.0

    pub reads_these : (bytes : Bytes) → from + len ≤ calls.pages_of mem at.value * PAGE_SIZE → bytes ≡ take len (drop from (get_or (memory_bytes p.state) (index_of n mem) []))
        → replies.Bytes bytes ≡ read_reply p.state id mem from len
    reads_these bytes within is =
        answers (replies.Bytes bytes) (reads_bytes held (p.height, opened_state p) (opened_kept h p knows) id n mem at from len bytes (subst (λ (k : ℕ). from + len ≤ k) (sym size.1) within) is)

-- the same, of a system that is that of the height
module _ (id : Bytes) (mem : Mem) (n from len : ℕ) (h : StoredHeight) (p : Published) (knows : KnowsHeight h p) where
  stands_there : (system : System) → system ≡ h.system → (at : Stands bytes_cmp id system.canisters n) → (t : Stands bytes_cmp id h.system.canisters n) × (t.value ≡ at.value)
  stands_there system is at = (
    record {
      value = at.value;
      found = ap (λ (s : System). find bytes_cmp id s.canisters) (sym is) ∙ at.found;
      at = record { before = at.at.before; after = at.at.after; split = ap (λ (s : System). s.canisters) (sym is) ∙ at.at.split; count = at.at.count };
      place = ap (λ (s : System). place_of bytes_cmp id s.canisters) (sym is) ∙ at.place;
    },
    refl,
  )

  pub past : (system : System) → system ≡ h.system → (at : Stands bytes_cmp id system.canisters n) → calls.pages_of mem at.value * PAGE_SIZE < from + len → replies.Refused PastEnd ≡ read_reply p.state id mem from len
  past system is at above =
      let stands = stands_there system is at in
      reads_past_end h p knows id mem from len n stands.0 (subst (λ (c : CanisterRecord). calls.pages_of mem c * PAGE_SIZE < from + len) (sym stands.1) above)

  pub these : (system : System) → system ≡ h.system → (at : Stands bytes_cmp id system.canisters n) (bytes : Bytes) (file : ℕ) → file ≡ index_of n mem → from + len ≤ calls.pages_of mem at.value * PAGE_SIZE
      → ((memory : Bytes) → IsMemoryAt p.state file memory → bytes ≡ take len (drop from memory)) → replies.Bytes bytes ≡ read_reply p.state id mem from len
  these system is at bytes file place within taken =
      let stands = stands_there system is at in
      let there : IsMemoryAt p.state file (get_or (memory_bytes p.state) (index_of n mem) []) = ap (slice_get (memory_bytes p.state)) place ∙ memory_there h p knows id mem from len n stands.0 in
      reads_these h p knows id mem from len n stands.0 bytes (subst (λ (c : CanisterRecord). from + len ≤ calls.pages_of mem c * PAGE_SIZE) (sym stands.1) within) (taken (get_or (memory_bytes p.state) (index_of n mem) []) there)
