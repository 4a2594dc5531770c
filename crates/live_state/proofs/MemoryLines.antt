-- The steps of `grow`, `write` and `read` beside what the manager does.
use Rattle.std.proofs.Common.{◌≡◌, ◌≤◌, ◌<◌, ◌+◌, ◌-◌, ◌*◌, ◌==◌, max, ℕ, Bool, true, false, List, [], ◌∷◌, ◌++◌, length, get_or, set, take, drop, Option, Some, None, Result, refl, ◌∙◌, ap, sym, subst, arith, nat_lt}
use Rattle.std.proofs.lemmas.Bool.{le-ltb, ltb-false, lt-ltb}
use Rattle.std.specs.Option.{option_map}
use Rattle.std.specs.Prelude.{if◌then◌else◌}
use Rattle.byte_codec.specs.declared.error.NoMemory.{NoMemory}
use Rattle.format_spec.specs.Bytes.{Bytes, bytes_cmp}
use Rattle.format_spec.specs.declared.limits.TheConstants.{PAGE_SIZE}
use Rattle.format_spec.specs.Versions.{memory_limit, state_limit}
use Rattle.state_spec.specs.State.{State, Canister, Memory, SystemPart, bytes_in, heap_bytes, stable_bytes, pages_of, all_pages as pages_in_all}
use Rattle.std.proofs.lemmas.List.{length-map}
use Rattle.script_text.specs.declared.reply.Reply.TheVariants as replies
use Rattle.state_spec.specs.Memory.{read, grow, write, zeros, pages_for}
use Rattle.state_spec.proofs.Memories.{grow_pages, write_pages, write_bytes, write_none}
use Rattle.sys_state.specs.Calls as calls
use Rattle.state_spec.specs.Places.{place_of, Stands}
use Rattle.state_spec.proofs.FileOrder.{length-in_turn, in_turn-append}
use Rattle.sys_state.specs.System.{System, record_of}
use Rattle.sys_state.specs.declared.error.SysError.{SysError}
use Rattle.sys_state.specs.declared.error.SysError.TheVariants as errors
use Rattle.sys_state.specs.declared.mem.Mem.{Mem}
use Rattle.sys_state.specs.declared.mem.Mem.TheVariants.{Heap, Stable}
use Rattle.sys_state.specs.declared.record.CanisterRecord.{CanisterRecord}
use Rattle.script_text.specs.declared.reply.Reply.{Reply}
use Rattle.script_text.specs.declared.reply.Reply.TheVariants.{Refused}
use Rattle.script_text.specs.declared.reply.Refusal.TheVariants as refusals
use Rattle.machine_spec.specs.LiveSteps.{grow_step, write_step, read_reply, reply_of_bytes, reply_of_canister}
use Rattle.machine_spec.specs.Machine.{Machine, Outcome, now_live, unless, unless_none}
use Rattle.machine_spec.specs.States.{canister_in, with_canister, memory_of, with_memory, pages_with, state_pages}
use Rattle.live_state.specs.Changes.{Alters}
use Rattle.live_state.specs.StateKept.{StateView, KeepsState, AfterState, live_of}
use Rattle.live_state.specs.Memories.{pages_more, bytes_after_write, write_refusal}
use Rattle.sys_state.specs.Memories.{index_of}
use Rattle.sys_state.proofs.Indexed.{pick, heap_with, stable_with, pair_get, pair_set}
use Rattle.live_state.proofs.Keeping.{SameBeside, found_there, kept_same, kept_change}
use Rattle.state_spec.proofs.Images.{stays}
use Rattle.live_state.proofs.Lines.{Same}
use Rattle.live_state.proofs.Stepped.{alters_two}
use Rattle.sys_state.proofs.OfState.{parts_of_state}

-- the canister of the state that a record stands for
pub found_canister : (o : Option Canister) (r : CanisterRecord) → option_map record_of o ≡ Some r → (c : Canister) × (o ≡ Some c) × (record_of c ≡ r)
found_canister None r h = absurd (cc h)
found_canister (Some c) r h = (c, refl, cc h)

pages_alike : (mem : Mem) (c : Canister) → calls.pages_of mem (record_of c) ≡ pages_of (memory_of c mem)
pages_alike Heap c = refl
pages_alike Stable c = refl

picked : (mem : Mem) (c : Canister) → pick mem c.heap.bytes c.stable.bytes ≡ (memory_of c mem).bytes
picked Heap c = refl
picked Stable c = refl

record_with : (mem : Mem) (c : Canister) (new : Memory) (more : ℕ) → pages_of new ≡ pages_of (memory_of c mem) + more → record_of (with_memory c mem new) ≡ calls.with_more_pages mem more (record_of c)
record_with Heap c new more h = ap (λ (n : ℕ). record (record_of c) { heap = n }) h
record_with Stable c new more h = ap (λ (n : ℕ). record (record_of c) { stable = n }) h

replaced : (mem : Mem) (c : Canister) (new : Memory) (front : List Bytes) (rest : List Bytes) (x : Bytes) → x ≡ new.bytes
    → front ++ heap_with mem c.heap.bytes x ∷ stable_with mem c.stable.bytes x ∷ rest ≡ front ++ (with_memory c mem new).heap.bytes ∷ (with_memory c mem new).stable.bytes ∷ rest
replaced Heap c new front rest x e = ap (λ (b : Bytes). front ++ b ∷ c.stable.bytes ∷ rest) e
replaced Stable c new front rest x e = ap (λ (b : Bytes). front ++ c.heap.bytes ∷ b ∷ rest) e

-- ---- growth and writes

grow_is : (m : Memory) (n : ℕ) → (grow m n).bytes ≡ m.bytes ++ zeros (n * PAGE_SIZE)
unfolding grow
grow_is m n = refl

pub some_bytes : (b : ℕ) (w : Bytes) → (length (b ∷ w) == 0) ≡ false
some_bytes b w = grind arith

behind : (p q : ℕ) → max p q ≡ p + (max p q - p)
behind p q = omega arith

pub write_is : (round : ℕ) (m : Memory) (at : ℕ) (w : Bytes) → bytes_after_write m.bytes at w ≡ (write round m at w).bytes
write_is round m at [] = sym (ap (λ (x : Memory). x.bytes) (write_none round m at))
write_is round m at (b ∷ w) = rw (some_bytes b w) (sym (write_bytes round m at (b ∷ w) (omega arith)))

more_is : (round : ℕ) (m : Memory) (at : ℕ) (w : Bytes) → pages_of (write round m at w) ≡ pages_of m + pages_more (pages_of m) at (length w)
more_is round m at [] = ap pages_of (write_none round m at) ∙ omega arith
more_is round m at (b ∷ w) = rw (some_bytes b w) (write_pages round m at (b ∷ w) (omega arith) ∙ behind (pages_of m) (pages_for (at + length (b ∷ w))))

with_is : (m : Memory) (at n : ℕ) → pages_with m at n - pages_of m ≡ pages_more (pages_of m) at n
with_is m at n = elim (n == 0) as (λ (b : Bool). (if b then pages_of m else max (pages_of m) (pages_for (at + n))) - pages_of m ≡ (if b then 0 else max (pages_of m) (pages_for (at + n)) - pages_of m)) [ true ↦ omega arith | false ↦ refl ]

module _ (old now : StateView) (m : Machine) (k : KeepsState old (live_of m)) (beside : SameBeside old now) (id : Bytes) (mem : Mem) where
  same : Same old now → KeepsState now (live_of m)
  same s = kept_same old now m k beside s.0 s.1

  -- a memory of a canister has changed
  kept_memory : (c : Canister) (new : Memory) (more : ℕ) (x : Bytes) → canister_in m.live id ≡ Some c → pages_of new ≡ pages_of (memory_of c mem) + more
      → calls.Changes old.system now.system id (calls.with_more_pages mem more)
      → now.memories ≡ set old.memories (index_of (place_of bytes_cmp id old.system.canisters) mem) x
      → (get_or old.memories (index_of (place_of bytes_cmp id old.system.canisters) mem) [] ≡ (memory_of c mem).bytes → x ≡ new.bytes)
      → KeepsState now (live_of (record m { live = with_canister m.live id (with_memory c mem new) }))
  kept_memory c new more x found pages done memories bytes =
      let n : ℕ = place_of bytes_cmp id old.system.canisters in
      kept_change old now m k beside id (calls.with_more_pages mem more) c (with_memory c mem new) found (record_with mem c new more pages) done
      (λ front back count all.
      let at : length (bytes_in front) ≡ 2 * n = length-in_turn heap_bytes stable_bytes front ∙ ap (λ (j : ℕ). 2 * j) count in
      let was : get_or old.memories (index_of n mem) [] ≡ (memory_of c mem).bytes = ap (λ (ms : List Bytes). get_or ms (index_of n mem) []) all ∙ pair_get (bytes_in front) (bytes_in back) c.heap.bytes c.stable.bytes [] n mem at ∙ picked mem c in
      memories ∙ ap (λ (ms : List Bytes). set ms (index_of n mem) x) all ∙ pair_set (bytes_in front) (bytes_in back) c.heap.bytes c.stable.bytes x n mem at ∙ replaced mem c new (bytes_in front) (bytes_in back) x (bytes was))

  -- the canister of the machine
  its_canister : (r : CanisterRecord) → calls.canister_in old.system id ≡ Some r → (c : Canister) × (canister_in m.live id ≡ Some c) × (record_of c ≡ r)
  its_canister r h = found_canister (canister_in m.live id) r (sym (found_there m.live id) ∙ sym (ap (λ (s : System). calls.canister_in s id) k.system) ∙ h)

  all_pages : calls.all_pages_of old.system ≡ state_pages m.live
  all_pages = ap (λ (s : System). calls.all_pages_of s) k.system ∙ ap (λ (p : SystemPart). pages_in_all p.canisters) (parts_of_state m.live)

  pub step_grow : (n : ℕ) (r : CanisterRecord) (x : Bytes) (result : Result Reply NoMemory) → calls.canister_in old.system id ≡ Some r
      → Alters (calls.extend_refusal 1 old.system id mem n) result
      (calls.Changes old.system now.system id (calls.with_more_pages mem n) × (now.memories ≡ set old.memories (index_of (place_of bytes_cmp id old.system.canisters) mem) x) × (x ≡ get_or old.memories (index_of (place_of bytes_cmp id old.system.canisters) mem) [] ++ zeros (n * PAGE_SIZE)))
      (Same old now)
      → AfterState result now (grow_step m id mem n)
  step_grow n r x result there h =
      let its = its_canister r there in
      let c : Canister = its.0 in
      let done : Type 0 = calls.Changes old.system now.system id (calls.with_more_pages mem n) × (now.memories ≡ set old.memories (index_of (place_of bytes_cmp id old.system.canisters) mem) x) × (x ≡ get_or old.memories (index_of (place_of bytes_cmp id old.system.canisters) mem) [] ++ zeros (n * PAGE_SIZE)) in
      let of_version = subst (λ (v : ℕ). Alters (calls.extend_refusal v old.system id mem n) result done (Same old now)) (sym k.version) h in
      let f = subst (λ (o : Option CanisterRecord). Alters (calls.pages_refusal m.live.version old.system mem n o) result done (Same old now)) (there ∙ ap (λ (y : CanisterRecord). Some y) (sym its.2)) of_version in
      let g = subst (λ (p : ℕ). Alters (if nat_lt (memory_limit m.live.version) (p + n) then Some errors.MemoryFull else if nat_lt (state_limit m.live.version) (calls.all_pages_of old.system + n) then Some errors.StateFull else None) result done (Same old now)) (pages_alike mem c) f in
      let e = subst (λ (p : ℕ). Alters (if nat_lt (memory_limit m.live.version) (pages_of (memory_of c mem) + n) then Some errors.MemoryFull else if nat_lt (state_limit m.live.version) (p + n) then Some errors.StateFull else None) result done (Same old now)) all_pages g in
      subst (λ (o : Option Canister). AfterState result now (unless_none o refusals.NoCanister m (λ c. unless ((nat_lt (memory_limit m.live.version) (pages_of (memory_of c mem) + n), refusals.MemoryFull) ∷ (nat_lt (state_limit m.live.version) (state_pages m.live + n), refusals.StateFull) ∷ []) m (λ m. now_live m (with_canister m.live id (with_memory c mem (grow (memory_of c mem) n))))))) (sym its.1)
      (alters_two (nat_lt (memory_limit m.live.version) (pages_of (memory_of c mem) + n)) (nat_lt (state_limit m.live.version) (state_pages m.live + n)) errors.MemoryFull errors.StateFull refusals.MemoryFull refusals.StateFull result now m
      (λ m. now_live m (with_canister m.live id (with_memory c mem (grow (memory_of c mem) n)))) done (Same old now) refl refl e same
      (λ d. (refl, kept_memory c (grow (memory_of c mem) n) n x its.1 (grow_pages (memory_of c mem) n) d.0 d.1 (λ was. d.2 ∙ ap (λ (b : Bytes). b ++ zeros (n * PAGE_SIZE)) was ∙ sym (grow_is (memory_of c mem) n)))))

  -- a write that ends within the greatest memory never makes the memory too large
  within_limit : (most p at n : ℕ) → p ≤ most → at + n ≤ most * PAGE_SIZE → p + pages_more p at n ≤ most
  within_limit most p at n few ends = elim (n == 0) as (λ (b : Bool). p + (if b then 0 else max p (pages_for (at + n)) - p) ≤ most) [ true ↦ omega arith | false ↦ omega (arith, pages_limit (at + n) ends) ]
    where
      pages_limit : (e : ℕ) → e ≤ most * PAGE_SIZE → pages_for e ≤ most
      pages_limit e h = omega arith

  same_if : (b : Bool) (a x y : Option SysError) → (b ≡ false → x ≡ y) → (if b then a else x) ≡ (if b then a else y)
  same_if true a x y h = refl
  same_if false a x y h = h refl

  -- where a write ends within the greatest memory, only the state can be full
  only_state : (at n pages : ℕ) (r : CanisterRecord) (c : Canister) → calls.canister_in old.system id ≡ Some r → record_of c ≡ r → pages ≡ calls.pages_of mem r → pages ≤ memory_limit m.live.version
      → nat_lt (memory_limit m.live.version * PAGE_SIZE) (at + n) ≡ false
      → calls.extend_refusal m.live.version old.system id mem (pages_more pages at n) ≡ (if nat_lt (state_limit m.live.version) (state_pages m.live + (pages_with (memory_of c mem) at n - pages_of (memory_of c mem))) then Some errors.StateFull else None)
  only_state at n pages r c there its pages_is few ends =
      let more : ℕ = pages_more pages at n in
      let fits : pages + more ≤ memory_limit m.live.version = within_limit (memory_limit m.live.version) pages at n few (ltb-false (memory_limit m.live.version * PAGE_SIZE) (at + n) ends) in
      let small : nat_lt (memory_limit m.live.version) (calls.pages_of mem r + more) ≡ false = le-ltb (memory_limit m.live.version) (calls.pages_of mem r + more) (omega (arith, fits, pages_is)) in
      let of_memory : pages ≡ pages_of (memory_of c mem) = pages_is ∙ ap (calls.pages_of mem) (sym its) ∙ pages_alike mem c in
      let amount : more ≡ pages_with (memory_of c mem) at n - pages_of (memory_of c mem) = ap (λ (p : ℕ). pages_more p at n) of_memory ∙ sym (with_is (memory_of c mem) at n) in
      ap (calls.pages_refusal m.live.version old.system mem more) there
      ∙ ap (λ (b : Bool). if b then Some errors.MemoryFull else if nat_lt (state_limit m.live.version) (calls.all_pages_of old.system + more) then Some errors.StateFull else None) small
      ∙ ap (λ (p : ℕ). if nat_lt (state_limit m.live.version) (p + more) then Some errors.StateFull else None) all_pages
      ∙ ap (λ (p : ℕ). if nat_lt (state_limit m.live.version) (state_pages m.live + p) then Some errors.StateFull else None) amount

  pub step_write : (at pages : ℕ) (w : Bytes) (r : CanisterRecord) (x : Bytes) (result : Result Reply NoMemory) → calls.canister_in old.system id ≡ Some r → pages ≡ calls.pages_of mem r → pages ≤ memory_limit 1
      → Alters (write_refusal 1 old.system id mem pages at (length w)) result
      (calls.Changes old.system now.system id (calls.with_more_pages mem (pages_more pages at (length w))) × (now.memories ≡ set old.memories (index_of (place_of bytes_cmp id old.system.canisters) mem) x) × (x ≡ bytes_after_write (get_or old.memories (index_of (place_of bytes_cmp id old.system.canisters) mem) []) at w))
      (Same old now)
      → AfterState result now (write_step m id mem at w)
  step_write at pages w r x result there pages_is few h =
      let its = its_canister r there in
      let c : Canister = its.0 in
      let done : Type 0 = calls.Changes old.system now.system id (calls.with_more_pages mem (pages_more pages at (length w))) × (now.memories ≡ set old.memories (index_of (place_of bytes_cmp id old.system.canisters) mem) x) × (x ≡ bytes_after_write (get_or old.memories (index_of (place_of bytes_cmp id old.system.canisters) mem) []) at w) in
      let full : Bool = nat_lt (memory_limit m.live.version * PAGE_SIZE) (at + length w) in
      let more : Bool = nat_lt (state_limit m.live.version) (state_pages m.live + (pages_with (memory_of c mem) at (length w) - pages_of (memory_of c mem))) in
      let why = same_if full (Some errors.MemoryFull) (calls.extend_refusal m.live.version old.system id mem (pages_more pages at (length w))) (if more then Some errors.StateFull else None) (only_state at (length w) pages r c there its.2 pages_is (subst (λ (v : ℕ). pages ≤ memory_limit v) (sym k.version) few)) in
      let of_version = subst (λ (v : ℕ). Alters (write_refusal v old.system id mem pages at (length w)) result done (Same old now)) (sym k.version) h in
      let f = subst (λ (o : Option SysError). Alters o result done (Same old now)) why of_version in
      let of_memory : pages ≡ pages_of (memory_of c mem) = pages_is ∙ ap (calls.pages_of mem) (sym its.2) ∙ pages_alike mem c in
      subst (λ (o : Option Canister). AfterState result now (unless_none o refusals.NoCanister m (λ c. unless ((nat_lt (memory_limit m.live.version * PAGE_SIZE) (at + length w), refusals.MemoryFull) ∷ (nat_lt (state_limit m.live.version) (state_pages m.live + (pages_with (memory_of c mem) at (length w) - pages_of (memory_of c mem))), refusals.StateFull) ∷ []) m (λ m. now_live m (with_canister m.live id (with_memory c mem (write m.height (memory_of c mem) at w))))))) (sym its.1)
      (alters_two full more errors.MemoryFull errors.StateFull refusals.MemoryFull refusals.StateFull result now m
      (λ m. now_live m (with_canister m.live id (with_memory c mem (write m.height (memory_of c mem) at w)))) done (Same old now) refl refl f same
      (λ d. (refl, kept_memory c (write m.height (memory_of c mem) at w) (pages_more pages at (length w)) x its.1 (more_is m.height (memory_of c mem) at w ∙ ap (λ (p : ℕ). pages_of (memory_of c mem) + pages_more p at (length w)) (sym of_memory)) d.0 d.1 (λ was. d.2 ∙ ap (λ (b : Bytes). bytes_after_write b at w) was ∙ write_is m.height (memory_of c mem) at w))))

-- a canister that the system lacks isn't there
absent : (held : StateView) (k : ℕ × State) → KeepsState held k → (id : Bytes) → calls.canister_in held.system id ≡ None → canister_in k.1 id ≡ None
absent held k keeps id h = none (canister_in k.1 id) (sym (found_there k.1 id) ∙ sym (ap (λ (s : System). calls.canister_in s id) keeps.system) ∙ h)
  where
    none : (o : Option Canister) → option_map record_of o ≡ None → o ≡ None
    none None e = refl
    none (Some c) e = absurd (cc e)

pub absent_there : (held : StateView) (m : Machine) → KeepsState held (live_of m) → (id : Bytes) (act : Canister → Outcome) → calls.canister_in held.system id ≡ None
    → (Refused refusals.NoCanister ≡ (unless_none (canister_in m.live id) refusals.NoCanister m act).reply) × KeepsState held (live_of (unless_none (canister_in m.live id) refusals.NoCanister m act).after)
absent_there held m k id act h =
    subst (λ (o : Option Canister). (Refused refusals.NoCanister ≡ (unless_none o refusals.NoCanister m act).reply) × KeepsState held (live_of (unless_none o refusals.NoCanister m act).after)) (sym (absent held (live_of m) k id h)) (refl, k)

pub reads_nowhere : (held : StateView) (k : ℕ × State) → KeepsState held k → (id : Bytes) (mem : Mem) (from len : ℕ) → calls.canister_in held.system id ≡ None → Refused refusals.NoCanister ≡ read_reply k.1 id mem from len
reads_nowhere held k keeps id mem from len h = sym (ap (λ (o : Option Canister). reply_of_canister o mem from len) (absent held k keeps id h))

-- the canister of a state, and the bytes of one of its memories
pub record IsThere (held : StateView) (state : State) (id : Bytes) (n : ℕ) (mem : Mem) : Type 0 where
  pub canister : Canister
  pub found : canister_in state id ≡ Some canister
  pub bytes : get_or held.memories (index_of n mem) [] ≡ (memory_of canister mem).bytes

pub is_there : (held : StateView) (k : ℕ × State) → KeepsState held k → (id : Bytes) (n : ℕ) (mem : Mem) → Stands bytes_cmp id held.system.canisters n → IsThere held k.1 id n mem
is_there held k keeps id n mem s =
    let split = stays record_of id s.value k.1.canisters s.at.before s.at.after keeps.sorted (sym (ap (λ (t : System). t.canisters) keeps.system) ∙ s.at.split) in
    let count : length split.front ≡ n = sym (length-map split.front (λ (c : Bytes × Canister). (c.0, record_of c.1))) ∙ ap length split.front_is ∙ s.at.count in
    let c : Canister = split.value in
    let all : held.memories ≡ bytes_in split.front ++ c.heap.bytes ∷ c.stable.bytes ∷ bytes_in split.back = keeps.memories ∙ ap bytes_in split.whole ∙ in_turn-append heap_bytes stable_bytes split.front ((id, c) ∷ split.back) in
    record {
      canister = c;
      found = split.found;
      bytes = ap (λ (ms : List Bytes). get_or ms (index_of n mem) []) all ∙ pair_get (bytes_in split.front) (bytes_in split.back) c.heap.bytes c.stable.bytes [] n mem (length-in_turn heap_bytes stable_bytes split.front ∙ ap (λ (j : ℕ). 2 * j) count) ∙ picked mem c;
    }

-- `read` of a state finds the canister
module _ (held : StateView) (k : ℕ × State) (keeps : KeepsState held k) (id : Bytes) (n : ℕ) (mem : Mem) (s : Stands bytes_cmp id held.system.canisters n) (from len : ℕ) where
  read_by : (t : IsThere held k.1 id n mem) → read_reply k.1 id mem from len ≡ reply_of_bytes (memory_of t.canister mem) from len
  read_by t = ap (λ (o : Option Canister). reply_of_canister o mem from len) t.found

  abbrev told_by : Bool → Memory → Reply
  told_by past memory = if past then Refused refusals.PastEnd else replies.Bytes (read memory from len)

  pub reads_past : length (get_or held.memories (index_of n mem) []) < from + len → Refused refusals.PastEnd ≡ read_reply k.1 id mem from len
  reads_past h =
      let t = is_there held k keeps id n mem s in
      let past : nat_lt (length (memory_of t.canister mem).bytes) (from + len) ≡ true = lt-ltb (length (memory_of t.canister mem).bytes) (from + len) (subst (λ (b : Bytes). length b < from + len) t.bytes h) in
      sym (read_by t ∙ ap (λ (b : Bool). told_by b (memory_of t.canister mem)) past)

  pub reads_bytes : (bytes : Bytes) → from + len ≤ length (get_or held.memories (index_of n mem) []) → bytes ≡ take len (drop from (get_or held.memories (index_of n mem) [])) → replies.Bytes bytes ≡ read_reply k.1 id mem from len
  reads_bytes bytes h is =
      let t = is_there held k keeps id n mem s in
      let within : nat_lt (length (memory_of t.canister mem).bytes) (from + len) ≡ false = le-ltb (length (memory_of t.canister mem).bytes) (from + len) (subst (λ (b : Bytes). from + len ≤ length b) t.bytes h) in
      let same : bytes ≡ read (memory_of t.canister mem) from len = is ∙ ap (λ (b : Bytes). take len (drop from b)) t.bytes in
      ap (λ (b : Bytes). replies.Bytes b) same ∙ sym (read_by t ∙ ap (λ (b : Bool). told_by b (memory_of t.canister mem)) within)
