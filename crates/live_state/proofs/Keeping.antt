-- A manager whose live state has changed keeps the machine with the changed state.
use Rattle.std.proofs.Common.{◌≡◌, ◌*◌, ℕ, List, [], ◌∷◌, ◌++◌, length, take, drop, Option, Some, None, refl, ◌∙◌, ap, sym, subst}
use Rattle.std.proofs.lemmas.List.{length-map}
use Rattle.std.specs.FinMap.{put}
use Rattle.std.specs.Option.{is_some, option_map}
use Rattle.format_spec.specs.Bytes.{Bytes, bytes_cmp}
use Rattle.state_spec.specs.State.{State, Canister, bytes_in, heap_bytes, stable_bytes, without}
use Rattle.state_spec.proofs.FileOrder.{in_turn-append, in_turn-insert, in_turn-remove}
use Rattle.sys_state.specs.Calls as calls
use Rattle.state_spec.specs.Places.{place_of}
use Rattle.sys_state.specs.System.{System, kept_of, record_of}
use Rattle.sys_state.specs.declared.record.CanisterRecord.{CanisterRecord}
use Rattle.machine_spec.specs.Machine.{Machine}
use Rattle.machine_spec.specs.States.{canister_in, with_canister, without_canister, newborn}
use Rattle.live_state.specs.StateKept.{StateView, KeepsState, live_of}
use Rattle.state_spec.proofs.Images.{images, find_images, put_images, without_images, comes, stays}
use Rattle.state_spec.proofs.Places.{sorted_put, sorted_without}
use Rattle.state_spec.proofs.Keys.{ids_total}

abbrev pub Canisters : Type 0
Canisters = List (Bytes × Canister)

is_some-map : {A B : Type 0} (f : A → B) (o : Option A) → is_some (option_map f o) ≡ is_some o
is_some-map f None = refl
is_some-map f (Some x) = refl

-- the system finds the canisters of the state
pub found_there : (s : State) (id : Bytes) → calls.canister_in (kept_of s) id ≡ option_map record_of (canister_in s id)
found_there s id = find_images record_of id s.canisters

pub is_found : (s : State) (id : Bytes) → is_some (calls.canister_in (kept_of s) id) ≡ is_some (canister_in s id)
is_found s id = ap is_some (found_there s id) ∙ is_some-map record_of (canister_in s id)

pub length-kept : (s : State) → length (kept_of s).canisters ≡ length s.canisters
length-kept s = length-map s.canisters (λ (c : Bytes × Canister). (c.0, record_of c.1))

-- the parts of a manager that no line on the live state changes
pub record SameBeside (old new : StateView) : Type 0 where
  pub height : new.height ≡ old.height

module _ (held now : StateView) (m : Machine) (k : KeepsState held (live_of m)) (beside : SameBeside held now) where
  there : images record_of m.live.canisters ≡ held.system.canisters
  there = sym (ap (λ (s : System). s.canisters) k.system)

  in_front : (front : Canisters) (before : List (Bytes × CanisterRecord)) → images record_of front ≡ before → length front ≡ length before
  in_front front before e = sym (length-map front (λ (c : Bytes × Canister). (c.0, record_of c.1))) ∙ ap length e

  -- nothing has changed
  pub kept_same : now.system ≡ held.system → now.memories ≡ held.memories → KeepsState now (live_of m)
  kept_same system memories = record {
    version = k.version;
    sorted = k.sorted;
    system = system ∙ k.system;
    memories = memories ∙ k.memories;
    height = beside.height ∙ k.height;
  }

  -- a canister has come
  pub kept_create : (id : Bytes) → calls.Creates held.system now.system id (calls.newborn held.height)
      → now.memories ≡ take (2 * place_of bytes_cmp id held.system.canisters) held.memories ++ ([] ∷ [] ∷ drop (2 * place_of bytes_cmp id held.system.canisters) held.memories)
      → KeepsState now (live_of (record m { live = with_canister m.live id (newborn m.height) }))
  kept_create id c memories =
      let nb : Canister = newborn held.height in
      let cs : Canisters = m.live.canisters in
      let new_is : put bytes_cmp id (record_of nb) (images record_of cs) ≡ c.split.before ++ (id, record_of nb) ∷ c.split.after =
      ap (put bytes_cmp id (record_of nb)) there ∙ sym (ap (λ (s : System). s.canisters) c.now) ∙ c.split.new_is in
      let split = comes record_of id nb cs c.split.before c.split.after k.sorted (there ∙ c.split.old_is) new_is in
      let count : length split.front ≡ place_of bytes_cmp id held.system.canisters = in_front split.front c.split.before split.front_is ∙ c.split.count in
      let all : now.memories ≡ bytes_in (put bytes_cmp id nb cs) =
      memories
      ∙ ap (λ (ms : List Bytes). take (2 * place_of bytes_cmp id held.system.canisters) ms ++ ([] ∷ [] ∷ drop (2 * place_of bytes_cmp id held.system.canisters) ms)) (k.memories ∙ ap bytes_in split.whole)
      ∙ in_turn-insert heap_bytes stable_bytes split.front (id, nb) split.back (place_of bytes_cmp id held.system.canisters) count
      ∙ sym (ap bytes_in (split.put_is nb)) in
      let keeps : KeepsState now (live_of (record m { live = with_canister m.live id nb })) = record {
        version = k.version;
        sorted = sorted_put bytes_cmp ids_total id nb cs k.sorted;
        system = c.now ∙ ap (λ (s : System). calls.with_canister s id (record_of nb)) k.system ∙ ap (λ (rs : List (Bytes × CanisterRecord)). record (kept_of m.live) { canisters = rs }) (sym (put_images record_of id nb cs));
        memories = all;
        height = beside.height ∙ k.height;
      } in
      subst (λ (n : ℕ). KeepsState now (live_of (record m { live = with_canister m.live id (newborn n) }))) k.height keeps

  -- a canister is gone
  pub kept_remove : (id : Bytes) → calls.Removes held.system now.system id
      → now.memories ≡ take (2 * place_of bytes_cmp id held.system.canisters) held.memories ++ drop 2 (drop (2 * place_of bytes_cmp id held.system.canisters) held.memories)
      → KeepsState now (live_of (record m { live = without_canister m.live id }))
  kept_remove id c memories =
      let cs : Canisters = m.live.canisters in
      let split = stays record_of id c.c cs c.split.before c.split.after k.sorted (there ∙ c.split.old_is) in
      let count : length split.front ≡ place_of bytes_cmp id held.system.canisters = in_front split.front c.split.before split.front_is ∙ c.split.count in
      let all : now.memories ≡ bytes_in (without bytes_cmp id cs) =
      memories
      ∙ ap (λ (ms : List Bytes). take (2 * place_of bytes_cmp id held.system.canisters) ms ++ drop 2 (drop (2 * place_of bytes_cmp id held.system.canisters) ms)) (k.memories ∙ ap bytes_in split.whole)
      ∙ in_turn-remove heap_bytes stable_bytes split.front (id, split.value) split.back (place_of bytes_cmp id held.system.canisters) count
      ∙ sym (ap bytes_in split.without_is) in
      record {
        version = k.version;
        sorted = sorted_without bytes_cmp ids_total id cs k.sorted;
        system = c.now ∙ ap (λ (s : System). calls.without_canister s id) k.system ∙ ap (λ (rs : List (Bytes × CanisterRecord)). record (kept_of m.live) { canisters = rs }) (sym (without_images record_of id cs));
        memories = all;
        height = beside.height ∙ k.height;
      }

  -- a canister has changed, and its memories with it
  pub kept_change : (id : Bytes) (change : CanisterRecord → CanisterRecord) (c new : Canister) → canister_in m.live id ≡ Some c → record_of new ≡ change (record_of c)
      → calls.Changes held.system now.system id change
      → ((front back : Canisters) → length front ≡ place_of bytes_cmp id held.system.canisters → held.memories ≡ bytes_in front ++ c.heap.bytes ∷ c.stable.bytes ∷ bytes_in back → now.memories ≡ bytes_in front ++ new.heap.bytes ∷ new.stable.bytes ∷ bytes_in back)
      → KeepsState now (live_of (record m { live = with_canister m.live id new }))
  kept_change id change c new found same done memories =
      let cs : Canisters = m.live.canisters in
      let split = stays record_of id done.c cs done.split.before done.split.after k.sorted (there ∙ done.split.old_is) in
      let value : split.value ≡ c = cc (split.found, found) in
      let count : length split.front ≡ place_of bytes_cmp id held.system.canisters = in_front split.front done.split.before split.front_is ∙ done.split.count in
      let bytes : held.memories ≡ bytes_in split.front ++ c.heap.bytes ∷ c.stable.bytes ∷ bytes_in split.back =
      k.memories ∙ ap bytes_in split.whole ∙ in_turn-append heap_bytes stable_bytes split.front ((id, split.value) ∷ split.back) ∙ ap (λ (x : Canister). bytes_in split.front ++ x.heap.bytes ∷ x.stable.bytes ∷ bytes_in split.back) value in
      let changed : change done.c ≡ record_of new = ap change (sym split.value_is ∙ ap record_of value) ∙ sym same in
      record {
        version = k.version;
        sorted = sorted_put bytes_cmp ids_total id new cs k.sorted;
        system = done.now ∙ ap (λ (r : CanisterRecord). calls.with_canister held.system id r) changed ∙ ap (λ (s : System). calls.with_canister s id (record_of new)) k.system
            ∙ ap (λ (rs : List (Bytes × CanisterRecord)). record (kept_of m.live) { canisters = rs }) (sym (put_images record_of id new cs));
        memories = memories split.front split.back count bytes ∙ sym (in_turn-append heap_bytes stable_bytes split.front ((id, new) ∷ split.back)) ∙ sym (ap bytes_in (split.put_is new));
        height = beside.height ∙ k.height;
      }
