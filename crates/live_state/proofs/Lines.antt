-- Each line's step beside what the manager does for it.
use Rattle.std.proofs.Common.{◌≡◌, ◌*◌, Bool, List, [], ◌∷◌, ◌++◌, length, take, drop, Option, Some, None, Result, refl, ◌∙◌, ap, subst, nat_le, not, ◌&&◌}
use Rattle.std.specs.FinMap.{find, put}
use Rattle.std.specs.Option.{is_some}
use Rattle.std.specs.Prelude.{if◌then◌else◌}
use Rattle.byte_codec.specs.declared.error.NoMemory.{NoMemory}
use Rattle.format_spec.specs.Bytes.{Bytes, bytes_cmp, path_cmp}
use Rattle.format_spec.specs.declared.limits.TheConstants.{MAX_CANISTERS, MAX_ENTRIES}
use Rattle.state_spec.specs.State.{is_reserved, has_conflict}
use Rattle.sys_state.specs.Calls as calls
use Rattle.state_spec.specs.Places.{place_of}
use Rattle.sys_state.specs.System.{System}
use Rattle.sys_state.specs.declared.error.SysError.TheVariants as errors
use Rattle.script_text.specs.declared.reply.Reply.{Reply}
use Rattle.script_text.specs.declared.reply.Refusal.TheVariants as refusals
use Rattle.machine_spec.specs.LiveSteps.{canister_step, drop_step, module_step, certify_step, put_step}
use Rattle.machine_spec.specs.Machine.{Machine, now_live}
use Rattle.machine_spec.specs.States.{canister_in, with_canister, without_canister, newborn}
use Rattle.live_state.specs.Changes.{Alters}
use Rattle.live_state.specs.StateKept.{StateView, KeepsState, AfterState, live_of}
use Rattle.live_state.proofs.Keeping.{SameBeside, is_found, length-kept, kept_same, kept_create, kept_remove, kept_change}
use Rattle.live_state.proofs.Stepped.{alters_two, alters_three, alters_found}

abbrev pub Same : StateView → StateView → Type 0
Same old now = (now.system ≡ old.system) × (now.memories ≡ old.memories)

module _ (old now : StateView) (m : Machine) (k : KeepsState old (live_of m)) (beside : SameBeside old now) where
  same : Same old now → KeepsState now (live_of m)
  same s = kept_same old now m k beside s.0 s.1

  found : (id : Bytes) → is_some (calls.canister_in old.system id) ≡ is_some (canister_in m.live id)
  found id = ap (λ (s : System). is_some (calls.canister_in s id)) k.system ∙ is_found m.live id

  count : nat_le MAX_CANISTERS (length old.system.canisters) ≡ nat_le MAX_CANISTERS (length m.live.canisters)
  count = ap (nat_le MAX_CANISTERS) (ap (λ (s : System). length s.canisters) k.system ∙ length-kept m.live)

  pub step_create : (id : Bytes) (result : Result Reply NoMemory)
      → Alters (calls.create_refusal old.system id) result
      (calls.Creates old.system now.system id (calls.newborn old.height) × (now.memories ≡ take (2 * place_of bytes_cmp id old.system.canisters) old.memories ++ ([] ∷ [] ∷ drop (2 * place_of bytes_cmp id old.system.canisters) old.memories)))
      (Same old now)
      → AfterState result now (canister_step m id)
  step_create id result h =
      let done : Type 0 = calls.Creates old.system now.system id (calls.newborn old.height) × (now.memories ≡ take (2 * place_of bytes_cmp id old.system.canisters) old.memories ++ ([] ∷ [] ∷ drop (2 * place_of bytes_cmp id old.system.canisters) old.memories)) in
      let g = subst (λ (b : Bool). Alters (if b then Some errors.Exists else if nat_le MAX_CANISTERS (length old.system.canisters) then Some errors.ManyCanisters else None) result done (Same old now)) (found id) h in
      let f = subst (λ (b : Bool). Alters (if is_some (canister_in m.live id) then Some errors.Exists else if b then Some errors.ManyCanisters else None) result done (Same old now)) count g in
      alters_two (is_some (canister_in m.live id)) (nat_le MAX_CANISTERS (length m.live.canisters)) errors.Exists errors.ManyCanisters refusals.Exists refusals.ManyCanisters result now m
      (λ m. now_live m (with_canister m.live id (newborn m.height))) done (Same old now) refl refl f same (λ d. (refl, kept_create old now m k beside id d.0 d.1))

  pub step_remove : (id : Bytes) (result : Result Reply NoMemory)
      → Alters (calls.find_refusal old.system id) result
      (calls.Removes old.system now.system id × (now.memories ≡ take (2 * place_of bytes_cmp id old.system.canisters) old.memories ++ drop 2 (drop (2 * place_of bytes_cmp id old.system.canisters) old.memories)))
      (Same old now)
      → AfterState result now (drop_step m id)
  step_remove id result h =
      let done : Type 0 = calls.Removes old.system now.system id × (now.memories ≡ take (2 * place_of bytes_cmp id old.system.canisters) old.memories ++ drop 2 (drop (2 * place_of bytes_cmp id old.system.canisters) old.memories)) in
      let g = subst (λ (b : Bool). Alters (if b then None else Some errors.NoCanister) result done (Same old now)) (found id) h in
      alters_found (canister_in m.live id) errors.NoCanister refusals.NoCanister result now m (λ c. now_live m (without_canister m.live id)) done (Same old now) refl g same
      (λ c e d. (refl, kept_remove old now m k beside id d.0 d.1))

  pub step_module : (id : Bytes) (wasm : Option Bytes) (result : Result Reply NoMemory)
      → Alters (calls.find_refusal old.system id) result (calls.Changes old.system now.system id (calls.with_module wasm) × (now.memories ≡ old.memories)) (Same old now)
      → AfterState result now (module_step m id wasm)
  step_module id wasm result h =
      let done : Type 0 = calls.Changes old.system now.system id (calls.with_module wasm) × (now.memories ≡ old.memories) in
      let g = subst (λ (b : Bool). Alters (if b then None else Some errors.NoCanister) result done (Same old now)) (found id) h in
      alters_found (canister_in m.live id) errors.NoCanister refusals.NoCanister result now m (λ c. now_live m (with_canister m.live id (record c { wasm = wasm }))) done (Same old now) refl g same
      (λ c e d. (refl, kept_change old now m k beside id (calls.with_module wasm) c (record c { wasm = wasm }) e refl d.0 (λ front back n bytes. d.1 ∙ bytes)))

  pub step_certify : (id bytes : Bytes) (result : Result Reply NoMemory)
      → Alters (calls.find_refusal old.system id) result (calls.Changes old.system now.system id (calls.with_certified bytes) × (now.memories ≡ old.memories)) (Same old now)
      → AfterState result now (certify_step m id bytes)
  step_certify id bytes result h =
      let done : Type 0 = calls.Changes old.system now.system id (calls.with_certified bytes) × (now.memories ≡ old.memories) in
      let g = subst (λ (b : Bool). Alters (if b then None else Some errors.NoCanister) result done (Same old now)) (found id) h in
      alters_found (canister_in m.live id) errors.NoCanister refusals.NoCanister result now m (λ c. now_live m (with_canister m.live id (record c { certified = bytes }))) done (Same old now) refl g same
      (λ c e d. (refl, kept_change old now m k beside id (calls.with_certified bytes) c (record c { certified = bytes }) e refl d.0 (λ front back n all. d.1 ∙ all)))

  pub step_put : (path : List Bytes) (value : Bytes) (result : Result Reply NoMemory)
      → Alters (calls.put_refusal old.system path) result ((now.system ≡ calls.with_entry old.system path value) × (now.memories ≡ old.memories)) (Same old now)
      → AfterState result now (put_step m path value)
  step_put path value result h =
      let done : Type 0 = (now.system ≡ calls.with_entry old.system path value) × (now.memories ≡ old.memories) in
      let g = subst (λ (s : System). Alters (calls.put_refusal s path) result done (Same old now)) k.system h in
      alters_three (is_reserved path) (has_conflict m.live.entries path) (not (is_some (find path_cmp path m.live.entries)) && nat_le MAX_ENTRIES (length m.live.entries))
      errors.Reserved errors.PathConflict errors.TreeFull refusals.Reserved refusals.PathConflict refusals.TreeFull result now m
      (λ m. now_live m (record m.live { entries = put path_cmp path value m.live.entries })) done (Same old now) refl refl refl g same
      (λ d. (
        refl,
        record {
          version = k.version;
          sorted = k.sorted;
          system = d.0 ∙ ap (λ (s : System). calls.with_entry s path value) k.system;
          memories = d.1 ∙ k.memories;
          height = beside.height ∙ k.height;
        },
      ))
