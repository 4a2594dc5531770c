-- The state that is published.
use Rattle.std.proofs.Common.{◌≡◌, ℕ, List, length, Result, Ok, Err, ◌∙◌, ap, ap₂, sym}
use Rattle.std.specs.Result.{OnOk}
use Rattle.format_spec.specs.Bytes.{Bytes}
use Rattle.state_spec.specs.State.{State, SystemPart, system_of, memory_bytes}
use Rattle.state_spec.specs.SystemText.{system_text}
use Rattle.store_spec.specs.Whole.{whole_length}
use Rattle.sys_state.specs.System.{System, part_of}
use Rattle.whole_state.specs.Whole.{HasParts}
use Rattle.machine_spec.specs.Costs.{whole_bytes}
use Rattle.live_state.specs.StateKept.{StateView, KeepsState}
use Rattle.sys_state.proofs.OfState.{parts_of_state}

pub has_parts : (held : StateView) (k : ℕ × State) → KeepsState held k → (system : System) (memories : List Bytes) → held.system ≡ system → held.memories ≡ memories → HasParts k.1 system memories
has_parts held k keeps system memories one all = record {
  version = keeps.version;
  parts = sym keeps.system ∙ one;
  bytes = sym keeps.memories ∙ all;
}

pub written_bytes : (held : StateView) (k : ℕ × State) → KeepsState held k → (memories : List Bytes) → held.memories ≡ memories → whole_length 1 (length (system_text (part_of held.system))) memories ≡ whole_bytes k.1
unfolding whole_bytes
written_bytes held k keeps memories all =
    ap₂ (λ (s : SystemPart) (l : List Bytes). whole_length 1 (length (system_text s)) l) (ap part_of keeps.system ∙ parts_of_state k.1) (sym all ∙ keeps.memories)
    ∙ ap (λ (v : ℕ). whole_length v (length (system_text (system_of k.1))) (memory_bytes k.1)) (sym keeps.version)

pub on_ok_both : {T E : Type 0} (A B : Type 0) (result : Result T E) → OnOk result A → OnOk result B → OnOk result (A × B)
on_ok_both A B (Ok x) a b = (a, b)
on_ok_both A B (Err e) a b = tt

pub on_ok_given : {T E : Type 0} (A B : Type 0) (result : Result T E) → OnOk result (A → B) → A → OnOk result B
on_ok_given A B (Ok x) f a = f a
on_ok_given A B (Err e) f a = tt
