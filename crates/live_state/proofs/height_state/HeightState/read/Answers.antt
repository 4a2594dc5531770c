use Rattle.std.proofs.Common.{◌≡◌, ◌<◌, ◌≤◌, ◌+◌, ◌-◌, ℕ, length, take, drop, subst, ap, ◌∙◌, arith}
use Rattle.format_spec.specs.Bytes.{Bytes}
use Rattle.script_text.specs.declared.reply.Reply.TheVariants as replies
use Rattle.script_text.specs.declared.reply.Refusal.TheVariants as refusals
use Rattle.machine_spec.specs.LiveSteps.{read_reply}
use Rattle.state_spec.specs.State.{State}
use Rattle.live_state.specs.StateKept.{StateView, KeepsState}
use Rattle.sys_state.specs.Memories.{index_of}
use Rattle.sys_state.proofs.Indexed.{bytes_at}
use Rattle.live_state.proofs.MemoryLines.{reads_nowhere, reads_past, reads_bytes}
use Rattle.live_state.proofs.Sized.{is_within}
use Rattle.live_state.proofs.height_state.HeightState.read.Goals as goal

plus_minus : (a b : ℕ) → a + b - a ≡ b
plus_minus a b = omega arith

pub returns-in_default : goal.returns-in_default
returns-in_default c =
    subst (λ (h : StateView). (k : ℕ × State) → KeepsState h k → (replies.Refused refusals.NoCanister) ≡ read_reply k.1 c.args.id.now c.args.mem c.args.offset c.args.len) c.self.view_is
    (λ k keeps. reads_nowhere _ k keeps c.args.id.now c.args.mem c.args.offset c.args.len c.in_default.ensures.found)

pub index-memory-requires : goal.index-memory-requires
index-memory-requires c = omega (arith, c.memory_index.ensures, is_within (λ v. v.items) c.self.inside.memories.items c.self.inside.sys c.args.id.now c.in-Ok.place c.args.mem c.self.invariant.sizes c.in-Ok.ensures)

pub returns-then-saturating_add-len : goal.returns-then-saturating_add-len
returns-then-saturating_add-len c =
    let memory = c.index-memory.result.now in
    let within : c.memory_index.result < length c.self.inside.memories.items = omega (arith, c.memory_index.ensures, is_within (λ v. v.items) c.self.inside.memories.items c.self.inside.sys c.args.id.now c.in-Ok.place c.args.mem c.self.invariant.sizes c.in-Ok.ensures) in
    let bytes = bytes_at (λ v. v.items) c.self.inside.memories.items c.memory_index.result (index_of c.in-Ok.place c.args.mem) memory c.memory_index.ensures within c.index-memory.ensures in
    subst (λ (h : StateView). (k : ℕ × State) → KeepsState h k → (replies.Refused refusals.PastEnd) ≡ read_reply k.1 c.args.id.now c.args.mem c.args.offset c.args.len) c.self.view_is
    (λ k keeps. reads_past _ k keeps c.args.id.now c.in-Ok.place c.args.mem c.in-Ok.ensures c.args.offset c.args.len (subst (λ (b : Bytes). length b < c.args.offset + c.args.len) bytes (omega arith)))

pub returns : goal.returns
returns c =
    let memory = c.index-memory.result.now in
    let within : c.memory_index.result < length c.self.inside.memories.items = omega (arith, c.memory_index.ensures, is_within (λ v. v.items) c.self.inside.memories.items c.self.inside.sys c.args.id.now c.in-Ok.place c.args.mem c.self.invariant.sizes c.in-Ok.ensures) in
    let bytes = bytes_at (λ v. v.items) c.self.inside.memories.items c.memory_index.result (index_of c.in-Ok.place c.args.mem) memory c.memory_index.ensures within c.index-memory.ensures in
    subst (λ (h : StateView). (k : ℕ × State) → KeepsState h k → (replies.Bytes c.in_ok-from_slice.field-0) ≡ read_reply k.1 c.args.id.now c.args.mem c.args.offset c.args.len) c.self.view_is
    (λ k keeps. reads_bytes _ k keeps c.args.id.now c.in-Ok.place c.args.mem c.in-Ok.ensures c.args.offset c.args.len c.in_ok-from_slice.field-0 (subst (λ (b : Bytes). c.args.offset + c.args.len ≤ length b) bytes (omega arith))
    (rw (c.deref.ensures.value, plus_minus c.args.offset c.args.len) at c.in_ok-from_slice.ensures.value ∙ ap (λ (b : Bytes). take c.args.len (drop c.args.offset b)) bytes))
