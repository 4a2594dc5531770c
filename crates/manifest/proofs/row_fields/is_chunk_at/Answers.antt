use Rattle.std.proofs.Common.{◌≡◌, ◌∙◌, ◌==◌, ◌-◌, ℕ, min, ap, sym, arith}
use Rattle.state_spec.specs.Manifest.{FileRow}
use Rattle.manifest.proofs.Offsets.{no_slot, slot_there}
use Rattle.manifest.proofs.row_fields.is_chunk_at.Goals as goal

pub returns-then-offset-ne0 : goal.returns-then-offset-ne0
returns-then-offset-ne0 c = sym (no_slot c.args.memory.now.size c.args.size c.args.offset (λ even lt. c.if-offset-ne0.true even))

pub returns-then-offset-memory : goal.returns-then-offset-memory
returns-then-offset-memory c =
    let size : c.memory.inside.size ≡ c.args.memory.now.size = ap (λ (r : FileRow). r.size) c.memory.view_is in
    let far = c.if-offset-memory.true in
    sym (no_slot c.args.memory.now.size c.args.size c.args.offset (λ even lt. omega (arith, size, far, lt)))

pub returns : goal.returns
returns c =
    let size : c.memory.inside.size ≡ c.args.memory.now.size = ap (λ (r : FileRow). r.size) c.memory.view_is in
    let near = c.if-offset-memory.false in
    ap (λ (n : ℕ). n == c.min.result) c.from.ensures
    ∙ ap (λ (n : ℕ). c.args.size == n) (c.min.ensures ∙ ap (λ (n : ℕ). min (n - c.args.offset) 1048576) size)
    ∙ sym (slot_there c.args.memory.now.size c.args.size c.args.offset c.if-offset-ne0.false (omega (arith, size, near)))
