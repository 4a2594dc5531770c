use Rattle.std.proofs.Common.{◌≡◌, ◌∙◌, ◌-◌, ℕ, length, take, drop, sym, subst, arith}
use Rattle.std.proofs.lemmas.List.{length-take, length-drop}
use Rattle.manifest.specs.Reading.{InOrder}
use Rattle.manifest.proofs.RowLoops.{slots_in_order, in_order_join}
use Rattle.manifest.proofs.memory_chunks.read_both.Goals as goal

pub returns-clause-order : goal.returns-clause-order
returns-clause-order c =
    let files = c.args.files.now in
    let last : ℕ = length files - 1 in
    let some = c.requires.some in
    let mid : length (take last files) ≡ last = omega (arith, length-take last files) in
    let first : InOrder 0 last c.in_ok-rows.rows.items = subst (λ (n : ℕ). InOrder 0 n c.in_ok-rows.rows.items) mid c.in_ok-rows.ensures.order in
    let second = slots_in_order (drop last files) last (length files) c.in_ok-system.system.items (omega (arith, length-drop last files, some)) (c.in_ok-system.ensures.slots ∙ c.requires.system) in
    subst (InOrder 0 (length files)) (sym c.in_ok-append.ensures.items)
    (in_order_join 0 last (length files) c.in_ok-rows.rows.items c.in_ok-system.system.items (omega arith) (omega arith) first second)
