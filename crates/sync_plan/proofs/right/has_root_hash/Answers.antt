use Rattle.std.proofs.Common.{◌∙◌, true, false, sym, arith}
use Rattle.state_spec.specs.Root.{read_meta}
use Rattle.sync_plan.proofs.Metas.{root_tested, no_root}
use Rattle.sync_plan.proofs.right.has_root_hash.Goals as goal
use Rattle.sync_plan.proofs.right.has_root_hash.Goals.{then-spells, else-spells}

pub returns-then-is_taken : goal.returns-then-is_taken
returns-then-is_taken c = elim c.if-spells.branch [
  | then-spells w ↦
      let taken = sym c.if-is_taken.true ∙ w.value-is in
      let tested = root_tested c.args.root.now c.args.bytes.now (λ i. omega (arith, c.type_inv.bytes i)) (sym c.spells.ensures ∙ w.if-spells.true) true (λ m is. taken ∙ w.is_taken.ensures m is) in
      (rw (c.bytes.ensures.value, c.root_hash_of_text.ensures, c.bytes-then-is_taken.ensures.value) at c.is_same.ensures) ∙ sym tested
  | else-spells w ↦ let never = sym c.if-is_taken.true ∙ w.value-is ∙ w.if-spells.false in absurd cc
]

pub returns-else-is_taken : goal.returns-else-is_taken
returns-else-is_taken c = elim c.if-spells.branch [
  | then-spells w ↦
      let taken = sym c.if-is_taken.false ∙ w.value-is in
      c.if-is_taken.false ∙ sym (root_tested c.args.root.now c.args.bytes.now (λ i. omega (arith, c.type_inv.bytes i)) (sym c.spells.ensures ∙ w.if-spells.true) false (λ m is. taken ∙ w.is_taken.ensures m is))
  | else-spells w ↦ c.if-is_taken.false ∙ sym (no_root c.args.root.now c.args.bytes.now (read_meta c.args.bytes.now) (sym c.spells.ensures ∙ w.if-spells.false))
]
