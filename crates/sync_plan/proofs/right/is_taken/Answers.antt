use Rattle.std.proofs.Common.{ℕ, ◌==◌, ◌∙◌, ap, sym, arith}
use Rattle.std.specs.Int.{w32}
use Rattle.format_spec.specs.Fields.{field, any, number}
use Rattle.sync_plan.proofs.Metas.{version_read, version_there}
use Rattle.sync_plan.proofs.right.is_taken.Goals as goal

pub returns-in-Ok : goal.returns-in-Ok
returns-in-Ok c = λ m is.
    ap (λ (v : ℕ). v == 1) (version_read c.args.text.now m c.in-Ok.version c.be32.new.self (λ i. omega (arith, c.type_inv.text i)) is (ap (field (number w32) any) (sym c.new-reader.ensures) ∙ c.in-Ok.ensures))

pub returns-in-Err : goal.returns-in-Err
returns-in-Err c = λ m is. absurd (version_there c.args.text.now m (λ i. omega (arith, c.type_inv.text i)) is (rw c.new-reader.ensures at c.in-Err.ensures.0))
