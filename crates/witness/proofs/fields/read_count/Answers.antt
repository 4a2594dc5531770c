use Rattle.std.proofs.Common.{ℕ, ◌^◌, sym, subst}
use Rattle.std.specs.Int.{w16, w32, w64}
use Rattle.format_spec.specs.Fields.{byte, number}
use Rattle.witness.specs.Gives.{TakesForm}
use Rattle.witness.specs.Strings.{length_behind}
use Rattle.witness.proofs.Fielding.{counted}
use Rattle.witness.proofs.fields.read_count.Goals as goal

pub returns-in_ok-u8-in-88 : goal.returns-in_ok-u8-in-88
returns-in_ok-u8-in-88 c =
    subst (λ (h : ℕ). TakesForm (λ m. m) (length_behind h) c.args.reader.now c.u8.new.self c.from.result) (sym c.in-88.is)
    (counted byte 24 c.in_ok-u8-in-88.field-0 c.args.reader.now c.u8.new.self c.from.result c.in_ok-u8-in-88.ensures c.from.ensures)

pub returns-in_ok-be16-in-89 : goal.returns-in_ok-be16-in-89
returns-in_ok-be16-in-89 c =
    subst (λ (h : ℕ). TakesForm (λ m. m) (length_behind h) c.args.reader.now c.be16.new.self c.from-in-89.result) (sym c.in-89.is)
    (counted (number w16) (2 ^ 8) c.in_ok-be16-in-89.field-0 c.args.reader.now c.be16.new.self c.from-in-89.result c.in_ok-be16-in-89.ensures c.from-in-89.ensures)

pub returns-in_ok-be32-in-90 : goal.returns-in_ok-be32-in-90
returns-in_ok-be32-in-90 c =
    subst (λ (h : ℕ). TakesForm (λ m. m) (length_behind h) c.args.reader.now c.be32.new.self c.from-in-90.result) (sym c.in-90.is)
    (counted (number w32) (2 ^ 16) c.in_ok-be32-in-90.field-0 c.args.reader.now c.be32.new.self c.from-in-90.result c.in_ok-be32-in-90.ensures c.from-in-90.ensures)

pub returns-in_ok-be64-in-91 : goal.returns-in_ok-be64-in-91
returns-in_ok-be64-in-91 c =
    subst (λ (h : ℕ). TakesForm (λ m. m) (length_behind h) c.args.reader.now c.be64.new.self c.from-in-91.result) (sym c.in-91.is)
    (counted (number w64) (2 ^ 32) c.in_ok-be64-in-91.field-0 c.args.reader.now c.be64.new.self c.from-in-91.result c.in_ok-be64-in-91.ensures c.from-in-91.ensures)
