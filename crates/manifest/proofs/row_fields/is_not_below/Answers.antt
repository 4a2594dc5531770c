use Rattle.std.proofs.Common.{◌∙◌, ap, sym, Option}
use Rattle.state_spec.specs.Manifest.{ChunkRow}
use Rattle.state_spec.specs.ManifestText.{is_not_below}
use Rattle.std.specs.Prelude.{nat_le, ℕ}
use Rattle.manifest.proofs.Fronts.{last_get}
use Rattle.manifest.proofs.row_fields.is_not_below.Goals as goal

pub returns-in-Some : goal.returns-in-Some
returns-in-Some c =
    let file = ap (λ (r : ChunkRow). r.file) c.last-in-Some.view_is in
    ap (λ (n : ℕ). nat_le n c.args.file) file
    ∙ sym (ap (λ (o : Option ChunkRow). is_not_below o c.args.file) (last_get c.args.before.now c.in-Some.last.now c.in-Some.ensures.value))
