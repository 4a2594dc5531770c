use Rattle.std.proofs.Common.{◌≡◌, ◌∙◌, true, Some, ap, sym}
use Rattle.format_spec.specs.Bytes.{same_bytes}
use Rattle.state_spec.specs.ManifestText.{is_its_stable}
use Rattle.manifest.proofs.Fielding.{name_is}
use Rattle.manifest.proofs.fields.read_stable_name.Goals as goal

pub returns-in-Ok-clause-name : goal.returns-in-Ok-clause-name
returns-in-Ok-clause-name c =
    let name = c.in-Ok.name.now in
    let same : same_bytes name c.in_ok-stable.stable ≡ true = ap (same_bytes name) (sym c.bytes.ensures.value) ∙ sym c.is_same.ensures ∙ c.if-is_same.true in
    name_is (is_its_stable (Some c.args.id.now)) c.args.reader.now name c.in_ok-stable.stable c.string8.new.self c.in-Ok.ensures.read same
    (ap (same_bytes name) (sym c.in_ok-stable.ensures.value) ∙ same)
