use Rattle.std.proofs.Common.{◌∙◌, sym, ap, ◌≡◌, true, Ok}
use Rattle.format_spec.specs.Bytes.{Bytes, same_bytes}
use Rattle.state_spec.specs.Files.{system_name}
use Rattle.manifest.proofs.Fielding.{name_is}
use Rattle.manifest.proofs.fields.read_system_name.Goals as goal

pub returns-in_ok-from_slice-in-Ok-clause-name : goal.returns-in_ok-from_slice-in-Ok-clause-name
returns-in_ok-from_slice-in-Ok-clause-name c =
    let same : same_bytes c.in-Ok.name.now system_name ≡ true = sym c.is_same.ensures ∙ c.if-is_same.true in
    name_is (λ (name : Bytes). same_bytes name system_name) c.args.reader.now c.in-Ok.name.now system_name c.string8.new.self c.in-Ok.ensures.read same same
    ∙ ap (λ (name : Bytes). Ok (name, c.string8.new.self)) (sym c.in_ok-from_slice-in-Ok.ensures.value)
