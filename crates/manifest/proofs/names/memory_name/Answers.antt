use Rattle.std.proofs.Common.{◌≡◌, ◌<◌, ◌∙◌, Some, length, ap, sym, subst}
use Rattle.std.proofs.lemmas.Result.{IfOk-weaker}
use Rattle.format_spec.specs.Bytes.{Bytes}
use Rattle.state_spec.specs.Files.{file_name}
use Rattle.state_spec.specs.ManifestText.{id_in}
use Rattle.state_spec.proofs.Names.{id_in_name}
use Rattle.manifest.proofs.Bounds.{name_size}
use Rattle.manifest.proofs.names.memory_name.Goals as goal

pub returns-clause-short : goal.returns-clause-short
returns-clause-short c =
    IfOk-weaker c.name_of.result (λ (name : Bytes). name ≡ file_name c.bytes.result.now c.args.memory.now) (λ (name : Bytes). length name < 256)
    (λ name is. subst (λ (text : Bytes). length text < 256) (sym is) (name_size c.bytes.result.now c.args.memory.now c.bytes.ensures.id.1 c.requires))
    c.name_of.ensures

pub returns-clause-id : goal.returns-clause-id
returns-clause-id c =
    IfOk-weaker c.name_of.result (λ (name : Bytes). name ≡ file_name c.bytes.result.now c.args.memory.now) (λ (name : Bytes). id_in name ≡ Some c.args.id.now)
    (λ name is.
    ap id_in is ∙ id_in_name c.bytes.result.now c.args.memory.now c.bytes.ensures.bytes ∙ ap (λ (id : Bytes). Some id) c.bytes.ensures.value)
    c.name_of.ensures
