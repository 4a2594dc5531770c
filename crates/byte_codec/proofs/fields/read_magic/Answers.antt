use Rattle.std.proofs.Common.{◌≡◌, ◌∙◌, sym, ap, length, true, Ok}
use Rattle.format_spec.specs.Bytes.{Bytes, same_bytes}
use Rattle.format_spec.specs.Fields.{block}
use Rattle.format_spec.proofs.Readings.{same_bytes_is}
use Rattle.byte_codec.proofs.Judged.{field_keeps}
use Rattle.byte_codec.proofs.fields.read_magic.Goals as goal

pub returns-in-Ok-clause-value : goal.returns-in-Ok-clause-value
returns-in-Ok-clause-value c =
    let name = c.args.name.now in
    let found = c.in-Ok.found.now in
    let same : same_bytes name found ≡ true = sym c.is_same.ensures ∙ c.if-is_same.true in
    field_keeps (block (length name)) (same_bytes name) c.args.reader.now found c.bytes.new.self c.in-Ok.ensures.read same
    ∙ ap (λ (s : Bytes). Ok (s, c.bytes.new.self)) (sym (same_bytes_is name found same))
