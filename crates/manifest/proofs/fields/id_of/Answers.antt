use Rattle.std.proofs.Common.{◌∙◌, ◌-◌, ◌==◌, ℕ, ap, take, drop, length}
use Rattle.std.specs.List.{before_first}
use Rattle.hex.specs.Hex.{decode_of}
use Rattle.format_spec.specs.Bytes.{Bytes}
use Rattle.state_spec.specs.ManifestText.{id_of_hex}
use Rattle.manifest.specs.Reading.{only_id}
use Rattle.manifest.proofs.Fielding.{rest_is}
use Rattle.manifest.proofs.fields.id_of.Goals as goal

pub returns : goal.returns
returns c =
    let name = c.args.name.now in
    c.id_of_digits.ensures
    ∙ ap (λ (digits : Bytes). only_id (id_of_hex (decode_of digits)))
    (c.before_slash.ensures
    ∙ ap (λ (n : ℕ). before_first (λ (b : ℕ). b == 47) (take (length name - n) (drop n name))) c.min.ensures
    ∙ ap (before_first (λ (b : ℕ). b == 47)) (rest_is name))
