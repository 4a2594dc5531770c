use Rattle.std.proofs.Common.{◌∙◌, ◌<◌, ◌^◌, List, map, length, ap, sym, subst}
use Rattle.format_spec.specs.Bytes.{Bytes, parts}
use Rattle.format_spec.specs.Hashes.{piece_hash}
use Rattle.manifest.proofs.Cutting.{few_pieces}
use Rattle.manifest.proofs.rows.Manifest.meta.Goals as goal

pub returns-clause-few : goal.returns-clause-few
returns-clause-few c =
    subst (λ (hashes : List Bytes). length hashes < 2 ^ 32)
    (sym (c.in_ok-piece_hashes.ensures ∙ ap (λ (text : Bytes). map piece_hash (parts 4096 text)) c.bytes.ensures.value))
    (few_pieces piece_hash c.in_ok-text.text (length c.args.self.now.files) (length c.args.self.now.chunks) c.in_ok-text.ensures.size c.requires.files c.requires.chunks)
