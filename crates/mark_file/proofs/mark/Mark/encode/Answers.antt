use Rattle.std.proofs.Common.{◌≡◌, ◌∙◌, ◌++◌, ap}
use Rattle.sha2.specs.Sha256.{sha256}
use Rattle.format_spec.specs.Bytes.{Bytes}
use Rattle.store_spec.specs.Mark.{mark_body, mark_text}
use Rattle.mark_file.proofs.mark.Mark.encode.Goals as goal

pub returns : goal.returns
unfolding mark_text
returns c =
    let m = c.args.self.now in
    let body : c.put_body.new.text.items ≡ mark_body m = c.in_ok-put_body.ensures ∙ ap (λ (s : Bytes). s ++ mark_body m) c.in_ok-text.ensures.items in
    let hash : c.bytes.result.now ≡ sha256 (mark_body m) = c.bytes.ensures.value ∙ c.plain_hash-hash.ensures ∙ ap sha256 (c.deref.ensures.value ∙ body) in
    c.from_vec.ensures ∙ c.in_ok-extend_from_slice.ensures.items ∙ (λ i. body i ++ hash i)
