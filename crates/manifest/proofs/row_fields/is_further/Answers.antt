use Rattle.std.proofs.Common.{◌≡◌, ◌∙◌, ◌==◌, not, ap, sym, Option}
use Rattle.std.specs.Prelude.{nat_lt, ℕ}
use Rattle.state_spec.specs.Manifest.{ChunkRow}
use Rattle.state_spec.specs.ManifestText.{is_further}
use Rattle.manifest.proofs.Fronts.{last_get, further_other, further_here}
use Rattle.manifest.proofs.row_fields.is_further.Goals as goal

pub returns-then-last-file : goal.returns-then-last-file
returns-then-last-file c =
    let last = c.in-Some.last.now in
    let file : c.last-in-Some.inside.file ≡ last.file = ap (λ (r : ChunkRow). r.file) c.last-in-Some.view_is in
    ap (λ (n : ℕ). not (n == c.args.file)) file
    ∙ further_other last c.args.file c.args.offset (λ e. c.if-last-file.true (file ∙ e))
    ∙ sym (ap (λ (o : Option ChunkRow). is_further o c.args.file c.args.offset) (last_get c.args.before.now last c.in-Some.ensures.value))

pub returns-else-last-file : goal.returns-else-last-file
returns-else-last-file c =
    let last = c.in-Some.last.now in
    let file : c.last-in-Some.inside.file ≡ last.file = ap (λ (r : ChunkRow). r.file) c.last-in-Some.view_is in
    let offset : c.last-in-Some.inside.offset ≡ last.sum.offset = ap (λ (r : ChunkRow). r.sum.offset) c.last-in-Some.view_is in
    ap (λ (n : ℕ). nat_lt n c.args.offset) offset
    ∙ further_here last c.args.file c.args.offset (sym file ∙ c.if-last-file.false)
    ∙ sym (ap (λ (o : Option ChunkRow). is_further o c.args.file c.args.offset) (last_get c.args.before.now last c.in-Some.ensures.value))
