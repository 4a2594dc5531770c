use Rattle.std.proofs.Common.{◌∙◌, sym, ap, ◌*◌}
use Rattle.std.specs.Prelude.{ℕ, ◌==◌}
use Rattle.manifest.specs.Reading.{meta_head}
use Rattle.manifest.proofs.Metas.{meta_counted, fails_meta}
use Rattle.manifest.proofs.meta.MetaManifest.spells.Goals as goal

pub returns-in-Ok : goal.returns-in-Ok
returns-in-Ok c =
    ap (λ (left : ℕ). left == 32 * c.in-Ok.count) c.left.ensures
    ∙ sym (meta_counted _ c.in-Ok.count c.read_meta_head.new.reader c.args.text.now (ap meta_head (sym c.new-reader.ensures) ∙ c.in-Ok.ensures.head))

pub returns-in-Err : goal.returns-in-Err
returns-in-Err c = sym (fails_meta c.args.text.now c.in-Err.field-0 (rw c.new-reader.ensures at c.in-Err.ensures.head) c.in-Err.ensures.memory)
