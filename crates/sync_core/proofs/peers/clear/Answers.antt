use Rattle.std.proofs.Common.{◌∙◌, refl}
use Rattle.std.proofs.lemmas.Simd.{splat_is_map}
use Rattle.sync_core.proofs.peers.clear.Goals as goal

pub returns : goal.returns
returns c = c.fill.ensures.after (λ y h. cc) ∙ splat_is_map c.args.strikes.now _ 0 refl
