use Rattle.sync_soundness.proofs.Pieces.{version_or_clash}
use Rattle.sync_soundness.proofs.laws.meta_manifests_have_the_version.Goals as goal

pub returns : goal.returns
returns c = λ s m had h good r held. version_or_clash s m had h r held good
