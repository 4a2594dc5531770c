use Rattle.state_spec.specs.Manifest.{manifest_of}
use Rattle.state_spec.proofs.ManifestWhole.{manifest_only}
use Rattle.soundness.proofs.StateManifests.{manifest_good}
use Rattle.soundness.proofs.laws.state_manifests_are_manifests.Goals as goal

pub returns-clause-good : goal.returns-clause-good
returns-clause-good c = λ s h. manifest_good s h

pub returns-clause-read_again : goal.returns-clause-read_again
returns-clause-read_again c = λ s h. manifest_only (manifest_of s) (manifest_good s h)
