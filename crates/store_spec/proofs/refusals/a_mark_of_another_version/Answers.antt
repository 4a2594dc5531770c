use Rattle.std.proofs.Common.{arith}
use Rattle.state_spec.proofs.VersionCases.{version_low}
use Rattle.store_spec.proofs.refusals.a_mark_of_another_version.Goals as goal

pub returns : goal.returns
returns c = λ height text m s three h. absurd (omega (arith, three, (version_low m.version h.good.version).1))
