use Rattle.std.proofs.Common.{refl}
use Rattle.std.specs.Io.KnownBytes.{IsAtEnd}
use Rattle.machine_spec.specs.Script.{after_script}
use Rattle.state_cli.proofs.Endings.{done}
use Rattle.state_cli.specs.Ends.{StandsAs}
use Rattle.state_cli.proofs.laws.a_script_done_is_answered.Goals as goal

pub returns-clause-output : goal.returns-clause-output
returns-clause-output c = λ tells before now old new known script gained first e told entry.
    (done tells (StandsAs old.state) before now (IsAtEnd known) old new script gained first e told entry).0

pub returns-clause-next : goal.returns-clause-next
returns-clause-next c = λ tells before now old new known script gained first e told entry.
    record {
      heights = (after_script first script).published;
      first_is = refl;
      each = (done tells (StandsAs old.state) before now (IsAtEnd known) old new script gained first e told entry).1;
    }
