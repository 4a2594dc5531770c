use Rattle.state_manager.proofs.Checked.{refuses, tells}
use Rattle.state_manager.proofs.checks.check_witness.Goals as goal

pub returns-in-Ok : goal.returns-in-Ok
returns-in-Ok c = tells c.args.root.now c.args.bytes.now c.args.path.now c.in-Ok.checked c.reply_of.result c.in-Ok.ensures.answer c.reply_of.ensures

pub returns-in-Err : goal.returns-in-Err
returns-in-Err c = refuses c.args.root.now c.args.bytes.now c.args.path.now c.in-Err.error c.refused_by.result c.in-Err.ensures.answer c.refused_by.ensures
