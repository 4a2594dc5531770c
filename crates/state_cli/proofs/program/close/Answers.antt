use Rattle.state_cli.proofs.Closing.{closing}
use Rattle.state_cli.proofs.program.close.Goals as goal

pub returns-clause-closes : goal.returns-clause-closes
returns-clause-closes g c =
    let sink = g.K.Sink in
    closing c.write_last.result (sink.written c.args.sink.now) (sink.written c.write_last.new.sink) _ (sink.faults c.args.sink.now) (sink.faults c.write_last.new.sink) c.write_last.ensures.all c.write_last.ensures.prefix c.write_last.ensures.cause
