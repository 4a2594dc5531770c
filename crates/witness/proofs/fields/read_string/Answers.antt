use Rattle.witness.proofs.Fielding.{string_takes}
use Rattle.witness.proofs.fields.read_string.Goals as goal

pub returns : goal.returns
returns c =
    string_takes (λ string. string.now) c.in_ok-head.head c.in_ok-count.count c.args.reader.now c.u8.new.self c.read_count.new.reader c.bytes.new.self c.bytes.result
    c.in_ok-head.ensures c.in_ok-count.ensures c.bytes.ensures.read
