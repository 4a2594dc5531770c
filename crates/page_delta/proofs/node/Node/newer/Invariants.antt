use Rattle.page_delta.specs.Shared.{IsNewer}
use Rattle.page_delta.proofs.node.Node.newer.Given as goal

abbrev pub invariant-loop-digit : goal.invariant-loop-digit
invariant-loop-digit l = IsNewer l.b l.self l.leaf l.pages l.digit
