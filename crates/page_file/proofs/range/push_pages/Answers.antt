use Rattle.std.proofs.Common.{arith}
use Rattle.page_file.proofs.Steps.{pages_push}
use Rattle.page_file.proofs.range.push_pages.Goals as goal

pub loop-page-preserved : goal.loop-page-preserved
loop-page-preserved c = pages_push c.args.pages.now.items c.loop-page.pages.items c.push.new.self.items c.args.range.first c.loop-page.page (omega arith) c.loop-page.invariant c.in_ok-push.ensures.items
