use Rattle.merge_job.proofs.Chosen.{one_more}
use Rattle.merge_job.proofs.job.all_pages.Goals as goal

pub loop-page-preserved : goal.loop-page-preserved
loop-page-preserved c = one_more c.loop-page.page _ _ c.loop-page.invariant c.in_ok-push.ensures.items
