use Rattle.std.proofs.Common.{subst, sym}
use Rattle.merge_job.specs.Merge.{Merge, IsOn}
use Rattle.merge_job.proofs.Stepped.{own_loose}
use Rattle.merge_job.proofs.job.MergeJob.finish.Goals as goal

pub finish-requires-clause-loose : goal.finish-requires-clause-loose
finish-requires-clause-loose g c = λ told.
    own_loose (record { read = c.self.inside.read; from = c.self.inside.from; writer = c.self.inside.writer }) _ (subst (λ (m : Merge). IsOn m (g.D.Disk.view c.args.disk.now).state) (sym c.self.view_is) (c.requires.on told))
