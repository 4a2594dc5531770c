use Rattle.std.proofs.Common.{◌∙◌, refl, subst, ℕ}
use Rattle.std.proofs.lemmas.Result.{IfOk-weaker}
use Rattle.disk_model.specs.OnlyReads.{OnlyReads}
use Rattle.height_store.proofs.BytesRead.{all_held}
use Rattle.height_store.proofs.Places.{there_is, whole_memory}
use Rattle.height_store.proofs.store.PublishedHeight.read_memory.Goals as goal

pub returns-clause-bytes : goal.returns-clause-bytes
returns-clause-bytes g c = λ told stack layers has are.
    let there = there_is c.args.self.now c.args.file c.args.pages c.requires.there in
    IfOk-weaker c.read_range.result _ _
    (λ bytes is. is there.0 stack layers there.1 has are ∙ whole_memory (g.D.Disk.view c.args.disk.now).state.files stack layers c.from.result c.args.pages there.0.1 are c.from.ensures there.2)
    (c.read_range.ensures.range told)

pub returns-clause-reads_only : goal.returns-clause-reads_only
returns-clause-reads_only g c = λ told. subst (λ (most : ℕ). OnlyReads most (g.D.Disk.view c.args.disk.now) (g.D.Disk.view c.read_range.new.disk)) (all_held c.from.result c.args.pages _ c.from.ensures refl) (c.read_range.ensures.reads_only told)
