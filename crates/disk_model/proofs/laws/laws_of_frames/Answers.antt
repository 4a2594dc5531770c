use Rattle.std.proofs.Common.{IsTrue, ⊎_elim, ℕ, Result, Ok, Err}
use Rattle.disk_model.specs.declared.disk.DiskError.{DiskError}
use Rattle.disk_model.specs.declared.disk.DiskError.TheVariants.{Fault}
use Rattle.disk_model.specs.Frame.{reads_kept, moments_kept, needs_kept}
use Rattle.disk_model.proofs.laws.laws_of_frames.Goals as goal

pub returns-clause-reads : goal.returns-clause-reads
returns-clause-reads c = λ call old new names test only spares did holds.
    let ok : Result ℕ DiskError = Ok 0 in
    let fault : Result ℕ DiskError = Err Fault in
    ⊎_elim (λ d. reads_kept call ok old new names (λ f. IsTrue (test f)) only spares d holds) (λ f. reads_kept call fault old new names (λ f. IsTrue (test f)) only spares f holds) did

pub returns-clause-images : goal.returns-clause-images
returns-clause-images c = λ call old new names test only spares did sound each.
    let ok : Result ℕ DiskError = Ok 0 in
    let fault : Result ℕ DiskError = Err Fault in
    ⊎_elim (λ d. moments_kept call ok old new names (λ f. IsTrue (test f)) sound only spares d each) (λ f. moments_kept call fault old new names (λ f. IsTrue (test f)) sound only spares f each) did

pub returns-clause-needed : goal.returns-clause-needed
returns-clause-needed c = λ given names old new test. needs_kept given names (λ s. IsTrue (test s)) old new
