use Rattle.std.proofs.Common.{ℕ, ⊎_elim, Result, Ok, Err}
use Rattle.disk_model.specs.declared.disk.DiskError.{DiskError}
use Rattle.disk_model.specs.declared.disk.DiskError.TheVariants.{Fault}
use Rattle.height_store.specs.Laws.{kept_through, kept_apart, stands_apart}
use Rattle.height_store.proofs.laws.heights_kept_through_calls.Goals as goal

pub returns-clause-call : goal.returns-clause-call
returns-clause-call c = λ call old new hs ps sound spares did keeps.
    let ok : Result ℕ DiskError = Ok 0 in
    let fault : Result ℕ DiskError = Err Fault in
    ⊎_elim (λ d. kept_through call ok old new hs ps sound spares d keeps) (λ f. kept_through call fault old new hs ps sound spares f keeps) did

pub returns-clause-calls : goal.returns-clause-calls
returns-clause-calls c = kept_apart

pub returns-clause-meanwhile : goal.returns-clause-meanwhile
returns-clause-meanwhile c = stands_apart
