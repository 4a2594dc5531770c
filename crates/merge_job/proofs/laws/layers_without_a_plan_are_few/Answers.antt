use Rattle.std.proofs.Common.{arith}
use Rattle.format_spec.specs.declared.limits.TheConstants.{MAX_MEMORY_PAGES}
use Rattle.merge_job.proofs.Plans.{few_layers}
use Rattle.merge_job.proofs.laws.layers_without_a_plan_are_few.Goals as goal

pub returns-clause-any : goal.returns-clause-any
returns-clause-any c = λ sizes n most none are less. few_layers most sizes n none are less

pub returns-clause-largest : goal.returns-clause-largest
returns-clause-largest c = λ sizes none are. few_layers MAX_MEMORY_PAGES sizes 11 none are (omega arith)

pub returns-clause-smaller : goal.returns-clause-smaller
returns-clause-smaller c = λ sizes none are. few_layers 65536 sizes 10 none are (omega arith)
