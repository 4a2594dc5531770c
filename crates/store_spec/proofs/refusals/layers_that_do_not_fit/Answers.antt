use Rattle.std.proofs.Common.{arith, sym, ◌∙◌}
use Rattle.store_spec.proofs.refusals.layers_that_do_not_fit.Goals as goal

pub returns-clause-many : goal.returns-clause-many
returns-clause-many c = λ version m f many fits. absurd (omega (arith, many, fits.few))

pub returns-clause-empty : goal.returns-clause-empty
returns-clause-empty c = λ version m name n ns e fits. absurd (let none = sym e ∙ fits.none_if_empty (λ i. 0) in cc)
