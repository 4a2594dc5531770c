use Rattle.std.proofs.Common.{List, Option, subst, arith}
use Rattle.std.specs.List.{AllByRecursion}
use Rattle.format_spec.specs.Bytes.{Bytes}
use Rattle.store_spec.specs.Mark.{IsSum}
use Rattle.store_spec.proofs.refusals.no_sum_in_version_1.Goals as goal

pub returns : goal.returns
returns c = λ m sums f e fits. let first = (subst (λ (xs : List (Option Bytes)). AllByRecursion (IsSum 1) xs) e fits.sums_fit).0 in absurd (omega (arith, first))
