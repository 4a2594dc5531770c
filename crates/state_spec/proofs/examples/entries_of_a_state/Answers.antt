use Rattle.std.proofs.Common.{[], ◌∷◌, codes, refl, lit≤}
use Rattle.format_spec.proofs.ByteStrings.{by_test}
use Rattle.state_spec.proofs.examples.entries_of_a_state.Goals as goal

pub returns-clause-valid : goal.returns-clause-valid
returns-clause-valid c = record {
  few = lit≤ tt;
  paths_ascend = refl;
  paths_apart = refl;
  fit = (record { path = refl; free = refl; value = lit≤ tt }, tt);
  bytes = (record { path = (by_test (codes "subnet") refl, (by_test (codes "x") refl, tt)); value = by_test (5 ∷ []) refl }, tt);
}

pub returns-clause-beside : goal.returns-clause-beside
returns-clause-beside c = record {
  few = lit≤ tt;
  paths_ascend = refl;
  paths_apart = refl;
  fit = (record { path = refl; free = refl; value = lit≤ tt }, (record { path = refl; free = refl; value = lit≤ tt }, tt));
  bytes = (
    record { path = (by_test (codes "a") refl, tt); value = by_test [] refl },
    (record { path = (by_test (codes "ab") refl, tt); value = by_test [] refl }, tt),
  );
}

pub returns-clause-descending : goal.returns-clause-descending
returns-clause-descending c are = let wrong = are.paths_ascend in cc

pub returns-clause-below : goal.returns-clause-below
returns-clause-below c are = let wrong = are.paths_apart in cc
