use Rattle.std.proofs.Common.{[], ◌∷◌, codes, length, refl, ap, arith, length-append}
use Rattle.state_spec.proofs.examples.places_of_keys.Goals as goal

pub returns-clause-there : goal.returns-clause-there
returns-clause-there c = record {
  value = 2;
  found = refl;
  at = record { before = (codes "a", 1) ∷ []; after = []; split = refl; count = refl };
  place = refl;
}

pub returns-clause-before : goal.returns-clause-before
returns-clause-before c = record {
  found = refl;
  at = record { before = []; after = (codes "a", 1) ∷ (codes "b", 2) ∷ []; split = refl; count = refl };
  lower = tt;
  higher = (refl, (refl, tt));
  place = refl;
}

pub returns-clause-between : goal.returns-clause-between
returns-clause-between c = record {
  found = refl;
  at = record { before = (codes "a", 1) ∷ []; after = (codes "b", 2) ∷ []; split = refl; count = refl };
  lower = (refl, tt);
  higher = (refl, tt);
  place = refl;
}

pub returns-clause-wrong : goal.returns-clause-wrong
returns-clause-wrong c is = let place = is.place in cc

pub returns-clause-count : goal.returns-clause-count
returns-clause-count c = refl

pub returns-clause-replaced : goal.returns-clause-replaced
returns-clause-replaced c = record { before = (codes "a", 1) ∷ []; after = []; old_is = refl; new_is = refl; count = refl }

pub returns-clause-behind_the_end : goal.returns-clause-behind_the_end
returns-clause-behind_the_end c is = omega (arith, is.count, ap length is.old_is, length-append is.before is.after)
