use Rattle.std.proofs.Common.{sym, subst}
use Rattle.std.specs.List.Sorted.{IsStrictlyIncreasing}
use Rattle.height_store.specs.Store.{Store, IsNextFree}
use Rattle.height_store.proofs.Numbers.{rises, ascends_to_the_end, next_of_all, passed_next}
use Rattle.height_store.proofs.store.HeightStore.next_number.Goals as goal

pub count_below-below-requires : goal.count_below-below-requires
count_below-below-requires c = rises c.deref.result.now (subst IsStrictlyIncreasing (sym c.deref.ensures.value) c.self.invariant.named_ascends)

pub first_free-number-requires-clause-ascend : goal.first_free-number-requires-clause-ascend
first_free-number-requires-clause-ascend c = ascends_to_the_end c.self.inside.named.items c.deref-2.result.now c.count_below-below.result c.deref-2.ensures.value c.self.invariant.named_ascends

pub invariant_of-self : goal.invariant_of-self
invariant_of-self c = record {
  ascends = c.self.invariant.ascends;
  few = c.self.invariant.few;
  named_ascends = c.self.invariant.named_ascends;
  passed = passed_next c.self.inside.named.items c.self.inside.numbers_given c.self.inside.least_free c.first_free-number.result c.self.invariant.passed
      (next_of_all c.self.inside.named.items c.deref.result.now c.deref-2.result.now c.count_below-below.result c.self.inside.least_free c.first_free-number.result
      c.deref.ensures.value c.deref-2.ensures.value c.count_below-below.ensures.count c.count_below-below.ensures.below c.first_free-number.ensures.free);
}

pub returns-clause-number : goal.returns-clause-number
returns-clause-number c = subst (λ (s : Store). IsNextFree s.named s.least_free c.first_free-number.result) c.self.view_is
    (next_of_all c.self.inside.named.items c.deref.result.now c.deref-2.result.now c.count_below-below.result c.self.inside.least_free c.first_free-number.result
    c.deref.ensures.value c.deref-2.ensures.value c.count_below-below.ensures.count c.count_below-below.ensures.below c.first_free-number.ensures.free)
