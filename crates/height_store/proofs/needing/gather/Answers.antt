use Rattle.std.proofs.Common.{◌∙◌, ◌||◌, nat_eq, List, ap, subst, sym}
use Rattle.std.specs.List.{list_any, AllByRecursion}
use Rattle.std.proofs.lemmas.List.{take_more}
use Rattle.format_spec.proofs.Lists.{all_push}
use Rattle.store_spec.specs.Mark.{Mark, MarkMemory}
use Rattle.height_store.specs.Store.{StoredHeight, IsHeight, mark_names}
use Rattle.height_store.proofs.Needs.{named_more}
use Rattle.height_store.proofs.needing.gather.Goals as goal

pub loop-height-preserved : goal.loop-height-preserved
loop-height-preserved c =
    let same = c.deref.ensures.value ∙ ap (λ (m : Mark). m.memories) (c.behind-height.view_is ∙ c.mark.ensures.mark ∙ ap (λ (h : StoredHeight). h.mark) c.height-item.is) in
    record {
      each = λ n. named_more (λ (h : StoredHeight). mark_names h.mark n) (list_any (nat_eq n) c.args.pins.now) (list_any (nat_eq n) c.loop-height.numbers.items) _
          c.args.heights.now c.loop-height.height-index c.height-item.result c.loop-height-test.true
          (c.in_ok-add_layers.ensures n ∙ ap (λ (ms : List MarkMemory). list_any (nat_eq n) c.loop-height.numbers.items || list_any (λ memory. list_any (nat_eq n) memory.layers) ms) same)
          (c.loop-height.invariant.each n);
      good = subst (AllByRecursion IsHeight) (sym (take_more c.args.heights.now c.loop-height.height-index c.height-item.result c.loop-height-test.true))
          (all_push IsHeight _ _ c.loop-height.invariant.good (subst IsHeight c.height-item.is c.mark.ensures.good));
    }
