use Rattle.std.proofs.Common.{◌≡◌, sym, subst, ℕ, List, arith, ◌∙◌, ap}
use Rattle.std.specs.List.{range_with_len}
use Rattle.page_spec.specs.PageFile.{IsIndex}
use Rattle.whole_state.proofs.WholeFiles.{page_pushed, whole_is_index}
use Rattle.whole_state.proofs.pages.all_pages.Goals as goal

pub loop-page-preserved : goal.loop-page-preserved
loop-page-preserved c = page_pushed c.loop-page.numbers.items c.push.new.self.items c.loop-page.page c.loop-page.invariant c.in_ok-push.ensures.items

pub build-requires : goal.build-requires
build-requires c =
    let all : c.loop-page.page ≡ c.args.pages = omega (arith, c.loop-page-test.false, c.loop-page.auto.page-end) in
    subst (λ (numbers : List ℕ). IsIndex (record { memory = c.args.pages; numbers = numbers })) (sym (c.deref.ensures.value ∙ c.loop-page.invariant ∙ ap (range_with_len 0) all))
    (whole_is_index c.args.pages c.requires.some c.requires.few)
