use Rattle.std.proofs.Common.{ℕ, List, Option, length, None, sym, ap, ◌∙◌, arith}
use Rattle.std.proofs.lemmas.List.{ext_get_or, length-map}
use Rattle.page_pool.specs.Pool.{slot_of}
use Rattle.page_delta.proofs.children.Children.all.Goals as goal

pub returns : goal.returns
returns c =
    let all = c.loop-place-test.false in
    let len = c.loop-place.invariant.0 in
    let wide = ap (λ (l : List (Option ℕ)). length l) c.self.view_is in
    ext_get_or None c.loop-place.all c.args.self.now (len ∙ sym (sym wide ∙ length-map c.self.inside.keys slot_of ∙ c.self.told))
    (λ k below. c.loop-place.invariant.1 k (omega arith))
