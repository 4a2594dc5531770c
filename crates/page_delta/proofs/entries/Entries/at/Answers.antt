use Rattle.std.proofs.Common.{◌∙◌, sym, ap, List, Option, ℕ, get_or, None, arith}
use Rattle.page_delta.specs.Arrays.{entry_with}
use Rattle.page_delta.specs.declared.entry.Entry.{Entry}
use Rattle.page_delta.proofs.Arrays.{entries-at}
use Rattle.page_delta.proofs.entries.Entries.at.Goals as goal

pub returns-in_err-slot : goal.returns-in_err-slot
returns-in_err-slot c =
    c.from_residual.ensures ∙ ap (λ (o : Option ℕ). entry_with o (get_or c.self.inside.stamps c.args.digit 0)) c.in_err-slot.ensures
    ∙ sym (entries-at c.self.inside.slots c.self.inside.stamps c.args.digit 0 0
    (omega (arith, c.self.told.1, c.requires)) (omega (arith, c.self.told.0, c.requires)))
    ∙ ap (λ (l : List (Option Entry)). get_or l c.args.digit None) c.self.view_is

pub returns : goal.returns
returns c =
    ap (λ (o : Option ℕ). entry_with o (get_or c.self.inside.stamps c.args.digit 0)) c.in_ok-slot.ensures
    ∙ sym (entries-at c.self.inside.slots c.self.inside.stamps c.args.digit 0 0
    (omega (arith, c.self.told.1, c.requires)) (omega (arith, c.self.told.0, c.requires)))
    ∙ ap (λ (l : List (Option Entry)). get_or l c.args.digit None) c.self.view_is
