use Rattle.std.proofs.Common.{◌∙◌, ap, List, Option, ℕ, set, Some}
use Rattle.page_delta.specs.Arrays.{entry_with, entries_of}
use Rattle.page_delta.specs.declared.entry.Entry.{Entry}
use Rattle.page_delta.proofs.Arrays.{entries-set}
use Rattle.page_delta.proofs.entries.Entries.set.Goals as goal

pub returns : goal.returns
returns c =
    entries-set c.self.inside.slots c.self.inside.stamps c.args.digit c.number.result c.args.entry.stamp
    ∙ ap (λ (o : Option ℕ). set (entries_of c.self.inside.slots c.self.inside.stamps) c.args.digit (entry_with o c.args.entry.stamp)) c.number.ensures.slot
    ∙ ap (λ (l : List (Option Entry)). set l c.args.digit (Some c.args.entry)) c.self.view_is
