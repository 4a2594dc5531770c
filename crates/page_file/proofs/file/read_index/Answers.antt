use Rattle.std.proofs.Common.{◌+◌, ◌*◌, IsTrue, IfSome, Option, Ok, subst, arith}
use Rattle.disk_model.specs.OnlyReads.{reads_only_then, reads_only_more}
use Rattle.page_file.specs.declared.format.Header.{Header}
use Rattle.page_file.specs.Files.{FindsHeader}
use Rattle.page_file.specs.Index.{are_counts}
use Rattle.page_file.proofs.Texts.{counts_are}
use Rattle.page_file.proofs.Opened.{looked_for}
use Rattle.page_file.proofs.file.read_index.Goals as goal

pub returns-in-Some-clause-reads_only : goal.returns-in-Some-clause-reads_only
returns-in-Some-clause-reads_only g c = λ told.
    looked_for c.in-Some.header.ranges c.read_ranges.result _ _ (c.read_ranges.ensures.length told) (reads_only_then 32 (12 * c.in-Some.header.ranges) _ _ _ (c.in_ok-header.ensures.reads_only told) (c.read_ranges.ensures.reads_only told))

pub returns-in-Some-clause-reads_at_most : goal.returns-in-Some-clause-reads_at_most
returns-in-Some-clause-reads_at_most g c = λ told.
    let possible = subst (λ (o : Option Header). IfSome o (λ h. IsTrue (are_counts h.memory h.ranges h.pages))) c.in-Some.is c.in_ok-header.ensures.possible in
    let counts = counts_are c.in-Some.header.memory c.in-Some.header.ranges c.in-Some.header.pages possible in
    reads_only_more (32 + 12 * c.in-Some.header.ranges) 1572896 _ _ (omega (arith, counts.0, counts.1, counts.2)) (reads_only_then 32 (12 * c.in-Some.header.ranges) _ _ _ (c.in_ok-header.ensures.reads_only told) (c.read_ranges.ensures.reads_only told))

pub returns-in-None-clause-found : goal.returns-in-None-clause-found
returns-in-None-clause-found g c = λ told. subst (λ o. FindsHeader (g.D.Disk.view c.args.disk.now).state.files c.args.number (Ok o)) c.in-None.is (c.in_ok-header.ensures.found told)
