use Rattle.std.specs.Prelude.{◌≡◌, ◌≤◌, ℕ, nat_eq, length}
use Rattle.std.proofs.lemmas.List.{length-map}
use Rattle.format_spec.specs.declared.limits.TheConstants.{MAX_PUBLISHED}
use Rattle.std.specs.List.{list_any, AllByRecursion}
use Rattle.std.specs.List.Sorted.{IsStrictlyIncreasing}
use Rattle.std.proofs.lemmas.Result.{err_from_is_err_and}
use Rattle.height_store.specs.Bad.{IsFirstBadPage}
use Rattle.height_store.proofs.FilesFound.{page_handed_on, page_refused}
use Rattle.std.proofs.Common.{subst, sym, ◌∙◌, ap}
use Rattle.disk_model.specs.State.{DiskState}
use Rattle.disk_model.specs.OnlyReads.{reads_only_then}
use Rattle.page_file.specs.Files.{IsAsKnown}
use Rattle.height_store.specs.Found.{IsFound}
use Rattle.height_store.specs.Opened.{ReadsAtMost}
use Rattle.height_store.specs.Store.{Store, numbers_of, is_named}
use Rattle.height_store.specs.Standing.{marks_open}
use Rattle.height_store.proofs.HeightsFound.{read_of, among_by, same_heights, named_by, found_by, read_by}
use Rattle.height_store.proofs.finding.read_store.Goals as goal

pub returns-in_err-files-clause-only_reads : goal.returns-in_err-files-clause-only_reads
returns-in_err-files-clause-only_reads g c = λ told.
    let second = c.open_pages.ensures.only_reads told in
    (_, reads_only_then _ second.0 _ _ _ (c.read_marks.ensures.reads told) second.1)

pub returns-in_err-named-clause-only_reads : goal.returns-in_err-named-clause-only_reads
returns-in_err-named-clause-only_reads g c = λ told.
    let second = c.open_pages.ensures.only_reads told in
    (_, reads_only_then _ second.0 _ _ _ (c.read_marks.ensures.reads told) second.1)

pub returns-in_err-heights-clause-only_reads : goal.returns-in_err-heights-clause-only_reads
returns-in_err-heights-clause-only_reads g c = λ told.
    let second = c.open_pages.ensures.only_reads told in
    (_, reads_only_then _ second.0 _ _ _ (c.read_marks.ensures.reads told) second.1)

pub returns-clause-only_reads : goal.returns-clause-only_reads
returns-clause-only_reads g c = λ told.
    let second = c.open_pages.ensures.only_reads told in
    (_, reads_only_then _ second.0 _ _ _ (c.read_marks.ensures.reads told) second.1)

pub returns-in_err-files-clause-bad_page : goal.returns-in_err-files-clause-bad_page
returns-in_err-files-clause-bad_page g c = λ told number is.
    let p = err_from_is_err_and c.from_residual-in_err-files.result c.from_residual-in_err-files.ensures.1 in
    let err = page_handed_on _ c.from_residual-in_err-files.result p.0 c.in_err-files.field-0.0 number p.1 p.2 is in
    subst (λ (s : DiskState). IsFirstBadPage s.files number) (c.in_ok-marks.ensures.reads_only told).state (c.in_err-files.ensures.bad_page told number err)

pub returns-in_err-files-clause-cause : goal.returns-in_err-files-clause-cause
returns-in_err-files-clause-cause g c =
    page_refused g.D.Disk c.open_pages.result c.from_residual-in_err-files.result c.in_err-files.field-0.0 _ _ _ c.from_residual-in_err-files.ensures.1 c.in_err-files.was c.read_marks.ensures.cause.never_falls c.open_pages.ensures.cause

pub heights_of-requires-clause-named : goal.heights_of-requires-clause-named
heights_of-requires-clause-named g c = among_by _ _ _ _ c.deref-3.ensures.value c.deref.ensures.value c.in_ok-files.ensures.named

pub new-requires-clause-ascends : goal.new-requires-clause-ascends
new-requires-clause-ascends g c = subst IsStrictlyIncreasing (sym (same_heights _ _ c.in_ok-heights.ensures.marks _ c.in_ok-marks.ensures.heights)) c.in_ok-check_order.ensures.ascends

pub returns-clause-named : goal.returns-clause-named
returns-clause-named g c = subst (λ (store : Store). (n : ℕ) → list_any (nat_eq n) store.named ≡ is_named store.heights n) (sym c.new.ensures)
    (named_by c.in_ok-heights.heights.items _ c.in_ok-heights.ensures.marks _ _ _ _ c.in_ok-named.ensures c.deref-2.ensures.value c.deref.ensures.value c.in_ok-heights.ensures.good c.in_ok-files.ensures.named)

pub returns-clause-found : goal.returns-clause-found
returns-clause-found g c = λ told.
    let files = (g.D.Disk.view c.args.disk.now).state.files in
    let kept = subst (λ (s : DiskState). AllByRecursion (IsAsKnown s.files) c.in_ok-files.files.items) (c.in_ok-marks.ensures.reads_only told).state (c.in_ok-files.ensures.kept told) in
    subst (λ (store : Store). IsFound store files) (sym c.new.ensures)
    (found_by c.in_ok-heights.heights.items _ c.in_ok-heights.ensures.marks files _ 0 0 c.in_ok-files.files.items (c.in_ok-marks.ensures.good told)
    (c.in_ok-named.ensures ∙ ap numbers_of c.deref-2.ensures.value) kept
    (λ all are. c.in_ok-heights.ensures.stacks all (subst (AllByRecursion (IsAsKnown all)) (sym c.deref-3.ensures.value) are)))

pub returns-clause-read : goal.returns-clause-read
returns-clause-read g c = λ told.
    let files = (g.D.Disk.view c.args.disk.now).state.files in
    let kept = subst (λ (s : DiskState). AllByRecursion (IsAsKnown s.files) c.in_ok-files.files.items) (c.in_ok-marks.ensures.reads_only told).state (c.in_ok-files.ensures.kept told) in
    subst (λ (store : Store). ReadsAtMost files store (g.D.Disk.view c.args.disk.now).bytes_read (g.D.Disk.view c.open_pages.new.disk).bytes_read) (sym c.new.ensures)
    (read_by c.in_ok-heights.heights.items _ c.in_ok-heights.ensures.marks files _ 0 0 c.in_ok-files.files.items _ _ _
    (c.in_ok-named.ensures ∙ ap numbers_of c.deref-2.ensures.value) kept (c.in_ok-marks.ensures.reads_only told) (c.in_ok-files.ensures.reads_only told))

pub returns-clause-opens : goal.returns-clause-opens
returns-clause-opens g c = λ told.
    let files = (g.D.Disk.view c.args.disk.now).state.files in
    let kept = subst (λ (s : DiskState). AllByRecursion (IsAsKnown s.files) c.in_ok-files.files.items) (c.in_ok-marks.ensures.reads_only told).state (c.in_ok-files.ensures.kept told) in
    let found = found_by c.in_ok-heights.heights.items _ c.in_ok-heights.ensures.marks files _ 0 0 c.in_ok-files.files.items (c.in_ok-marks.ensures.good told)
    (c.in_ok-named.ensures ∙ ap numbers_of c.deref-2.ensures.value) kept
    (λ all are. c.in_ok-heights.ensures.stacks all (subst (AllByRecursion (IsAsKnown all)) (sym c.deref-3.ensures.value) are)) in
    let few : length c.in_ok-heights.heights.items ≤ MAX_PUBLISHED =
    subst (λ (n : ℕ). n ≤ MAX_PUBLISHED) (sym (sym (length-map c.in_ok-heights.heights.items read_of) ∙ ap length c.in_ok-heights.ensures.marks)) c.in_ok-marks.ensures.few in
    marks_open files c.in_ok-heights.heights.items c.in_ok-heights.ensures.good few found.listed found.marks (found.stacks files found.kept)
