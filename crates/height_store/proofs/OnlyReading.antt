-- Opening that only looks at a disk.
use Rattle.std.specs.Prelude.{◌≡◌, ℕ, ◌+◌, List}
use Rattle.std.proofs.Common.{◌∙◌, ap, arith}
use Rattle.store_spec.proofs.Images.{listing_once}
use Rattle.disk_model.specs.declared.name.Kind.TheVariants as kind
use Rattle.disk_model.specs.Files.{Files, IsListing}
use Rattle.disk_model.specs.State.{DiskState}
use Rattle.disk_model.specs.View.{DiskView}
use Rattle.disk_model.specs.OnlyReads.{OnlyReads, reads_only_then, reads_only_more}
use Rattle.height_store.specs.Bad.{LooksAtMarks, marks_bytes}
use Rattle.height_store.specs.Found.{IsFound}
use Rattle.height_store.specs.Kept.{IsReadable}
use Rattle.height_store.specs.Store.{Store}

pub found_readable : (store : Store) (files : Files) → IsFound store files → IsReadable store.heights files
found_readable store files found = record { listed = found.listed; marks = found.marks; stacks = found.stacks files found.kept }

-- At a bad mark only the marks were looked at.
pub marks_looked : (old mid new : DiskView) (marks given heights : List ℕ) → OnlyReads 0 old mid → IsListing kind.Mark old.state.files marks → given ≡ marks → IsListing kind.Mark old.state.files heights
    → LooksAtMarks given mid new → LooksAtMarks heights old new
marks_looked old mid new marks given heights first found is wanted reads_only =
    let same : mid.state.files ≡ old.state.files = ap (λ (s : DiskState). s.files) first.state in
    let are : marks ≡ heights = listing_once kind.Mark old.state.files marks heights found wanted in
    let count : marks_bytes mid.state.files given ≡ marks_bytes old.state.files heights = λ i. marks_bytes (same i) ((is ∙ are) i) in
    reads_only_more (0 + marks_bytes mid.state.files given) (marks_bytes old.state.files heights) old new (omega (arith, count)) (reads_only_then 0 (marks_bytes mid.state.files given) old mid new first reads_only)
