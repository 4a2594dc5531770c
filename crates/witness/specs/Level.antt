-- The entries of a level, one after the other.
use Rattle.std.specs.Prelude.{◌||◌, true, false, List, [], ◌∷◌, fold, Option, Some, None}
use Rattle.std.specs.declared.cmp.Ordering.{Ordering}
use Rattle.std.specs.declared.cmp.Ordering.TheVariants.{Less, Equal, Greater}
use Rattle.format_spec.specs.Bytes.{Bytes, bytes_cmp}
use Rattle.tree_spec.specs.Tree.{Tree, leaf}
use Rattle.witness.specs.declared.level.Scan.{Scan}
use Rattle.witness.specs.declared.level.Contents.{Contents}
use Rattle.witness.specs.declared.level.Contents.TheVariants.{Nothing, OneLeaf, Others}

-- an entry on this side of the label
abbrev pub scan_side : Ordering → Scan → Scan
scan_side Less s = record { gap = s.gap; below = true }
scan_side Equal s = record { gap = s.gap; below = false }
scan_side Greater s = record { gap = s.gap || s.below; below = false }

abbrev pub scan_entry : Bytes → Scan → Option Bytes → Scan
scan_entry l s None = record { gap = s.gap; below = false }
scan_entry l s (Some k) = scan_side (bytes_cmp k l) s

abbrev pub scan_all : Bytes → List (Option Bytes) → Scan → Scan
scan_all l entries s = fold (scan_entry l) s entries

abbrev pub contents_of : List Tree → Contents
contents_of [] = Nothing
contents_of (leaf bytes ∷ []) = OneLeaf
contents_of _ = Others

-- the contents of one level behind another
abbrev pub joined_of : Contents → Contents → Contents
joined_of Nothing right = right
joined_of OneLeaf Nothing = OneLeaf
joined_of OneLeaf OneLeaf = Others
joined_of OneLeaf Others = Others
joined_of Others right = Others
