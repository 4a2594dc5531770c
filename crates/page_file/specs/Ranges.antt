-- Ranges of page numbers, as a page file has them at its front.
use Rattle.std.specs.Prelude.{◌≡◌, ℕ, zero, suc, take, drop, ◌+◌, ◌≤◌, ◌==◌, ◌&&◌, nat_le, Bool, true, List, [], ◌∷◌, ◌++◌}
use Rattle.std.specs.List.{range_with_len}
use Rattle.std.specs.Int.{w32, from_be_bytes}
use Rattle.format_spec.specs.Bytes.{Bytes, be32}
use Rattle.format_spec.specs.declared.limits.TheConstants.{INDEX_RANGE}
use Rattle.page_file.specs.declared.range.Range.{Range}

-- the pages of these ranges
abbrev pub numbers_in : List Range → List ℕ
numbers_in [] = []
numbers_in (r ∷ rs) = range_with_len r.first r.length ++ numbers_in rs

-- first page and length of each
abbrev pub runs_in : List Range → List (ℕ × ℕ)
runs_in [] = []
runs_in (r ∷ rs) = (r.first, r.length) ∷ runs_in rs

-- the range may stand where this page is the least that it may begin at, and so many pages stand before it
abbrev pub stands : ℕ → ℕ → ℕ → Range → Bool
stands memory least place r = nat_le least r.first && nat_le 1 r.length && nat_le (r.first + r.length) memory && r.place == place

-- the ranges ascend from this page on, within the memory; none is empty, they neither overlap nor touch, and each has
-- the number of pages before it as its place
abbrev pub are_ranges : ℕ → ℕ → ℕ → List Range → Bool
are_ranges memory least place [] = true
are_ranges memory least place (r ∷ rs) = stands memory least place r && are_ranges memory (r.first + r.length + 1) (place + r.length) rs

-- the same as facts
abbrev pub AreRanges : ℕ → ℕ → ℕ → List Range → Type 0
AreRanges memory least place [] = Unit {0}
AreRanges memory least place (r ∷ rs) =
    (least ≤ r.first) × (1 ≤ r.length) × (r.first + r.length ≤ memory) × (r.place ≡ place)
    × AreRanges memory (r.first + r.length + 1) (place + r.length) rs

-- a range in its bytes
abbrev pub range_text : Range → Bytes
range_text r = be32 r.first ++ be32 r.length ++ be32 r.place

-- the range that a text begins with, and so many of them
abbrev pub range_from : Bytes → Range
range_from s = record {
  first = from_be_bytes w32 (take 4 s);
  length = from_be_bytes w32 (take 4 (drop 4 s));
  place = from_be_bytes w32 (take 4 (drop 8 s));
}

abbrev pub ranges_from : ℕ → Bytes → List Range
ranges_from zero s = []
ranges_from (suc n) s = range_from s ∷ ranges_from n (drop INDEX_RANGE s)

abbrev pub text_of : List Range → Bytes
text_of [] = []
text_of (r ∷ rs) = range_text r ++ text_of rs
