-- What a call makes of the map that it is given.
use Rattle.std.specs.Prelude.{◌≡◌, ℕ, ◌*◌, ◌<◌, false, List, ◌++◌, take, drop, reverse, Some, if◌then◌else◌}
use Rattle.format_spec.specs.Bytes.{Bytes}
use Rattle.format_spec.specs.declared.limits.TheConstants.{PAGE_SIZE}
use Rattle.state_spec.specs.Memory.{with_bytes_at, zeros}
use Rattle.page_spec.specs.Layers.{Layer, page_from, has_page}
use Rattle.disk_model.specs.Files.{Files}
use Rattle.layer_stack.specs.Stacks.{AreLayers}
use Rattle.page_map.specs.Maps.{Maps, Map, own_at, stamp_of, is_after}
use Rattle.page_map.specs.Reads.{page_of, bytes_of}
use Rattle.page_map.specs.Pieces.{touched_pages}

-- over the layers that these files have, these are so many bytes of a map, from a place on
abbrev pub ReadsFrom : Files → Maps → Map → ℕ → ℕ → Bytes → Type 0
ReadsFrom files maps m at count bytes = (layers : List Layer) → AreLayers files m.stack layers → bytes ≡ take count (drop at (bytes_of layers maps m))

-- layers and count of pages are the same
abbrev pub SameShape : Map → Map → Type 0
SameShape m n = (n.stack ≡ m.stack) × (n.length ≡ m.length)

-- over the layers that these files have, the bytes from a place on are w, and all others are as before
abbrev pub Overwrites : Files → Maps → Maps → Map → Map → ℕ → Bytes → Type 0
Overwrites files old new m n at w = (layers : List Layer) → AreLayers files m.stack layers → bytes_of layers new n ≡ with_bytes_at (bytes_of layers old m) at w

-- the pages that hold a byte of so many from a place on have this stamp, and all others are as before
abbrev pub Stamps : Maps → Maps → Map → Map → ℕ → ℕ → ℕ → Type 0
Stamps old new m n at count stamp = (page : ℕ) → stamp_of (own_at new n.id page) ≡ (if has_page page (touched_pages at count) then Some stamp else stamp_of (own_at old m.id page))

-- over the layers that files have, so many pages of zeros stand behind the bytes from before
abbrev pub Grows : Maps → Map → Map → ℕ → Type 0
Grows maps m n count = (files : Files) (layers : List Layer) → AreLayers files m.stack layers → bytes_of layers maps n ≡ bytes_of layers maps m ++ zeros (count * PAGE_SIZE)

-- the layers have each page that has no stamp above b as the map reads
abbrev pub HaveRest : List Layer → List Layer → Maps → Map → ℕ → Type 0
HaveRest old new maps m b = (page : ℕ) → page < m.length → is_after b (own_at maps m.id page) ≡ false → page_from (reverse new) page ≡ page_of old (own_at maps m.id page) page

-- over such layers a map reads as the other one did over the old ones
abbrev pub Rebases : Maps → Maps → Map → Map → ℕ → Type 0
Rebases old new m n b = (before after : List Layer) → HaveRest before after old m b → bytes_of after new n ≡ bytes_of before old m

-- both layers have the same pages below a count
abbrev pub ReadAlike : ℕ → List Layer → List Layer → Type 0
ReadAlike count layers others = (page : ℕ) → page < count → page_from (reverse layers) page ≡ page_from (reverse others) page
