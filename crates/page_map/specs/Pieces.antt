-- Ranges of bytes, page by page.
use Rattle.std.specs.Prelude.{◌≡◌, ℕ, ◌+◌, ◌-◌, ◌*◌, ◌<◌, ◌≤◌, ◌==◌, ◌&&◌, ◌||◌, nat_lt, not, Bool, min, List, [], is_some, filter, if◌then◌else◌}
use Rattle.std.specs.List.{range_with_len}
use Rattle.format_spec.specs.declared.limits.TheConstants.{PAGE_SIZE}
use Rattle.state_spec.specs.Memory.{pages_between}
use Rattle.page_map.specs.Maps.{Maps, own_at}

-- the pages that hold a byte of n bytes from a place on
abbrev pub touched_pages : ℕ → ℕ → List ℕ
touched_pages at n = if n == 0 then [] else pages_between at n

-- a page that holds a byte of these holds one besides
abbrev pub is_filled_in_part : ℕ → ℕ → ℕ → Bool
is_filled_in_part at n page = nat_lt (page * PAGE_SIZE) at || nat_lt (at + n) (page * PAGE_SIZE + PAGE_SIZE)

-- the map of an id doesn't have the page of its own
abbrev pub is_foreign : Maps → ℕ → ℕ → Bool
is_foreign maps id page = not (is_some (own_at maps id page))

-- the pages of the layers that a read of n bytes needs
abbrev pub pages_for_read : Maps → ℕ → ℕ → ℕ → List ℕ
pages_for_read maps id at n = filter (is_foreign maps id) (touched_pages at n)

-- those that a write of n bytes needs: of the first page and of the last one, where it doesn't fill them
abbrev pub pages_for_write : Maps → ℕ → ℕ → ℕ → List ℕ
pages_for_write maps id at n = filter (λ page. is_filled_in_part at n page && is_foreign maps id page) (touched_pages at n)

-- the first of the pages that hold a byte of n bytes, and the one behind the last
pub record AreTheirPages (at n first behind : ℕ) : Type 0 where
  pub order : first ≤ behind
  pub begins : first * PAGE_SIZE ≤ at
  pub soon : at < first * PAGE_SIZE + PAGE_SIZE
  pub ends : behind * PAGE_SIZE < at + n + PAGE_SIZE
  pub covers : n ≤ behind * PAGE_SIZE - at
  pub touched : touched_pages at n ≡ range_with_len first (behind - first)

-- where the bytes of a page stand among n bytes, and where they begin in the page
pub record IsPiece (at n page from to start : ℕ) : Type 0 where
  pub from_is : from ≡ page * PAGE_SIZE - at
  pub to_is : to ≡ min (page * PAGE_SIZE + PAGE_SIZE - at) n
  pub start_is : start ≡ at - page * PAGE_SIZE
