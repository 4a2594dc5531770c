-- What a map reads as.
use Rattle.std.specs.Prelude.{◌≡◌, ℕ, ◌<◌, ◌≤◌, List, length, reverse, filter, Option, Some, None, IsSome}
use Rattle.std.specs.List.{flat_map, range_with_len}
use Rattle.format_spec.specs.Bytes.{Bytes}
use Rattle.format_spec.specs.declared.limits.TheConstants.{PAGE_SIZE, MAX_MEMORY_PAGES}
use Rattle.page_spec.specs.Layers.{Layer, page_from}
use Rattle.layer_stack.specs.Stacks.{EndBy}
use Rattle.page_map.specs.Maps.{OwnPage, Maps, Map, owns_at, own_at, is_after}

-- a page: the map's own, or that of the newest layer that has it, or zeros; the layers oldest first
abbrev pub page_of : List Layer → Option OwnPage → ℕ → Bytes
page_of layers None page = page_from (reverse layers) page
page_of layers (Some own) page = own.bytes

-- so many pages
unfoldable pub bytes_with : List Layer → (ℕ → Option OwnPage) → ℕ → Bytes
bytes_with layers own count = flat_map (λ page. page_of layers (own page) page) (range_with_len 0 count)

-- all bytes of a map, over the layers of its stack
abbrev pub bytes_of : List Layer → Maps → Map → Bytes
bytes_of layers maps m = bytes_with layers (own_at maps m.id) m.length

-- the pages whose stamp is above b, ascending
unfoldable pub dirty_of : Maps → Map → ℕ → List ℕ
dirty_of maps m b = filter (λ page. is_after b (own_at maps m.id page)) (range_with_len 0 m.length)

-- each page of its own is whole
abbrev pub AreWhole : (ℕ → Option OwnPage) → Type 0
AreWhole own = (page : ℕ) (o : OwnPage) → own page ≡ Some o → length o.bytes ≡ PAGE_SIZE

-- A map is live: its own pages are there, and they and those of its layers are below its length.
pub record IsLive (maps : Maps) (m : Map) : Type 0 where
  pub live : IsSome (owns_at maps m.id)
  pub whole : AreWhole (own_at maps m.id)
  pub within : (page : ℕ) (o : OwnPage) → own_at maps m.id page ≡ Some o → page < m.length
  pub layers_within : EndBy m.length m.stack
  pub few : m.length ≤ MAX_MEMORY_PAGES
