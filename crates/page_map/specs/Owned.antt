-- The pages of maps in a pool. No public clause cites this module.
use Rattle.std.specs.Prelude.{map, Option, option_map}
use Rattle.page_pool.specs.Pool.{Pool, bytes_at}
use Rattle.page_delta.specs.declared.entry.Entry.{Entry}
use Rattle.page_delta.specs.Delta.{Pages, Deltas}
use Rattle.page_map.specs.Maps.{OwnPage, OwnPages, Maps}

abbrev pub own_page : Pool → Entry → OwnPage
own_page pool entry = record { bytes = bytes_at pool entry.slot; stamp = entry.stamp }

abbrev pub own_pages : Pool → Pages → OwnPages
own_pages pool pages = map (λ e. (e.0, own_page pool e.1)) pages

abbrev pub some_own_pages : Pool → Option Pages → Option OwnPages
some_own_pages pool pages = option_map (own_pages pool) pages

-- the pages of each map, with their bytes
abbrev pub maps_in : Pool → Deltas → Maps
maps_in pool deltas = record { own = map (some_own_pages pool) deltas.maps }
