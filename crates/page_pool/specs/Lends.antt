-- What a `PagePool` ends as, where a `&mut` to one of its pages is returned.
use Rattle.std.specs.Prelude.{ℕ, List}
use Rattle.std.specs.Borrow.{Lends, Fml, MutBor, Array, u8}
use Rattle.page_pool.specs.Pool.{Pool, with_bytes}
use Rattle.page_pool.specs.contracts.pool.PagePool.{the_row}

-- once the borrow r ends, the slot has the bytes last written through r
abbrev pub lends_page : MutBor Pool → ℕ → MutBor (List ℕ) → Fml
lends_page pool slot r = Lends the_row (Array u8 4096) pool r (with_bytes pool.now slot)
