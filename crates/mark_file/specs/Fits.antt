-- What writing a mark needs.
use Rattle.std.specs.Prelude.{◌<◌, ◌^◌, length}
use Rattle.std.specs.List.{AllByRecursion}
use Rattle.store_spec.specs.Mark.{Mark}

-- the length of the system text and the numbers of layers fit four bytes
pub record FitsText (m : Mark) : Type 0 where
  pub system : length m.system < 2 ^ 32
  pub layers : AllByRecursion (λ memory. length memory.layers < 2 ^ 32) m.memories
