-- The values of the worked examples.
use Rattle.std.specs.Prelude.{ℕ, [], ◌∷◌, replicate}
use Rattle.format_spec.specs.Bytes.{Bytes}
use Rattle.page_spec.specs.PageFile.{PageIndex}
use Rattle.page_spec.specs.Layers.{Layer}

-- pages 2, 3 and 7 of a memory of 10
abbrev pub three_pages : PageIndex
three_pages = record { memory = 10; numbers = 2 ∷ 3 ∷ 7 ∷ [] }

-- the one page of a memory
abbrev pub one_page : PageIndex
one_page = record { memory = 1; numbers = 0 ∷ [] }

-- the first page of a heap: the byte 1, and zeros
abbrev pub first_page : Bytes
first_page = 1 ∷ replicate 4095 0

-- a layer of the first page, which begins with this byte
abbrev pub layer_with : ℕ → Layer
layer_with byte = record { index = one_page; pages = byte ∷ replicate 4095 0 }
