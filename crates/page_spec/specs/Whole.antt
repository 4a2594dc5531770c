-- Layers that have all bytes of their pages, and how long what they give is.
use Rattle.std.specs.Prelude.{◌≡◌, ℕ, ◌*◌, ◌<◌, ◌==◌, List, [], ◌∷◌, length, reverse, position, Option, Some, None}
use Rattle.std.specs.List.{AllByRecursion, flat_map, range_with_len}
use Rattle.std.proofs.Common.{zero, suc, ◌+◌, drop, refl, arith}
use Rattle.std.proofs.lemmas.List.{length-append, length-drop, length-replicate, length-take}
use Rattle.std.proofs.lemmas.List.Quantifiers.{position-Some}
use Rattle.format_spec.specs.Bytes.{Bytes, page_at}
use Rattle.format_spec.specs.declared.limits.TheConstants.{PAGE_SIZE}
use Rattle.format_spec.proofs.Lists.{all_reversed}
use Rattle.page_spec.specs.Layers.{Layer, page_from, memory_from}

-- a layer has all bytes of its pages
abbrev pub IsWhole : Layer → Type 0
IsWhole l = length l.pages ≡ PAGE_SIZE * length l.index.numbers

-- a page that layers give, newest first
pub length-page_from : (layers : List Layer) (page : ℕ) → AllByRecursion IsWhole layers → length (page_from layers page) ≡ PAGE_SIZE
length-page_from [] page whole = length-replicate {A = ℕ} PAGE_SIZE 0
length-page_from (l ∷ older) page whole = go (length-page_from older page whole.1) (position (λ p. p == page) l.index.numbers) refl
  where
    page_long : (pages : Bytes) (place count : ℕ) → length pages ≡ PAGE_SIZE * count → place < count → length (page_at pages place) ≡ PAGE_SIZE
    page_long pages place count whole within = omega (arith, whole, within, length-take PAGE_SIZE (drop (place * PAGE_SIZE) pages), length-drop (place * PAGE_SIZE) pages)

    go : length (page_from older page) ≡ PAGE_SIZE → (at : Option ℕ) → position (λ p. p == page) l.index.numbers ≡ at → length (page_from (l ∷ older) page) ≡ PAGE_SIZE
    go rest None e = rw e rest
    go rest (Some place) e = rw e (page_long l.pages place (length l.index.numbers) whole.0 (position-Some (λ p. p == page) l.index.numbers place 0 e).0)

-- the same of layers oldest first
pub length-newest_page : (layers : List Layer) (page : ℕ) → AllByRecursion IsWhole layers → length (page_from (reverse layers) page) ≡ PAGE_SIZE
length-newest_page layers page whole = length-page_from (reverse layers) page (all_reversed IsWhole layers whole)

-- pages one behind the other
pub length-pages : (f : ℕ → Bytes) → ((page : ℕ) → length (f page) ≡ PAGE_SIZE) → (first count : ℕ) → length (flat_map f (range_with_len first count)) ≡ count * PAGE_SIZE
length-pages f each first zero = refl
length-pages f each first (suc n) =
    let here = each first in
    let rest = length-pages f each (first + 1) n in
    omega (arith, here, rest, length-append (f first) (flat_map f (range_with_len (first + 1) n)))

-- a memory of so many pages
pub length-memory_from : (count : ℕ) (layers : List Layer) → AllByRecursion IsWhole layers → length (memory_from count layers) ≡ count * PAGE_SIZE
unfolding memory_from
length-memory_from count layers whole = length-pages (page_from (reverse layers)) (λ page. length-newest_page layers page whole) 0 count
