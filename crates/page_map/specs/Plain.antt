-- What a map has, apart from the id under which its own pages are kept.
use Rattle.std.specs.Prelude.{◌≡◌, ℕ, List, Option}
use Rattle.format_spec.specs.Bytes.{Bytes}
use Rattle.page_spec.specs.Layers.{Layer}
use Rattle.page_file.specs.Files.{NumberedFile}
use Rattle.page_map.specs.Maps.{OwnPages, Maps, Map, own_in, owns_at, owns_in, stamp_of}
use Rattle.page_map.specs.Reads.{bytes_with}

-- layers oldest first, a count of pages, and the pages of its own
pub record PlainMap : Type 0 where
  pub stack : List NumberedFile
  pub length : ℕ
  pub own : OwnPages

abbrev pub plain : Maps → Map → PlainMap
plain maps m = record { stack = m.stack; length = m.length; own = owns_in (owns_at maps m.id) }

-- all bytes, over what its layers have
abbrev pub plain_bytes : List Layer → PlainMap → Bytes
plain_bytes layers m = bytes_with layers (λ page. own_in page m.own) m.length

-- the stamp of a page of its own
abbrev pub stamp_at : PlainMap → ℕ → Option ℕ
stamp_at m page = stamp_of (own_in page m.own)

-- two maps have the same
pub record SameMap (m n : PlainMap) : Type 0 where
  pub stack : m.stack ≡ n.stack
  pub length : m.length ≡ n.length
  pub own : (page : ℕ) → own_in page m.own ≡ own_in page n.own
