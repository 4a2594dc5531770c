-- What contracts see of maps.
use Rattle.std.specs.Prelude.{ℕ, ◌==◌, nat_lt, Bool, false, List, [], ◌∷◌, Option, Some, None, option_map, slice_index_or, if◌then◌else◌}
use Rattle.format_spec.specs.Bytes.{Bytes}
use Rattle.page_file.specs.Files.{NumberedFile}

-- a page that a map has of its own, and the stamp that it was written with
pub record OwnPage : Type 0 where
  pub bytes : Bytes
  pub stamp : ℕ

-- the pages that a map has of its own, by rising number
abbrev pub OwnPages : Type 0
OwnPages = List (ℕ × OwnPage)

-- what is seen of `Pages`: the own pages of each live id
pub record Maps : Type 0 where
  pub own : List (Option OwnPages)

-- what is seen of a `PageMap`
pub record Map : Type 0 where
  pub id : ℕ
  pub stack : List NumberedFile
  pub length : ℕ

-- the pages of an id, if it is live
abbrev pub owns_at : Maps → ℕ → Option OwnPages
owns_at maps id = slice_index_or maps.own id None

abbrev pub owns_in : Option OwnPages → OwnPages
owns_in None = []
owns_in (Some owns) = owns

abbrev pub own_in : ℕ → OwnPages → Option OwnPage
own_in page [] = None
own_in page (first ∷ rest) = if page == first.0 then Some first.1 else own_in page rest

-- a page that the map of an id has of its own, if it has that
abbrev pub own_at : Maps → ℕ → ℕ → Option OwnPage
own_at maps id page = own_in page (owns_in (owns_at maps id))

-- the stamp of a page, if the map has one of its own
abbrev pub stamp_of : Option OwnPage → Option ℕ
stamp_of own = option_map (λ o. o.stamp) own

-- a page of the map's own with a stamp above b
abbrev pub is_after : ℕ → Option OwnPage → Bool
is_after b None = false
is_after b (Some own) = nat_lt b own.stamp

-- the page, if its stamp is above b
abbrev pub if_after : ℕ → Option OwnPage → Option OwnPage
if_after b None = None
if_after b (Some own) = if nat_lt b own.stamp then Some own else None
