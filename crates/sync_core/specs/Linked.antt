-- Numbers in one list of linked items.
use Rattle.std.specs.Prelude.{◌≡◌, ◌<◌, ℕ, List, length}
use Rattle.slot_links.specs.Lists.{Lists, members_of, Has, IsApart, IsIn}

abbrev pub numbers_of : Lists → List ℕ
numbers_of links = members_of links 0

-- there is one list, of so many numbers below a count
pub record IsOneList (links : Lists) (count left : ℕ) : Type 0 where
  pub one : length links.members ≡ 1
  pub items : links.items ≡ count
  pub within : (n : ℕ) → Has n (numbers_of links) → n < count
  pub as_many : length (numbers_of links) ≡ left

-- the number is in the list, where none stands twice
pub record IsThere (links : Lists) (n : ℕ) : Type 0 where
  pub linked : IsIn links 0 n
  pub below : n < links.items
  pub apart : IsApart (numbers_of links)
