-- Entries in ascending order of their keys: where a key stands, and changes at one place.
use Rattle.std.specs.Prelude.{◌≡◌, ℕ, List, ◌∷◌, ◌++◌, length, Some, None, Result, Ok, Err}
use Rattle.std.specs.List.{AllByRecursion, count_by}
use Rattle.std.specs.FinMap.{find}
use Rattle.std.specs.Ordering.{is_lt}
use Rattle.std.specs.declared.cmp.Ordering.{Ordering}
use Rattle.std.specs.declared.cmp.Ordering.TheVariants.{Less}

-- how many entries have a key below this one
abbrev pub place_of : {K X : Type 0} → (K → K → Ordering) → K → List (K × X) → ℕ
place_of R key es = count_by (λ e. is_lt (R e.0 key)) es

-- the entry at place i is this one
pub record IsAt {X : Type 0} (es : List X) (i : ℕ) (e : X) : Type 0 where
  pub before : List X
  pub after : List X
  pub split : es ≡ before ++ e ∷ after
  pub count : length before ≡ i

-- between the entries before place i and those from there on
pub record IsBetween {X : Type 0} (es : List X) (i : ℕ) : Type 0 where
  pub before : List X
  pub after : List X
  pub split : es ≡ before ++ after
  pub count : length before ≡ i

-- what stood at place i is gone, these have come in its place, and the other entries stay
pub record Replaces {X : Type 0} (old new : List X) (i : ℕ) (gone come : List X) : Type 0 where
  pub before : List X
  pub after : List X
  pub old_is : old ≡ before ++ (gone ++ after)
  pub new_is : new ≡ before ++ (come ++ after)
  pub count : length before ≡ i

-- the i-th entry has the key, with this value
pub record Stands {K X : Type 0} (R : K → K → Ordering) (key : K) (es : List (K × X)) (i : ℕ) : Type 0 where
  pub value : X
  pub found : find R key es ≡ Some value
  pub at : IsAt es i (key, value)
  pub place : place_of R key es ≡ i

-- no entry has the key, which would come before the i-th one
pub record IsAbsent {K X : Type 0} (R : K → K → Ordering) (key : K) (es : List (K × X)) (i : ℕ) : Type 0 where
  pub found : find R key es ≡ None
  pub at : IsBetween es i
  pub lower : AllByRecursion (λ e. R e.0 key ≡ Less) at.before
  pub higher : AllByRecursion (λ e. R key e.0 ≡ Less) at.after
  pub place : place_of R key es ≡ i

-- what a search for a key answers
abbrev pub Places : {K X : Type 0} → (K → K → Ordering) → K → List (K × X) → Result ℕ ℕ → Type 0
Places R key es (Ok i) = Stands R key es i
Places R key es (Err i) = IsAbsent R key es i
