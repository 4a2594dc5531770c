-- Entries from one place up to another, by what is left of their paths at a depth.
use Rattle.std.specs.Prelude.{◌≡◌, ◌⊎◌, ◌<◌, ◌≤◌, ◌-◌, ℕ, List, [], ◌∷◌, map, take, drop, length, Option, Some, None, slice_get}
use Rattle.std.specs.List.{AllByRecursion}
use Rattle.std.specs.declared.cmp.Ordering.TheVariants.{Less}
use Rattle.format_spec.specs.Bytes.{Bytes, bytes_cmp}

abbrev pub Entries : Type 0
Entries = List (List Bytes × Bytes)

-- the entry without its first so many labels
abbrev pub behind : ℕ → List Bytes × Bytes → List Bytes × Bytes
behind depth e = (drop depth e.0, e.1)

-- the entries from one place up to another, without their first so many labels
abbrev pub level : ℕ → ℕ → ℕ → Entries → Entries
level depth from to es = map (behind depth) (take (to - from) (drop from es))

abbrev pub label_at : ℕ → Option (List Bytes × Bytes) → Option Bytes
label_at depth None = None
label_at depth (Some e) = slice_get e.0 depth

-- the label at this depth of the i-th entry
abbrev pub label_in : ℕ → ℕ → Entries → Option Bytes
label_in depth i es = label_at depth (slice_get es i)

-- ---- order

-- at the first label that differs, p has the lower one; neither path begins the other
abbrev pub Before : List Bytes → List Bytes → Type 0
Before [] q = ⊥
Before (l ∷ p) [] = ⊥
Before (l ∷ p) (m ∷ q) = (bytes_cmp l m ≡ Less) ⊎ ((l ≡ m) × Before p q)

-- each path before all later ones
abbrev pub AreInOrder : Entries → Type 0
AreInOrder [] = Unit {0}
AreInOrder (e ∷ es) = AllByRecursion (λ f. Before e.0 f.0) es × AreInOrder es

-- in order, and each path has a label
pub record IsLevel (es : Entries) : Type 0 where
  pub in_order : AreInOrder es
  pub labels : AllByRecursion (λ e. 0 < length e.0) es

-- ---- first labels

-- the path begins with this label
pub record HasFirst (l : Bytes) (e : List Bytes × Bytes) : Type 0 where
  pub rest : List Bytes
  pub is : e.0 ≡ l ∷ rest

-- it begins with a label below this one
pub record IsBelow (l : Bytes) (e : List Bytes × Bytes) : Type 0 where
  pub label : Bytes
  pub has : HasFirst label e
  pub less : bytes_cmp label l ≡ Less

-- it begins with a label above this one
pub record IsAbove (l : Bytes) (e : List Bytes × Bytes) : Type 0 where
  pub label : Bytes
  pub has : HasFirst label e
  pub greater : bytes_cmp l label ≡ Less

-- it doesn't begin with this label
abbrev pub Misses : Bytes → List Bytes × Bytes → Type 0
Misses l e = (p : List Bytes) → e.0 ≡ l ∷ p → ⊥

-- one label is the first of all these
pub record IsGroup (es : Entries) : Type 0 where
  pub label : Bytes
  pub all : AllByRecursion (HasFirst label) es

-- from one place up to the end one label is the first, and behind it up to another place higher ones are
pub record EndsLabel (depth from end to : ℕ) (es : Entries) : Type 0 where
  pub some : from < end
  pub within : end ≤ to
  pub label : Bytes
  pub here : AllByRecursion (HasFirst label) (level depth from end es)
  pub behind : AllByRecursion (IsAbove label) (level depth end to es)

-- up to this place first labels are below the label, from there on above it
pub record Parts (l : Bytes) (from place : ℕ) (es : Entries) : Type 0 where
  pub later : from ≤ place
  pub within : place ≤ length es
  pub below : AllByRecursion (IsBelow l) (level 0 from place es)
  pub above : AllByRecursion (IsAbove l) (level 0 place (length es) es)
