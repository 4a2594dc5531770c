-- What a change of the fields leaves of what a contract sees.
use Rattle.std.proofs.Common.{◌≡◌, ◌≢◌, ◌⊎◌, inl, inr, ℕ, zero, suc, ◌+◌, ◌^◌, ◌<◌, ◌≤◌, List, [], ◌∷◌, length, replicate, get_or, set, Option, Some, None, MatchOption, refl, sym, ap, ◌∙◌, arith, length-set}
use Rattle.std.proofs.lemmas.List.{get_or-set_same, get_or-set_other, get_or_default}
use Rattle.std.proofs.lemmas.Grind.{get_or-set_at}
use Rattle.format_spec.proofs.Lists.{some_once}
use Rattle.slot_links.specs.Lists.{Lists, members_of, first_of_list, successor, Has, AreDistinct, IsIn, IsUnlinked, without, lists_without}
use Rattle.slot_links.specs.Rings.{Fields, nodes_in, tabulate, follow, row_at, IsPath, AreRings, IsSound}
use Rattle.slot_links.specs.declared.links.Links.TheInside.{Inside}
use Rattle.slot_links.proofs.Paths.{follow-path, path-owner, leads-on}
use Rattle.slot_links.proofs.Tables.{length-tabulate, get-tabulate, tabulate-congr, map-tabulate, length-apart}
use Rattle.slot_links.proofs.Cuts.{IsHalfCut, rings-cut}

abbrev pub fields : Inside → Fields
fields links = record { next = links.next.items; previous = links.previous.items; owner = links.owner.items; items = links.items; lists = links.lists }

abbrev pub lists_of : ℕ → List (List ℕ) → Lists
lists_of items members = record { items = items; members = members }

-- what a contract sees of these fields
abbrev pub seen : Fields → Lists
seen f = lists_of f.items (tabulate f.lists (row_at f.next f.items))

-- what follows a list's ring meets its items
rings-row : (f : Fields) (rows : ℕ → List ℕ) → AreRings (nodes_in f) f.items f.lists rows → (k : ℕ) → k < f.lists → row_at f.next f.items k ≡ rows k
rings-row f rows rings k below =
    follow-path (nodes_in f) k f.items (f.items + k) (rows k) (f.items + k) (rings.paths k below) (λ h. let small = rings.among k below (f.items + k) h in omega arith) (length-apart (rows k) f.items (rings.apart k below) (rings.among k below))

-- rings, whatever rows they were given as, are those that the links spell
rings-same : (f : Fields) (rows : ℕ → List ℕ) → AreRings (nodes_in f) f.items f.lists rows → AreRings (nodes_in f) f.items f.lists (row_at f.next f.items)
rings-same f rows rings = record {
  forth = rings.forth;
  back = rings.back;
  alone = rings.alone;
  paths = λ k below. rw (rings-row f rows rings k below) (rings.paths k below);
  among = λ k below n has. rings.among k below n (rw (rings-row f rows rings k below) at has);
  apart = λ k below. rw (rings-row f rows rings k below) (rings.apart k below);
  owned = λ n k small mine. let r = rings.owned n k small mine in (r.0, rw (rings-row f rows rings k r.0) r.1);
}

pub sound : (f : Fields) (rows : ℕ → List ℕ) → length f.next ≡ f.items + f.lists → length f.previous ≡ f.items + f.lists → length f.owner ≡ f.items + f.lists → f.items + f.lists < 2 ^ 32 → AreRings (nodes_in f) f.items f.lists rows → IsSound f
sound f rows a b c small rings = record { next_len = a; previous_len = b; owner_len = c; small = small; rings = rings-same f rows rings }

pub seen-is : (f : Fields) (rows : ℕ → List ℕ) → AreRings (nodes_in f) f.items f.lists rows → seen f ≡ lists_of f.items (tabulate f.lists rows)
seen-is f rows rings = ap (lists_of f.items) (tabulate-congr f.lists (row_at f.next f.items) rows (rings-row f rows rings))

-- an item that a contract sees in a list is in its ring
pub seen-in : (f : Fields) (k x : ℕ) → IsIn (seen f) k x → (k < f.lists) × Has x (row_at f.next f.items k)
seen-in f k x is =
    let below : k < f.lists = omega (arith, is.0, length-tabulate f.lists (row_at f.next f.items)) in
    (below, rw (get-tabulate f.lists (row_at f.next f.items) k [] below) at is.1)

pub in-seen : (f : Fields) (k x : ℕ) → k < f.lists → Has x (row_at f.next f.items k) → IsIn (seen f) k x
in-seen f k x below has =
    (omega (arith, length-tabulate f.lists (row_at f.next f.items)), rw (get-tabulate f.lists (row_at f.next f.items) k [] below) has)

half-cut-set : (l : List ℕ) (g : ℕ → ℕ) (x a b : ℕ) → a ≡ g x → b ≡ get_or l x 0 → a < length l → x < length l → IsHalfCut (λ n. get_or l n 0) g (λ n. get_or (set (set l a b) x x) n 0) x
half-cut-set l g x a b is_a is_b a_in x_in = record {
  self = get_or-set_same (set l a b) x x 0 (omega (arith, length-set l a b));
  before = λ ne. get_or-set_other (set l a b) x (g x) x 0 ne ∙ get_or-set_at l a (g x) b 0 (sym is_a) a_in ∙ is_b;
  rest = λ n ne na. get_or-set_other (set l a b) x n x 0 ne ∙ get_or-set_other l a n b 0 (λ e. na (e ∙ is_a));
}

-- what was read at a place
pub read-is : (xs : List ℕ) (i r : ℕ) → i < length xs → r ≡ get_or xs i r → r ≡ get_or xs i 0
read-is xs i r below read = read ∙ sym (get_or_default xs i 0 r below)

-- taking an item out
module _ (f : Fields) (s : IsSound f) (x a b k : ℕ) (small : x < f.items) (is : (k < f.lists) × Has x (row_at f.next f.items k)) (read_a : a ≡ get_or f.previous x a) (read_b : b ≡ get_or f.next x b) where
  abbrev pub unlinked : Fields
  unlinked = record { next = set (set f.next a b) x x; previous = set (set f.previous b a) x x; owner = set f.owner x None; items = f.items; lists = f.lists }

  rings-unlinked : AreRings (nodes_in unlinked) f.items f.lists (λ j. without x (row_at f.next f.items j))
  rings-unlinked =
      let inside : x < f.items + f.lists = omega arith in
      let is_a : a ≡ get_or f.previous x 0 = read-is f.previous x a (omega (arith, s.previous_len)) read_a in
      let is_b : b ≡ get_or f.next x 0 = read-is f.next x b (omega (arith, s.next_len)) read_b in
      let in_a = (s.rings.back x inside).0 in
      let in_b = (s.rings.forth x inside).0 in
      let mine = path-owner (nodes_in f) k (f.items + k) (row_at f.next f.items k) (f.items + k) x (s.rings.paths k is.0) is.1 in
      rings-cut (nodes_in f) f.items f.lists (row_at f.next f.items) (nodes_in unlinked) x k
      record {
        forth = half-cut-set f.next (λ n. get_or f.previous n 0) x a b is_a is_b (omega (arith, s.next_len)) (omega (arith, s.next_len));
        back = half-cut-set f.previous (λ n. get_or f.next n 0) x b a is_b is_a (omega (arith, s.previous_len)) (omega (arith, s.previous_len));
        owner_self = get_or-set_same f.owner x None None (omega (arith, s.owner_len));
        owner_rest = λ n ne. get_or-set_other f.owner x n None None ne;
      }
      s.rings small mine

  pub sound-unlinked : IsSound unlinked
  sound-unlinked = sound unlinked (λ j. without x (row_at f.next f.items j)) (simp length-set s.next_len) (simp length-set s.previous_len) (simp length-set s.owner_len) s.small rings-unlinked

  pub seen-unlinked : seen unlinked ≡ lists_without (seen f) x
  seen-unlinked = seen-is unlinked (λ j. without x (row_at f.next f.items j)) rings-unlinked ∙ ap (lists_of f.items) (sym (map-tabulate (without x) f.lists (row_at f.next f.items)))

option_cases : (o : Option ℕ) → (o ≡ None) ⊎ ((k : ℕ) × (o ≡ Some k))
option_cases None = inl refl
option_cases (Some k) = inr (k, refl)

-- an item that no list has belongs to none
pub owner-free : (f : Fields) (x : ℕ) → IsSound f → x < f.items → IsUnlinked (seen f) x → get_or f.owner x None ≡ None
owner-free f x s small free = elim (option_cases (get_or f.owner x None)) [
  | inl e ↦ e
  | inr some ↦ let r = s.rings.owned x some.0 small some.1 in absurd (free some.0 (in-seen f some.0 x r.0 r.1))
]

-- an item of a list belongs to it
pub owner-linked : (f : Fields) (x k : ℕ) → IsSound f → IsIn (seen f) k x → get_or f.owner x None ≡ Some k
owner-linked f x k s is =
    let r = seen-in f k x is in
    path-owner (nodes_in f) k (f.items + k) (row_at f.next f.items k) (f.items + k) x (s.rings.paths k r.0) r.1

-- the items of a list, as a contract sees them
pub seen-members : (f : Fields) (k : ℕ) → k < f.lists → members_of (seen f) k ≡ row_at f.next f.items k
seen-members f k below = get-tabulate f.lists (row_at f.next f.items) k [] below

pub seen-count : (f : Fields) (k : ℕ) → k < length (seen f).members → k < f.lists
seen-count f k below = omega (arith, length-tabulate f.lists (row_at f.next f.items))

-- the node before a node, and the one after it, are nodes
pub prior-within : (f : Fields) (n r : ℕ) → IsSound f → n < f.items + f.lists → r ≡ get_or f.previous n r → r < length f.next
prior-within f n r s below read =
    let is = read-is f.previous n r (omega (arith, s.previous_len)) read in
    let within = (s.rings.back n below).0 in
    omega (arith, s.next_len)

pub next-within : (f : Fields) (n r : ℕ) → IsSound f → n < f.items + f.lists → r ≡ get_or f.next n r → r < length f.previous
next-within f n r s below read =
    let is = read-is f.next n r (omega (arith, s.next_len)) read in
    let within = (s.rings.forth n below).0 in
    omega (arith, s.previous_len)

-- what the link of a list's own node says
pub row-first : (f : Fields) (k r : ℕ) → IsSound f → k < f.lists → r ≡ get_or f.next (f.items + k) r
    → (r < f.items → Some r ≡ first_of_list (members_of (seen f) k)) × (f.items ≤ r → None ≡ first_of_list (members_of (seen f) k))
row-first f k r s below read =
    let is : r ≡ get_or f.next (f.items + k) 0 = read-is f.next (f.items + k) r (omega (arith, s.next_len)) read in
    rw (seen-members f k below) (first-cases (row_at f.next f.items k) (s.rings.paths k below) (s.rings.among k below) is)
  where
    first-cases : (xs : List ℕ) → IsPath (nodes_in f) k (f.items + k) xs (f.items + k) → ((n : ℕ) → Has n xs → n < f.items) → r ≡ get_or f.next (f.items + k) 0
        → (r < f.items → Some r ≡ first_of_list xs) × (f.items ≤ r → None ≡ first_of_list xs)
    first-cases [] path among is = ((λ low. absurd (let e = is ∙ path.0 in omega arith)), (λ high. refl))
    first-cases (x ∷ xs) path among is = ((λ low. ap Some (is ∙ path.0)), (λ high. absurd (let e = is ∙ path.0 in let low = among x (inl refl) in omega arith)))

-- what the link of an item of a list says
pub next-linked : (f : Fields) (x r k : ℕ) → IsSound f → x < f.items → r ≡ get_or f.next x r → IsIn (seen f) k x
    → (r < f.items → r ≢ x → Some r ≡ successor x (members_of (seen f) k)) × ((f.items ≤ r) ⊎ (r ≡ x) → None ≡ successor x (members_of (seen f) k))
next-linked f x r k s small read is =
    let own = seen-in f k x is in
    let at : r ≡ get_or f.next x 0 = read-is f.next x r (omega (arith, s.next_len)) read in
    rw (seen-members f k own.0) (elim (leads-on (nodes_in f) k x (f.items + k) (row_at f.next f.items k) (f.items + k) (s.rings.paths k own.0) own.1 (s.rings.apart k own.0)) [
      | inl end ↦ ((λ low ne. absurd (let e = at ∙ end.0 in omega arith)), (λ h. sym end.1))
      | inr on ↦
          let low = s.rings.among k own.0 (get_or f.next x 0) on.1 in
          ((λ low ne. ap Some at ∙ sym on.0), (λ h. absurd (elim h [ inl high ↦ omega arith | inr e ↦ on.2 (sym at ∙ e) ])))
    ])

pub next-alone : (f : Fields) (x r : ℕ) → IsSound f → x < f.items → r ≡ get_or f.next x r → IsUnlinked (seen f) x → r ≡ x
next-alone f x r s small read free = read-is f.next x r (omega (arith, s.next_len)) read ∙ s.rings.alone x small (owner-free f x s small free)

pub distinct : (f : Fields) → IsSound f → AreDistinct (seen f)
distinct f s = record {
  apart = λ k below. let in_k = seen-count f k below in rw (seen-members f k in_k) (s.rings.apart k in_k);
  single = λ x k j is also. some_once k j (get_or f.owner x None) (owner-linked f x k s is) (owner-linked f x j s also);
  within = λ x k is. let own = seen-in f k x is in s.rings.among k own.0 x own.1;
}

-- what was read of an item's list
pub owner-read : (f : Fields) (x : ℕ) (r : Option ℕ) → IsSound f → x < f.items → r ≡ get_or f.owner x r → r ≡ get_or f.owner x None
owner-read f x r s small read = read ∙ sym (get_or_default f.owner x None r (omega (arith, s.owner_len)))

pub owner-cases : (f : Fields) (x : ℕ) (r : Option ℕ) → IsSound f → x < f.items → r ≡ get_or f.owner x None → MatchOption r (IsUnlinked (seen f) x) (λ k. IsIn (seen f) k x)
owner-cases f x None s small read = λ k is. (let bad : None ≡ Some k = read ∙ owner-linked f x k s is in let no : ⊥ = cc in no)
owner-cases f x (Some k) s small read = let own = s.rings.owned x k small (sym read) in in-seen f k x own.0 own.1

empty-rows : (n : ℕ) → tabulate {T = List ℕ} n (λ k. []) ≡ replicate n []
empty-rows zero = refl
empty-rows (suc n) = ap (λ (rest : List (List ℕ)). [] ∷ rest) (empty-rows n)

-- each node is a ring of its own
pub record AreAlone (f : Fields) : Type 0 where
  pub next : (n : ℕ) → n < f.items + f.lists → get_or f.next n 0 ≡ n
  pub previous : (n : ℕ) → n < f.items + f.lists → get_or f.previous n 0 ≡ n
  pub items : (n : ℕ) → n < f.items → get_or f.owner n None ≡ None
  pub lists : (k : ℕ) → k < f.lists → get_or f.owner (f.items + k) None ≡ Some k

-- then the lists are empty
rings-new : (f : Fields) → AreAlone f → AreRings (nodes_in f) f.items f.lists (λ k. [])
rings-new f new = record {
  forth = λ n below. rw (new.next n below) (below, new.previous n below);
  back = λ n below. rw (new.previous n below) (below, new.next n below);
  alone = λ n below free. new.next n (omega arith);
  paths = λ k below. (new.next (f.items + k) (omega arith), new.lists k below);
  among = λ k below n has. absurd has;
  apart = λ k below. tt;
  owned = λ n k below own. (let bad : Some k ≡ None = sym own ∙ new.items n below in let no : ⊥ = cc in absurd no);
}

pub sound-new : (f : Fields) → AreAlone f → length f.next ≡ f.items + f.lists → length f.previous ≡ f.items + f.lists → length f.owner ≡ f.items + f.lists → f.items + f.lists < 2 ^ 32 → IsSound f
sound-new f new a b c small = sound f (λ k. []) a b c small (rings-new f new)

pub seen-new : (f : Fields) → AreAlone f → seen f ≡ lists_of f.items (replicate f.lists [])
seen-new f new = seen-is f (λ k. []) (rings-new f new) ∙ ap (lists_of f.items) (empty-rows f.lists)
