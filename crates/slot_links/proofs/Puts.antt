-- What putting an item into a list leaves of the fields.
use Rattle.std.proofs.Common.{◌≡◌, ◌≢◌, ℕ, ◌+◌, ◌<◌, List, [], ◌∷◌, ◌++◌, length, get_or, set, length-set, Option, Some, None, refl, sym, ap, subst, ◌∙◌, arith}
use Rattle.std.proofs.lemmas.List.{get_or-set_same, get_or-set_other}
use Rattle.format_spec.proofs.Lists.{none_or_some}
use Rattle.slot_links.specs.Lists.{Lists, members_of, Has, IsUnlinked, with_members}
use Rattle.slot_links.specs.Rings.{Fields, Nodes, nodes_in, row_at, IsPath, IsSound}
use Rattle.slot_links.proofs.Cuts.{ring-forth}
use Rattle.slot_links.proofs.Joins.{IsHalfJoin, IsJoin, MayJoin, rings-join, path-back, path-front, path-end, joined-back, joined-front}
use Rattle.slot_links.proofs.Paths.{AreInverse, path-start}
use Rattle.slot_links.proofs.Sound.{lists_of, seen, seen-count, seen-members, seen-is, sound, in-seen, owner-free, read-is, prior-within, next-within}
use Rattle.slot_links.proofs.Tables.{put as put_row, set-tabulate}

-- the links of one direction, when they are set so that x stands between `a` and `t`
half-join-set : (l : List ℕ) (x a t : ℕ) → a ≢ x → a < length l → x < length l → IsHalfJoin (λ n. get_or l n 0) (λ n. get_or (set (set l a x) x t) n 0) x a t
half-join-set l x a t apart in_a in_x = record {
  before = get_or-set_other (set l a x) x a t 0 apart ∙ get_or-set_same l a x 0 in_a;
  self = get_or-set_same (set l a x) x t 0 (omega (arith, length-set l a x));
  rest = λ n na ne. get_or-set_other (set l a x) x n t 0 ne ∙ get_or-set_other l a n x 0 na;
}

-- an item that is in no list, and a list that `v` shows
abbrev pub IsFree : Fields → Lists → ℕ → ℕ → Type 0
IsFree f v k x = (seen f ≡ v) × IsSound f × (k < length v.members) × (x < v.items) × IsUnlinked v x

module _ (f : Fields) (v : Lists) (k x : ℕ) (put : IsFree f v k x) where
  is : seen f ≡ v
  is = put.0

  s : IsSound f
  s = put.1

  free : IsUnlinked v x
  free = put.4

  abbrev row : List ℕ
  row = row_at f.next f.items k

  abbrev begin : ℕ
  begin = f.items + k

  abbrev nodes : Nodes
  nodes = nodes_in f

  pub in-lists : k < f.lists
  in-lists = seen-count f k (rw (← is) at put.2)

  pub small : x < f.items
  small = rw (← is) at put.3

  owns_none : nodes.owner x ≡ None
  owns_none = owner-free f x s small (rw (← is) at free)

  absent : Has x row → ⊥
  absent h = (rw (← is) at free) k (in-seen f k x in-lists h)

  old : IsPath nodes k begin row begin
  old = s.rings.paths k in-lists

  forth : AreInverse nodes (begin ∷ row)
  forth = ring-forth nodes f.items f.lists (row_at f.next f.items) s.rings k in-lists

  -- the fields when x stands between the nodes `a` and `t`
  abbrev pub linked : ℕ → ℕ → Fields
  linked a t = record { next = set (set f.next a x) x t; previous = set (set f.previous t x) x a; owner = set f.owner x (Some k); items = f.items; lists = f.lists }

  abbrev IsLinkedIn : ℕ → ℕ → Type 0
  IsLinkedIn a t = IsJoin nodes (nodes_in (linked a t)) x a t k

  -- then the fields are sound, and show the list as this one
  abbrev pub IsPut : ℕ → ℕ → List ℕ → Type 0
  IsPut a t now = IsSound (linked a t) × (seen (linked a t) ≡ with_members v k now)

  joined : (a t : ℕ) (now : List ℕ) → a ≢ x → t ≢ x → t < f.items + f.lists → MayJoin nodes f.items f.lists x a t k row now → (IsLinkedIn a t → IsPath (nodes_in (linked a t)) k begin now begin) → IsPut a t now
  joined a t now apart far in_t may path =
      let low = small in
      let join : IsLinkedIn a t = record {
        forth = half-join-set f.next x a t apart (omega (arith, s.next_len, may.in_a)) (omega (arith, s.next_len));
        back = half-join-set f.previous x t a far (omega (arith, s.previous_len, in_t)) (omega (arith, s.previous_len));
        owner_self = get_or-set_same f.owner x (Some k) None (omega (arith, s.owner_len));
        owner_rest = λ n ne. get_or-set_other f.owner x n (Some k) None ne;
      } in
      let rows = put_row (row_at f.next f.items) k now in
      let rings = rings-join nodes (nodes_in (linked a t)) f.items f.lists x a t k (row_at f.next f.items) now join s.rings may (path join) in (
        sound (linked a t) rows (simp length-set s.next_len) (simp length-set s.previous_len) (simp length-set s.owner_len) s.small rings,
        rw (← is) (seen-is (linked a t) rows rings ∙ ap (lists_of f.items) (sym (set-tabulate f.lists (row_at f.next f.items) k now))),
      )

  row-is : members_of v k ≡ row
  row-is = rw (← is) (seen-members f k in-lists)

  pub put-back : (a : ℕ) → a ≡ get_or f.previous begin a → IsPut a begin (members_of v k ++ x ∷ [])
  put-back a read =
      let below = in-lists in
      let low = small in
      let in_t : begin < f.items + f.lists = omega arith in
      let is_a : a ≡ nodes.previous begin = read-is f.previous begin a (omega (arith, s.previous_len)) read in
      let end : nodes.next a ≡ begin = ap nodes.next is_a ∙ (s.rings.back begin in_t).1 in
      let mine : nodes.owner a ≡ Some k = ap nodes.owner is_a ∙ path-end nodes k begin row begin old forth in
      rw row-is (joined a begin (row ++ x ∷ []) (λ e. none_or_some k (nodes.owner x) owns_none (ap nodes.owner (sym e) ∙ mine)) (λ e. omega arith) in_t
      record {
        small = small;
        free = owns_none;
        in_k = in-lists;
        in_a = subst (λ m. m < f.items + f.lists) (sym is_a) (s.rings.back begin in_t).0;
        is_t = end;
        mine = mine;
        joined = joined-back x row absent (s.rings.apart k in-lists);
      }
      (λ join. path-back nodes (nodes_in (linked a begin)) f.items f.lists x a begin k (row_at f.next f.items) begin row begin join is_a refl end owns_none (λ h. let less = s.rings.among k in-lists begin h in omega arith) forth old))

  pub put-front : (t : ℕ) → t ≡ get_or f.next begin t → IsPut begin t (x ∷ members_of v k)
  put-front t read =
      let below = in-lists in
      let low = small in
      let in_a : begin < f.items + f.lists = omega arith in
      let is_t : t ≡ nodes.next begin = read-is f.next begin t (omega (arith, s.next_len)) read in
      let apart : begin ≢ x = λ e. omega arith in
      let far : t ≢ x = λ e. apart (sym (s.rings.forth begin in_a).1 ∙ ap nodes.previous (sym is_t ∙ e ∙ sym (s.rings.alone x small owns_none)) ∙ (s.rings.forth x (omega arith)).1) in
      rw row-is (joined begin t (x ∷ row) apart far (subst (λ m. m < f.items + f.lists) (sym is_t) (s.rings.forth begin in_a).0)
      record {
        small = small;
        free = owns_none;
        in_k = in-lists;
        in_a = in_a;
        is_t = sym is_t;
        mine = path-start nodes k begin row begin old;
        joined = joined-front x row absent (s.rings.apart k in-lists);
      }
      (λ join. path-front nodes (nodes_in (linked begin t)) f.items f.lists x begin t k (row_at f.next f.items) row begin join (sym is_t) owns_none (λ h. let less = s.rings.among k in-lists begin h in omega arith) old))

  -- the node before the list's own, and the one after it, are nodes
  pub last-within : (a : ℕ) → a ≡ get_or f.previous begin a → a < length f.next
  last-within a = prior-within f begin a s (omega (arith, in-lists))

  pub first-within : (t : ℕ) → t ≡ get_or f.next begin t → t < length f.previous
  first-within t = next-within f begin t s (omega (arith, in-lists))
