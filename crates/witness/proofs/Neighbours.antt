-- Which labels have a child kept: those that begin between its neighbours.
use Rattle.std.proofs.Common.{◌≡◌, Bool, true, false, cond, ◌&&◌, ◌||◌, not, List, [], ◌∷◌, ◌++◌, filter, find, Option, Some, None, refl, sym, ap, ◌∙◌, Ordering, Less, Equal, Greater, is_lt, is_eq}
use Rattle.std.specs.List.{list_all, list_any, last_or}
use Rattle.std.specs.Ordering.{ordering_reverse}
use Rattle.std.specs.Cmp.Lexicographic.{nat_list_cmp_total}
use Rattle.std.proofs.lemmas.Bool.{and_parts, and_from}
use Rattle.std.proofs.lemmas.Cmp.{tied_itself}
use Rattle.format_spec.specs.Bytes.{Bytes, bytes_cmp, bytes_below, same_bytes, is_after, ascending}
use Rattle.format_spec.proofs.Follow.{above_too, bytes_below-trans}
use Rattle.format_spec.proofs.Readings.{same_bytes_is, bytes_same}
use Rattle.tree_spec.specs.Witness.{is_it, begins_some, is_next_to, is_neighbour}
use Rattle.witness.specs.Parts.{is_under, begins_between}

-- ---- byte order: where one label stands against another

pub data Side (k l : Bytes) : Type 0 where
  lower : bytes_below k l ≡ true → bytes_below l k ≡ false → same_bytes k l ≡ false → same_bytes l k ≡ false → Side k l
  equal : k ≡ l → Side k l
  higher : bytes_below k l ≡ false → bytes_below l k ≡ true → same_bytes k l ≡ false → same_bytes l k ≡ false → Side k l

pub side_of : (k l : Bytes) → Side k l
side_of k l = by (bytes_cmp k l) refl
  where
    by : (o : Ordering) → bytes_cmp k l ≡ o → Side k l
    by Less e =
        let t = nat_list_cmp_total.antisymm l k ∙ ap ordering_reverse e in
        lower (ap is_lt e) (ap is_lt t) (ap is_eq e) (ap is_eq t)
    by Equal e = equal (same_bytes_is k l (ap is_eq e))
    by Greater e =
        let t = nat_list_cmp_total.antisymm l k ∙ ap ordering_reverse e in
        higher (ap is_lt e) (ap is_lt t) (ap is_eq e) (ap is_eq t)

not_itself : (l : Bytes) → bytes_below l l ≡ false
not_itself l = ap is_lt (tied_itself nat_list_cmp_total l)

-- what is below isn't above, nor the same
pub below_says : (k l : Bytes) → bytes_below k l ≡ true → (bytes_below l k ≡ false) × (same_bytes k l ≡ false) × (same_bytes l k ≡ false)
below_says k l h = by (bytes_cmp k l) refl h
  where
    by : (o : Ordering) → bytes_cmp k l ≡ o → is_lt o ≡ true → (bytes_below l k ≡ false) × (same_bytes k l ≡ false) × (same_bytes l k ≡ false)
    by Less e h = let t = nat_list_cmp_total.antisymm l k ∙ ap ordering_reverse e in (ap is_lt t, ap is_eq e, ap is_eq t)
    by Equal e h = absurd cc
    by Greater e h = absurd cc

pub under_too : (a : Option Bytes) (m l : Bytes) → bytes_below m l ≡ true → is_under a l ≡ true → is_under a m ≡ true
under_too None m l lt h = refl
under_too (Some k) m l lt h = bytes_below-trans m l k lt h

pub after_too : (b : Option Bytes) (l m : Bytes) → is_after bytes_cmp b l ≡ true → bytes_below l m ≡ true → is_after bytes_cmp b m ≡ true
after_too None l m h lt = refl
after_too (Some k) l m h lt = bytes_below-trans k l m h lt

-- ---- labels all above another one

abbrev pub AllAbove : Bytes → List Bytes → Type 0
AllAbove l ks = list_all (λ k. is_lt (bytes_cmp l k)) ks ≡ true

abbrev pub head_of : List Bytes → Option Bytes
head_of [] = None
head_of (k ∷ ks) = Some k

above_parts : (l k : Bytes) (ks : List Bytes) → AllAbove l (k ∷ ks) → (bytes_below l k ≡ true) × AllAbove l ks
above_parts l k ks h = and_parts (is_lt (bytes_cmp l k)) (list_all (λ j. is_lt (bytes_cmp l j)) ks) h

none_same : (m : Bytes) (ks : List Bytes) → AllAbove m ks → list_any (same_bytes m) ks ≡ false
none_same m [] h = refl
none_same m (k ∷ ks) h =
    let p = above_parts m k ks h in
    ap (λ (b : Bool). b || list_any (same_bytes m) ks) (below_says m k p.0).1 ∙ none_same m ks p.1

none_lower : (m : Bytes) (ks : List Bytes) → AllAbove m ks → filter (λ k. bytes_below k m) ks ≡ []
none_lower m [] h = refl
none_lower m (k ∷ ks) h =
    let p = above_parts m k ks h in
    ap (λ (b : Bool). cond b (k ∷ filter (λ j. bytes_below j m) ks) (filter (λ j. bytes_below j m) ks)) (below_says m k p.0).0 ∙ none_lower m ks p.1

-- l isn't the last of some that are above it, nor the first of them
last_not : (l : Bytes) (f : Bytes → Bool) (o : Option Bytes) (ks : List Bytes) → is_it l o ≡ false → AllAbove l ks → is_it l (last_or o (filter f ks)) ≡ false
last_not l f o [] h above = h
last_not l f o (k ∷ ks) h above =
    let p = above_parts l k ks above in
    by (f k) (last_not l f (Some k) ks (below_says l k p.0).2 p.1) (last_not l f o ks h p.1)
  where
    by : (b : Bool) → is_it l (last_or (Some k) (filter f ks)) ≡ false → is_it l (last_or o (filter f ks)) ≡ false → is_it l (last_or o (cond b (k ∷ filter f ks) (filter f ks))) ≡ false
    by true p q = p
    by false p q = q

first_not : (l : Bytes) (f : Bytes → Bool) (ks : List Bytes) → AllAbove l ks → is_it l (find f ks) ≡ false
first_not l f [] above = refl
first_not l f (k ∷ ks) above =
    let p = above_parts l k ks above in
    by (f k) (below_says l k p.0).2 (first_not l f ks p.1)
  where
    by : (b : Bool) → is_it l (Some k) ≡ false → is_it l (find f ks) ≡ false → is_it l (cond b (Some k) (find f ks)) ≡ false
    by true p q = p
    by false p q = q

-- ---- from the label on

-- m begins a path that is missing between l and the next label, or before l

abbrev next_test : Bool → Bool → Option Bytes → Option Bytes → Bytes → Bool
next_test same any low high l = same || (not any && (is_it l low || is_it l high))

pub from_here : (l m : Bytes) (more : List Bytes) → AllAbove l more → ascending bytes_cmp more ≡ true
    → same_bytes m l || is_next_to (l ∷ more) l m ≡ is_under (head_of more) m
from_here l m more above order = by (side_of m l)
  where
    itself : is_it l (Some l) ≡ true
    itself = bytes_same l

    or_true : (b : Bool) → b || true ≡ true
    or_true true = refl
    or_true false = refl

    head_under : (ks : List Bytes) → AllAbove l ks → is_under (head_of ks) l ≡ true
    head_under [] h = refl
    head_under (k ∷ ks) h = (above_parts l k ks h).0

    -- behind l, where m is above it
    behind : (ks : List Bytes) → AllAbove l ks → ascending bytes_cmp ks ≡ true
        → not (list_any (same_bytes m) ks) && (is_it l (last_or (Some l) (filter (λ k. bytes_below k m) ks)) || is_it l (find (λ k. bytes_below m k) ks)) ≡ is_under (head_of ks) m
    behind [] h o = rw itself refl
    behind (k ∷ ks) h o = place (side_of m k) (above_parts l k ks h) (and_parts (list_all (λ j. is_lt (bytes_cmp k j)) ks) (ascending bytes_cmp ks) o)
      where
        place : Side m k → (bytes_below l k ≡ true) × AllAbove l ks → (list_all (λ j. is_lt (bytes_cmp k j)) ks ≡ true) × (ascending bytes_cmp ks ≡ true)
            → not (list_any (same_bytes m) (k ∷ ks)) && (is_it l (last_or (Some l) (filter (λ j. bytes_below j m) (k ∷ ks))) || is_it l (find (λ j. bytes_below m j) (k ∷ ks))) ≡ bytes_below m k
        place (lower lt nlt a b) p q =
            let all : AllAbove m (k ∷ ks) = and_from (is_lt (bytes_cmp m k)) (list_all (λ j. is_lt (bytes_cmp m j)) ks) lt (above_too m k ks lt q.0) in
            let same : list_any (same_bytes m) (k ∷ ks) ≡ false = none_same m (k ∷ ks) all in
            let low : filter (λ j. bytes_below j m) (k ∷ ks) ≡ [] = none_lower m (k ∷ ks) all in
            ap (λ (s : Bool). not s && (is_it l (last_or (Some l) (filter (λ j. bytes_below j m) (k ∷ ks))) || is_it l (find (λ j. bytes_below m j) (k ∷ ks)))) same
            ∙ ap (λ (f : List Bytes). is_it l (last_or (Some l) f) || is_it l (find (λ j. bytes_below m j) (k ∷ ks))) low
            ∙ ap (λ (b : Bool). b || is_it l (find (λ j. bytes_below m j) (k ∷ ks))) itself
            ∙ sym lt
        place (equal e) p q =
            let same : same_bytes m k ≡ true = ap (λ (x : Bytes). same_bytes x k) e ∙ bytes_same k in
            ap (λ (s : Bool). not (s || list_any (same_bytes m) ks) && (is_it l (last_or (Some l) (filter (λ j. bytes_below j m) (k ∷ ks))) || is_it l (find (λ j. bytes_below m j) (k ∷ ks)))) same
            ∙ sym (ap (λ (x : Bytes). bytes_below x k) e ∙ not_itself k)
        place (higher nlt lt a b) p q =
            let last : is_it l (last_or (Some l) (filter (λ j. bytes_below j m) (k ∷ ks))) ≡ false =
            ap (λ (c : Bool). is_it l (last_or (Some l) (cond c (k ∷ filter (λ j. bytes_below j m) ks) (filter (λ j. bytes_below j m) ks)))) lt
            ∙ last_not l (λ j. bytes_below j m) (Some k) ks (below_says l k p.0).2 p.1 in
            let first : is_it l (find (λ j. bytes_below m j) (k ∷ ks)) ≡ false = first_not l (λ j. bytes_below m j) (k ∷ ks) (and_from (is_lt (bytes_cmp l k)) (list_all (λ j. is_lt (bytes_cmp l j)) ks) p.0 p.1) in
            ap (λ (c : Bool). not (list_any (same_bytes m) (k ∷ ks)) && (c || is_it l (find (λ j. bytes_below m j) (k ∷ ks)))) last
            ∙ ap (λ (c : Bool). not (list_any (same_bytes m) (k ∷ ks)) && c) first
            ∙ and_false (not (list_any (same_bytes m) (k ∷ ks)))
            ∙ sym nlt
          where
            and_false : (b : Bool) → b && false ≡ false
            and_false true = refl
            and_false false = refl

    by : Side m l → same_bytes m l || is_next_to (l ∷ more) l m ≡ is_under (head_of more) m
    by (lower lt nlt a b) =
        let all : AllAbove m more = above_too m l more lt above in
        let same : list_any (same_bytes m) (l ∷ more) ≡ false = ap (λ (c : Bool). c || list_any (same_bytes m) more) a ∙ none_same m more all in
        ap (λ (c : Bool). c || is_next_to (l ∷ more) l m) a
        ∙ ap (λ (c : Bool). not c && (is_it l (last_or None (filter (λ k. bytes_below k m) (l ∷ more))) || is_it l (find (λ k. bytes_below m k) (l ∷ more)))) same
        ∙ ap (λ (c : Bool). is_it l (last_or None (filter (λ k. bytes_below k m) (l ∷ more))) || is_it l (cond c (Some l) (find (λ k. bytes_below m k) more))) lt
        ∙ ap (λ (c : Bool). is_it l (last_or None (filter (λ k. bytes_below k m) (l ∷ more))) || c) itself
        ∙ or_true (is_it l (last_or None (filter (λ k. bytes_below k m) (l ∷ more))))
        ∙ sym (under_too (head_of more) m l lt (head_under more above))
    by (equal e) =
        ap (λ (c : Bool). c || is_next_to (l ∷ more) l m) (ap (λ (x : Bytes). same_bytes x l) e ∙ bytes_same l)
        ∙ sym (ap (is_under (head_of more)) e ∙ head_under more above)
    by (higher nlt lt a b) =
        ap (λ (c : Bool). c || is_next_to (l ∷ more) l m) a
        ∙ ap (λ (c : Bool). not (c || list_any (same_bytes m) more) && (is_it l (last_or None (filter (λ k. bytes_below k m) (l ∷ more))) || is_it l (find (λ k. bytes_below m k) (l ∷ more)))) a
        ∙ ap (λ (c : Bool). not (list_any (same_bytes m) more) && (is_it l (last_or None (cond c (l ∷ filter (λ k. bytes_below k m) more) (filter (λ k. bytes_below k m) more))) || is_it l (find (λ k. bytes_below m k) (l ∷ more)))) lt
        ∙ ap (λ (c : Bool). not (list_any (same_bytes m) more) && (is_it l (last_or (Some l) (filter (λ k. bytes_below k m) more)) || is_it l (cond c (Some l) (find (λ k. bytes_below m k) more)))) nlt
        ∙ behind more above order

-- ---- wherever the label stands

above_in : (k : Bytes) (done more : List Bytes) (l : Bytes) → AllAbove k (done ++ l ∷ more) → bytes_below k l ≡ true
above_in k [] more l h = (above_parts k l more h).0
above_in k (d ∷ done) more l h = above_in k done more l (above_parts k d (done ++ l ∷ more) h).1

not_lower : (x d m : Bytes) → bytes_below x m ≡ false → bytes_below x d ≡ true → bytes_below d m ≡ false
not_lower x d m h lt = by (bytes_below d m) refl
  where
    by : (b : Bool) → bytes_below d m ≡ b → bytes_below d m ≡ false
    by true e = absurd (let t = bytes_below-trans x d m lt e in cc)
    by false e = e

-- what isn't above the first of some isn't above the last
not_after : (x m : Bytes) (ds more : List Bytes) → AllAbove x (ds ++ more) → ascending bytes_cmp (ds ++ more) ≡ true → bytes_below x m ≡ false → is_after bytes_cmp (last_or (Some x) ds) m ≡ false
not_after x m [] more above order h = h
not_after x m (d ∷ ds) more above order h =
    let p = above_parts x d (ds ++ more) above in
    let q = and_parts (list_all (λ j. is_lt (bytes_cmp d j)) (ds ++ more)) (ascending bytes_cmp (ds ++ more)) order in
    not_after d m ds more q.0 q.1 (not_lower x d m h p.0)

after_first : (k m : Bytes) (ds : List Bytes) → bytes_below k m ≡ true → is_after bytes_cmp (last_or None ds) m ≡ is_after bytes_cmp (last_or (Some k) ds) m
after_first k m [] lt = sym lt
after_first k m (d ∷ ds) lt = refl

-- a label before l has nothing to do with it, where m is above that
skip_first : (l k m : Bytes) (rest : List Bytes) → bytes_below k l ≡ true → bytes_below k m ≡ true → bytes_below m k ≡ false → same_bytes m k ≡ false → is_next_to (k ∷ rest) l m ≡ is_next_to rest l m
skip_first l k m rest below lt nlt apart =
    ap (λ (c : Bool). not (c || list_any (same_bytes m) rest) && (is_it l (last_or None (filter (λ j. bytes_below j m) (k ∷ rest))) || is_it l (find (λ j. bytes_below m j) (k ∷ rest)))) apart
    ∙ ap (λ (c : Bool). not (list_any (same_bytes m) rest) && (is_it l (last_or None (cond c (k ∷ filter (λ j. bytes_below j m) rest) (filter (λ j. bytes_below j m) rest))) || is_it l (find (λ j. bytes_below m j) (k ∷ rest)))) lt
    ∙ ap (λ (c : Bool). not (list_any (same_bytes m) rest) && (is_it l (last_or (Some k) (filter (λ j. bytes_below j m) rest)) || is_it l (cond c (Some k) (find (λ j. bytes_below m j) rest)))) nlt
    ∙ ap (λ (c : Bool). not (list_any (same_bytes m) rest) && (c || is_it l (find (λ j. bytes_below m j) rest))) (last_same (filter (λ j. bytes_below j m) rest))
  where
    last_same : (f : List Bytes) → is_it l (last_or (Some k) f) ≡ is_it l (last_or None f)
    last_same [] = (below_says k l below).1
    last_same (x ∷ f) = refl

-- a label at or above m is before l, so l is no neighbour of m
hides : (l k m : Bytes) (rest : List Bytes) → bytes_below k l ≡ true → AllAbove k rest → Side m k → bytes_below k m ≡ false → same_bytes m l || is_next_to (k ∷ rest) l m ≡ false
hides l k m rest below above (lower lt nlt a b) h =
    let all : AllAbove m (k ∷ rest) = and_from (is_lt (bytes_cmp m k)) (list_all (λ j. is_lt (bytes_cmp m j)) rest) lt (above_too m k rest lt above) in
    let low : filter (λ j. bytes_below j m) (k ∷ rest) ≡ [] = none_lower m (k ∷ rest) all in
    ap (λ (c : Bool). c || is_next_to (k ∷ rest) l m) (below_says m l (bytes_below-trans m k l lt below)).1
    ∙ ap (λ (f : List Bytes). not (list_any (same_bytes m) (k ∷ rest)) && (is_it l (last_or None f) || is_it l (find (λ j. bytes_below m j) (k ∷ rest)))) low
    ∙ ap (λ (c : Bool). not (list_any (same_bytes m) (k ∷ rest)) && is_it l (cond c (Some k) (find (λ j. bytes_below m j) rest))) lt
    ∙ ap (λ (c : Bool). not (list_any (same_bytes m) (k ∷ rest)) && c) (below_says k l below).1
    ∙ and_false (not (list_any (same_bytes m) (k ∷ rest)))
  where
    and_false : (b : Bool) → b && false ≡ false
    and_false true = refl
    and_false false = refl
hides l k m rest below above (equal e) h =
    ap (λ (c : Bool). c || is_next_to (k ∷ rest) l m) (ap (λ (x : Bytes). same_bytes x l) e ∙ (below_says k l below).1)
    ∙ ap (λ (c : Bool). not (c || list_any (same_bytes m) rest) && (is_it l (last_or None (filter (λ j. bytes_below j m) (k ∷ rest))) || is_it l (find (λ j. bytes_below m j) (k ∷ rest))))
    (ap (λ (x : Bytes). same_bytes x k) e ∙ bytes_same k)
hides l k m rest below above (higher nlt lt a b) h = absurd (let e : true ≡ false = sym lt ∙ h in cc)

-- a label that is missing, or is l, has l beside it exactly where it is between l's neighbours
pub beside : (l m : Bytes) (done more : List Bytes) → ascending bytes_cmp (done ++ l ∷ more) ≡ true
    → same_bytes m l || is_next_to (done ++ l ∷ more) l m ≡ is_after bytes_cmp (last_or None done) m && is_under (head_of more) m
beside l m [] more order =
    let p = and_parts (list_all (λ j. is_lt (bytes_cmp l j)) more) (ascending bytes_cmp more) order in
    from_here l m more p.0 p.1
beside l m (k ∷ ds) more order =
    let rest : List Bytes = ds ++ l ∷ more in
    let p = and_parts (list_all (λ j. is_lt (bytes_cmp k j)) rest) (ascending bytes_cmp rest) order in
    by (side_of m k) p.0 p.1 (above_in k ds more l p.0) (beside l m ds more p.1)
  where
    by : Side m k → AllAbove k (ds ++ l ∷ more) → ascending bytes_cmp (ds ++ l ∷ more) ≡ true → bytes_below k l ≡ true
        → same_bytes m l || is_next_to (ds ++ l ∷ more) l m ≡ is_after bytes_cmp (last_or None ds) m && is_under (head_of more) m
        → same_bytes m l || is_next_to (k ∷ (ds ++ l ∷ more)) l m ≡ is_after bytes_cmp (last_or (Some k) ds) m && is_under (head_of more) m
    by (lower lt nlt a b) above order below ih =
        hides l k m (ds ++ l ∷ more) below above (lower lt nlt a b) nlt
        ∙ sym (ap (λ (c : Bool). c && is_under (head_of more) m) (not_after k m ds (l ∷ more) above order nlt))
    by (equal e) above order below ih =
        let nlt : bytes_below k m ≡ false = ap (bytes_below k) e ∙ not_itself k in
        hides l k m (ds ++ l ∷ more) below above (equal e) nlt
        ∙ sym (ap (λ (c : Bool). c && is_under (head_of more) m) (not_after k m ds (l ∷ more) above order nlt))
    by (higher nlt lt a b) above order below ih =
        ap (λ (c : Bool). same_bytes m l || c) (skip_first l k m (ds ++ l ∷ more) below lt nlt a)
        ∙ ih
        ∙ ap (λ (c : Bool). c && is_under (head_of more) m) (after_first k m ds lt)

-- ---- over all paths

regroup : (a b c d : Bool) → (a || b) || (c || d) ≡ (a || c) || (b || d)
regroup true b c d = refl
regroup false true true d = refl
regroup false true false d = refl
regroup false false c d = refl

pub kept_where : (labels : List Bytes) (l : Bytes) (low high : Option Bytes) → ((m : Bytes) → same_bytes m l || is_next_to labels l m ≡ is_after bytes_cmp low m && is_under high m)
    → (ps : List (List Bytes)) → begins_some l ps || is_neighbour labels ps l ≡ list_any (begins_between low high) ps
kept_where labels l low high h [] = refl
kept_where labels l low high h ([] ∷ ps) = kept_where labels l low high h ps
kept_where labels l low high h ((m ∷ p) ∷ ps) =
    regroup (same_bytes m l) (begins_some l ps) (is_next_to labels l m) (is_neighbour labels ps l)
    ∙ ap (λ (c : Bool). c || (begins_some l ps || is_neighbour labels ps l)) (h m)
    ∙ ap (λ (c : Bool). (is_after bytes_cmp low m && is_under high m) || c) (kept_where labels l low high h ps)
