-- What one level of a witness shows: each child that is kept, and a hash for each run of others.
use Rattle.std.proofs.Common.{◌≡◌, ℕ, zero, suc, ◌<◌, ◌≤◌, ◌||◌, not, Bool, true, false, List, [], ◌∷◌, ◌++◌, length, take, drop, map, Option, Some, None, is_some, refl, sym, ap, ◌∙◌, subst, arith, take-append-drop}
use Rattle.std.specs.List.{list_any}
use Rattle.std.proofs.lemmas.List.{length-take, length-drop}
use Rattle.format_spec.specs.Bytes.{Bytes}
use Rattle.tree_spec.specs.Tree.{Tree, empty, fork, labeled, leaf, pruned, flatten, reconstruct, forks, half}
use Rattle.tree_spec.specs.Lookup.{at_end, error}
use Rattle.tree_spec.specs.Witness.{Kept, forks_of_kept, all_pruned, none_kept}

-- ---- the level

pub data Shows : List Kept → List Tree → Type 0 where
  shows_none : Shows [] []
  shows_kept : (c : Kept) (l : Bytes) (a : Tree) (cs : List Kept) (ts : List Tree) → c.kept ≡ Some (labeled l a) → Shows cs ts → Shows (c ∷ cs) (labeled l a ∷ ts)
  cut_last : (c : Kept) (h : Bytes) (cs : List Kept) (ts : List Tree) → c.kept ≡ None → Shows cs ts → Shows (c ∷ cs) (pruned h ∷ ts)
  cut_more : (c : Kept) (h : Bytes) (cs : List Kept) (ts : List Tree) → c.kept ≡ None → Shows cs (pruned h ∷ ts) → Shows (c ∷ cs) (pruned h ∷ ts)

shows_append : {cs ds : List Kept} {ts us : List Tree} → Shows cs ts → Shows ds us → Shows (cs ++ ds) (ts ++ us)
shows_append shows_none q = q
shows_append {ds = ds} {us = us} (shows_kept c l a cs ts e p) q = shows_kept c l a (cs ++ ds) (ts ++ us) e (shows_append p q)
shows_append {ds = ds} {us = us} (cut_last c h cs ts e p) q = cut_last c h (cs ++ ds) (ts ++ us) e (shows_append p q)
shows_append {ds = ds} {us = us} (cut_more c h cs ts e p) q = cut_more c h (cs ++ ds) (ts ++ us) e (shows_append p q)

-- a label with what is kept below it
abbrev pub IsNamed : Bytes → Tree → Type 0
IsNamed k empty = ⊥
IsNamed k (fork a b) = ⊥
IsNamed k (labeled l a) = l ≡ k
IsNamed k (leaf b) = ⊥
IsNamed k (pruned h) = ⊥

abbrev pub NamedOrNone : Bytes → Option Tree → Type 0
NamedOrNone k None = Unit {0}
NamedOrNone k (Some t) = IsNamed k t

abbrev pub AllNamed : List Kept → Type 0
AllNamed [] = Unit {0}
AllNamed (c ∷ cs) = ((k : Bytes) × NamedOrNone k c.kept) × AllNamed cs

named_take : (n : ℕ) (cs : List Kept) → AllNamed cs → AllNamed (take n cs)
named_take zero cs h = tt
named_take (suc n) [] h = tt
named_take (suc n) (c ∷ cs) h = (h.0, named_take n cs h.1)

named_drop : (n : ℕ) (cs : List Kept) → AllNamed cs → AllNamed (drop n cs)
named_drop zero cs h = h
named_drop (suc n) [] h = tt
named_drop (suc n) (c ∷ cs) h = named_drop n cs h.1

none_parts : (c : Kept) (cs : List Kept) → none_kept (c ∷ cs) ≡ true → (c.kept ≡ None) × (none_kept cs ≡ true)
none_parts c cs h = by c.kept refl
  where
    by : (o : Option Tree) → c.kept ≡ o → (c.kept ≡ None) × (none_kept cs ≡ true)
    by None e = (e, ap (λ (x : Option Tree). not (is_some x || list_any (λ d. is_some d.kept) cs)) (sym e) ∙ h)
    by (Some t) e = absurd (false_true (sym (ap (λ (x : Option Tree). not (is_some x || list_any (λ d. is_some d.kept) cs)) e) ∙ h))
      where
        false_true : false ≡ true → ⊥
        false_true q = cc

shows_cut : (h : Bytes) (c : Kept) (cs : List Kept) → none_kept (c ∷ cs) ≡ true → Shows (c ∷ cs) (pruned h ∷ [])
shows_cut h c [] n = cut_last c h [] [] (none_parts c [] n).0 shows_none
shows_cut h c (d ∷ cs) n = let p = none_parts c (d ∷ cs) n in cut_more c h (d ∷ cs) [] p.0 (shows_cut h d cs p.1)

shows_one : (c : Kept) (o : Option Tree) (k : Bytes) → NamedOrNone k o → c.kept ≡ o → Shows (c ∷ []) (flatten (elim o as (λ x. Tree) [ None ↦ all_pruned (c ∷ []) | Some t ↦ t ]))
shows_one c None k n e = cut_last c (reconstruct (forks (c.whole ∷ []))) [] [] e shows_none
shows_one c (Some empty) k n e = absurd n
shows_one c (Some (fork a b)) k n e = absurd n
shows_one c (Some (labeled l a)) k n e = shows_kept c l a [] [] e shows_none
shows_one c (Some (leaf b)) k n e = absurd n
shows_one c (Some (pruned h)) k n e = absurd n

pub shows_forks : (n : ℕ) (cs : List Kept) → 0 < length cs → length cs ≤ n → AllNamed cs → Shows cs (flatten (forks_of_kept n cs))
shows_forks n [] p q h = absurd (omega (arith, p))
shows_forks zero (c ∷ cs) p q h = absurd (omega (arith, q))
shows_forks (suc n) (c ∷ []) p q h = shows_one c c.kept h.0.0 h.0.1 refl
shows_forks (suc n) (c ∷ d ∷ cs) p q h =
    let xs : List Kept = c ∷ d ∷ cs in
    let left = length-take (half xs) xs in
    let right = length-drop (half xs) xs in
    by (none_kept xs) refl
    (shows_forks n (take (half xs) xs) (omega (arith, left)) (omega (arith, left, q)) (named_take (half xs) xs h))
    (shows_forks n (drop (half xs) xs) (omega (arith, right)) (omega (arith, right, q)) (named_drop (half xs) xs h))
  where
    by : (b : Bool) → none_kept (c ∷ d ∷ cs) ≡ b
        → Shows (take (half (c ∷ d ∷ cs)) (c ∷ d ∷ cs)) (flatten (forks_of_kept n (take (half (c ∷ d ∷ cs)) (c ∷ d ∷ cs))))
        → Shows (drop (half (c ∷ d ∷ cs)) (c ∷ d ∷ cs)) (flatten (forks_of_kept n (drop (half (c ∷ d ∷ cs)) (c ∷ d ∷ cs))))
        → Shows (c ∷ d ∷ cs) (flatten (elim b as (λ x. Tree) [ true ↦ all_pruned (c ∷ d ∷ cs) | false ↦ fork (forks_of_kept n (take (half (c ∷ d ∷ cs)) (c ∷ d ∷ cs))) (forks_of_kept n (drop (half (c ∷ d ∷ cs)) (c ∷ d ∷ cs))) ]))
    by true e l r = shows_cut (reconstruct (forks (map (λ x. x.whole) (c ∷ d ∷ cs)))) c (d ∷ cs) e
    by false e l r =
        let xs : List Kept = c ∷ d ∷ cs in
        subst (λ (ys : List Kept). Shows ys (flatten (forks_of_kept n (take (half xs) xs)) ++ flatten (forks_of_kept n (drop (half xs) xs)))) (take-append-drop (half xs) xs) (shows_append l r)

-- ---- where nothing is kept, all is one hash

pub none_is_pruned : (n : ℕ) (cs : List Kept) → none_kept cs ≡ true → forks_of_kept n cs ≡ all_pruned cs
none_is_pruned zero cs h = refl
none_is_pruned (suc n) [] h = refl
none_is_pruned (suc n) (c ∷ []) h = ap (λ (o : Option Tree). elim o as (λ x. Tree) [ None ↦ all_pruned (c ∷ []) | Some t ↦ t ]) (none_parts c [] h).0
none_is_pruned (suc n) (c ∷ d ∷ cs) h =
    ap (λ (b : Bool). elim b as (λ x. Tree) [ true ↦ all_pruned (c ∷ d ∷ cs) | false ↦ fork (forks_of_kept n (take (half (c ∷ d ∷ cs)) (c ∷ d ∷ cs))) (forks_of_kept n (drop (half (c ∷ d ∷ cs)) (c ∷ d ∷ cs))) ]) h

-- and else it is a label or a fork
pub open_end : (n : ℕ) (cs : List Kept) → length cs ≤ n → AllNamed cs → none_kept cs ≡ false → at_end (forks_of_kept n cs) ≡ error
open_end n [] q h e = absurd cc
open_end zero (c ∷ cs) q h e = absurd (omega (arith, q))
open_end (suc n) (c ∷ []) q h e = by c.kept refl h.0.1
  where
    by : (o : Option Tree) → c.kept ≡ o → NamedOrNone h.0.0 o → at_end (elim o as (λ x. Tree) [ None ↦ all_pruned (c ∷ []) | Some t ↦ t ]) ≡ error
    by None f m = absurd (let g : not (is_some c.kept || false) ≡ not (false || false) = ap (λ (x : Option Tree). not (is_some x || false)) f in cc)
    by (Some empty) f m = absurd m
    by (Some (fork a b)) f m = absurd m
    by (Some (labeled l a)) f m = refl
    by (Some (leaf b)) f m = absurd m
    by (Some (pruned x)) f m = absurd m
open_end (suc n) (c ∷ d ∷ cs) q h e =
    ap (λ (b : Bool). at_end (elim b as (λ x. Tree) [ true ↦ all_pruned (c ∷ d ∷ cs) | false ↦ fork (forks_of_kept n (take (half (c ∷ d ∷ cs)) (c ∷ d ∷ cs))) (forks_of_kept n (drop (half (c ∷ d ∷ cs)) (c ∷ d ∷ cs))) ])) e
