-- A tree that is like another is no deeper and no larger, and is well-formed where the other is.
use Rattle.std.proofs.Common.{◌≡◌, ◌≤◌, true, not, ◌&&◌, List, ◌∷◌, refl, arith, is_lt}
use Rattle.std.specs.List.{list_all}
use Rattle.std.proofs.lemmas.Bool.{and_parts, and_from}
use Rattle.format_spec.specs.Bytes.{Bytes, bytes_cmp, ascending}
use Rattle.tree_spec.specs.Tree.{Tree, empty, fork, labeled, leaf, pruned, labels, is_leaf, is_good_inside, is_well_formed, depth}
use Rattle.tree_spec.specs.Whole.{HasHashes}
use Rattle.tree_spec.specs.Cbor.{HasSizes}
use Rattle.soundness.proofs.Like.{Like, like_cut, like_empty, like_fork, like_labeled, like_leaf}
use Rattle.soundness.proofs.Levels.{Refines, none, cut_end, cut_more, same_label, same_leaf, like_levels, Ascends, Above, labels_in, tail_ascends}
use Rattle.tree_spec.proofs.CborTrees.{depth_pos}

pub like_depth : {t u : Tree} → Like t u → depth t ≤ depth u
like_depth (like_cut h u) = depth_pos u
like_depth like_empty = omega arith
like_depth (like_fork a b c d p q) = omega (arith, like_depth p, like_depth q)
like_depth (like_labeled l a b p) = omega (arith, like_depth p)
like_depth (like_leaf b) = omega arith

pub like_sizes : {t u : Tree} → Like t u → HasHashes t → HasSizes u → HasSizes t
like_sizes (like_cut h u) g s = g
like_sizes like_empty g s = tt
like_sizes (like_fork a b c d p q) g s = (like_sizes p g.0 s.0, like_sizes q g.1 s.1)
like_sizes (like_labeled l a b p) g s = (s.0, like_sizes p g s.1)
like_sizes (like_leaf b) g s = s

-- ---- order

above_tail : (k : Bytes) (u : Tree) (us : List Tree) → Above k (u ∷ us) → Above k us
above_tail k empty us h = h
above_tail k (fork a b) us h = h
above_tail k (labeled l a) us h = (and_parts (is_lt (bytes_cmp k l)) (list_all (λ j. is_lt (bytes_cmp k j)) (labels_in us)) h).1
above_tail k (leaf b) us h = h
above_tail k (pruned x) us h = h

above_refines : (k : Bytes) {ts us : List Tree} → Refines ts us → Above k us → Above k ts
above_refines k none h = h
above_refines k (cut_end x ts us r) h = above_refines k r h
above_refines k (cut_more x u ts us r) h = above_refines k r (above_tail k u us h)
above_refines k (same_label l a b ts us p r) h =
    let q = and_parts (is_lt (bytes_cmp k l)) (list_all (λ j. is_lt (bytes_cmp k j)) (labels_in us)) h in
    and_from (is_lt (bytes_cmp k l)) (list_all (λ j. is_lt (bytes_cmp k j)) (labels_in ts)) q.0 (above_refines k r q.1)
above_refines k (same_leaf b ts us r) h = above_refines k r h

ascends_refines : {ts us : List Tree} → Refines ts us → Ascends us → Ascends ts
ascends_refines none h = h
ascends_refines (cut_end x ts us r) h = ascends_refines r h
ascends_refines (cut_more x u ts us r) h = ascends_refines r (tail_ascends u us h)
ascends_refines (same_label l a b ts us p r) h =
    let q = and_parts (list_all (λ j. is_lt (bytes_cmp l j)) (labels_in us)) (ascending bytes_cmp (labels_in us)) h in
    and_from (list_all (λ j. is_lt (bytes_cmp l j)) (labels_in ts)) (ascending bytes_cmp (labels_in ts)) (above_refines l r q.0) (ascends_refines r q.1)
ascends_refines (same_leaf b ts us r) h = ascends_refines r h

like_labels : {t u : Tree} → Like t u → ascending bytes_cmp (labels u) ≡ true → ascending bytes_cmp (labels t) ≡ true
like_labels p h = ascends_refines (like_levels p) h

like_no_leaf : {t u : Tree} → Like t u → not (is_leaf u) ≡ true → not (is_leaf t) ≡ true
like_no_leaf (like_cut h u) n = refl
like_no_leaf like_empty n = n
like_no_leaf (like_fork a b c d p q) n = n
like_no_leaf (like_labeled l a b p) n = n
like_no_leaf (like_leaf b) n = n

like_inside : {t u : Tree} → Like t u → is_good_inside u ≡ true → is_good_inside t ≡ true
like_inside (like_cut h u) g = refl
like_inside like_empty g = g
like_inside (like_fork a b c d p q) g =
    let x = and_parts (not (is_leaf c) && not (is_leaf d) && is_good_inside c) (is_good_inside d) g in
    let y = and_parts (not (is_leaf c) && not (is_leaf d)) (is_good_inside c) x.0 in
    let z = and_parts (not (is_leaf c)) (not (is_leaf d)) y.0 in
    and_from (not (is_leaf a) && not (is_leaf b) && is_good_inside a) (is_good_inside b)
    (and_from (not (is_leaf a) && not (is_leaf b)) (is_good_inside a) (and_from (not (is_leaf a)) (not (is_leaf b)) (like_no_leaf p z.0) (like_no_leaf q z.1)) (like_inside p y.1)) (like_inside q x.1)
like_inside (like_labeled l a b p) g =
    let x = and_parts (ascending bytes_cmp (labels b)) (is_good_inside b) g in
    and_from (ascending bytes_cmp (labels a)) (is_good_inside a) (like_labels p x.0) (like_inside p x.1)
like_inside (like_leaf b) g = g

pub like_well_formed : {t u : Tree} → Like t u → is_well_formed u ≡ true → is_well_formed t ≡ true
unfolding is_well_formed
like_well_formed {t} {u} p g =
    let x = and_parts (ascending bytes_cmp (labels u)) (is_good_inside u) g in
    and_from (ascending bytes_cmp (labels t)) (is_good_inside t) (like_labels p x.0) (like_inside p x.1)
