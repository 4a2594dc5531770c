use Rattle.std.proofs.Common.{◌≡◌, ◌∙◌, map, filter, Option, Some, None, true, inl, inr, sym, ap, subst, suc, max, arith}
use Rattle.format_spec.specs.Bytes.{Bytes}
use Rattle.tree_spec.specs.Tree.{depth, fork, labeled, leaf, pruned}
use Rattle.tree_spec.specs.Witness.{rests, going_on}
use Rattle.hash_tree.specs.Hashes.{AreHashesOf}
use Rattle.hash_tree.specs.View.{tree_view}
use Rattle.witness.specs.Parts.{part, begins_between, first_in, last_in, reached_bytes, over_leaf}
use Rattle.witness.proofs.Parts.{is_bare, part_bare, part_nothing, part_fork, part_labeled, ok_then, some_paths}
use Rattle.witness.proofs.showing.+part.Goals as goal
use Rattle.tree_spec.proofs.Forks.{both_forks}

pub returns-then-is_empty : goal.returns-then-is_empty
returns-then-is_empty t c =
    ap pruned (c.hash.ensures (tree_view c.args.tree.now) c.requires) ∙ sym (part_nothing (λ p. p.now) (tree_view c.args.tree.now) c.args.rests.now c.if-is_empty.ensures)

pub left-requires : goal.left-requires
left-requires t c =
    (tree_view c.in-Fork.left.value, tree_view c.in-Fork.right.value, subst (λ t. AreHashesOf c.args.hashes.now (tree_view t)) c.in-Fork.is c.requires)

pub part-requires : goal.part-requires
part-requires t c =
    let l = tree_view c.in-Fork.left.value in
    let r = tree_view c.in-Fork.right.value in
    let part : depth (tree_view c.deref-in-Fork-2.result.now) ≡ depth l = ap (λ t. depth (tree_view t)) c.deref-in-Fork-2.ensures in
    let whole : depth (tree_view c.args.tree.now) ≡ suc (max (depth l) (depth r)) = ap (λ t. depth (tree_view t)) c.in-Fork.is in (
      omega (arith, part, whole),
      subst (λ t. AreHashesOf c.left.result.now (tree_view t)) (sym c.deref-in-Fork-2.ensures)
          (c.left.ensures l r (subst (λ t. AreHashesOf c.args.hashes.now (tree_view t)) c.in-Fork.is c.requires)),
    )

pub right-requires : goal.right-requires
right-requires t c =
    (tree_view c.in-Fork.left.value, tree_view c.in-Fork.right.value, subst (λ t. AreHashesOf c.args.hashes.now (tree_view t)) c.in-Fork.is c.requires)

pub part-requires-in-Fork : goal.part-requires-in-Fork
part-requires-in-Fork t c =
    let l = tree_view c.in-Fork.left.value in
    let r = tree_view c.in-Fork.right.value in
    let part : depth (tree_view c.deref-in-Fork-4.result.now) ≡ depth r = ap (λ t. depth (tree_view t)) c.deref-in-Fork-4.ensures in
    let whole : depth (tree_view c.args.tree.now) ≡ suc (max (depth l) (depth r)) = ap (λ t. depth (tree_view t)) c.in-Fork.is in (
      omega (arith, part, whole),
      subst (λ t. AreHashesOf c.right.result.now (tree_view t)) (sym c.deref-in-Fork-4.ensures)
          (c.right.ensures l r (subst (λ t. AreHashesOf c.args.hashes.now (tree_view t)) c.in-Fork.is c.requires)),
    )

pub below-requires : goal.below-requires
below-requires t c =
    (c.in-Labeled.label, tree_view c.in-Labeled.below.value, subst (λ t. AreHashesOf c.args.hashes.now (tree_view t)) c.in-Labeled.is c.requires)

pub part-requires-in-None : goal.part-requires-in-None
part-requires-in-None t c =
    let below = tree_view c.in-Labeled.below.value in
    let part : depth (tree_view c.deref-in-None.result.now) ≡ depth below = ap (λ t. depth (tree_view t)) c.deref-in-None.ensures in
    let whole : depth (tree_view c.args.tree.now) ≡ suc (depth below) = ap (λ t. depth (tree_view t)) c.in-Labeled.is in (
      omega (arith, part, whole),
      subst (λ t. AreHashesOf c.below.result.now (tree_view t)) (sym c.deref-in-None.ensures)
          (c.below.ensures c.in-Labeled.label below (subst (λ t. AreHashesOf c.args.hashes.now (tree_view t)) c.in-Labeled.is c.requires)),
    )

pub returns-in_ok-right-in-Fork : goal.returns-in_ok-right-in-Fork
returns-in_ok-right-in-Fork t c =
    let ps = map (λ p. p.now) c.args.rests.now in
    let l = tree_view c.in-Fork.left.value in
    let r = tree_view c.in-Fork.right.value in
    let before : map (λ p. p.now) c.deref-in-Fork-3.result.now ≡ filter (begins_between None (first_in r)) ps =
    ap (map (λ p. p.now)) c.deref-in-Fork-3.ensures.value ∙ c.in_ok-before-in-Fork.ensures
    ∙ ap (λ (o : Option Bytes). filter (begins_between None o) ps) (c.first_label.ensures ∙ ap (λ t. first_in (tree_view t)) c.deref.ensures) in
    let behind : map (λ p. p.now) c.deref-in-Fork-5.result.now ≡ filter (begins_between (last_in l) None) ps =
    ap (map (λ p. p.now)) c.deref-in-Fork-5.ensures.value ∙ c.in_ok-behind-in-Fork.ensures
    ∙ ap (λ (o : Option Bytes). filter (begins_between o None) ps) (c.last_label.ensures ∙ ap (λ t. last_in (tree_view t)) c.deref-in-Fork.ensures) in
    let left : tree_view c.in_ok-left-in-Fork.left ≡ part l (filter (begins_between None (first_in r)) ps) =
    c.in_ok-left-in-Fork.ensures ∙ ap (λ t. part (tree_view t) (map (λ p. p.now) c.deref-in-Fork-3.result.now)) c.deref-in-Fork-2.ensures ∙ ap (part l) before in
    let right : tree_view c.in_ok-right-in-Fork.right ≡ part r (filter (begins_between (last_in l) None) ps) =
    c.in_ok-right-in-Fork.ensures ∙ ap (λ t. part (tree_view t) (map (λ p. p.now) c.deref-in-Fork-5.result.now)) c.deref-in-Fork-4.ensures ∙ ap (part r) behind in
    let whole : tree_view c.args.tree.now ≡ fork l r = ap tree_view c.in-Fork.is in
    ok_then tree_view _ _ c.fork.result
    (both_forks _ _ _ _ left right
    ∙ sym (part_fork l r ps (some_paths (λ p. p.now) c.args.rests.now c.if-is_empty.ensures))
    ∙ ap (λ t. part t ps) (sym whole))
    c.fork.ensures

pub returns-in_ok-copy-in-Some-2 : goal.returns-in_ok-copy-in-Some-2
returns-in_ok-copy-in-Some-2 t c =
    let ps = map (λ p. p.now) c.args.rests.now in
    let k = c.in-Labeled.label in
    let below = tree_view c.in-Labeled.below.value in
    let rest = part below (going_on (rests k ps)) in
    let whole : tree_view c.args.tree.now ≡ labeled k below = ap tree_view c.in-Labeled.is in
    let found : Some c.in-Some.bytes.now ≡ reached_bytes k below ps =
    c.in-Some.ensures ∙ ap (λ (l : Bytes). reached_bytes l (tree_view c.deref-in-Labeled.result.now) ps) c.bytes.ensures.value ∙ ap (λ t. reached_bytes k (tree_view t) ps) c.deref-in-Labeled.ensures in
    ok_then tree_view _ _ c.labeled.result
    (ap (λ (l : Bytes). labeled l (leaf c.in_ok-copy-in-Some.field-0)) c.in_ok-copy-in-Some-2.ensures
    ∙ ap (λ (b : Bytes). labeled k (leaf b)) c.in_ok-copy-in-Some.ensures
    ∙ ap (λ (o : Option Bytes). labeled k (over_leaf o rest)) found
    ∙ sym (part_labeled k below ps (some_paths (λ p. p.now) c.args.rests.now c.if-is_empty.ensures))
    ∙ ap (λ t. part t ps) (sym whole))
    c.labeled.ensures

pub returns-in_ok-copy-in-None : goal.returns-in_ok-copy-in-None
returns-in_ok-copy-in-None t c =
    let ps = map (λ p. p.now) c.args.rests.now in
    let k = c.in-Labeled.label in
    let below = tree_view c.in-Labeled.below.value in
    let rest = part below (going_on (rests k ps)) in
    let whole : tree_view c.args.tree.now ≡ labeled k below = ap tree_view c.in-Labeled.is in
    let nothing : None ≡ reached_bytes k below ps =
    c.in-None.ensures ∙ ap (λ (l : Bytes). reached_bytes l (tree_view c.deref-in-Labeled.result.now) ps) c.bytes.ensures.value ∙ ap (λ t. reached_bytes k (tree_view t) ps) c.deref-in-Labeled.ensures in
    let paths : map (λ p. p.now) c.deref-in-None-2.result.now ≡ going_on (rests k ps) =
    ap (map (λ p. p.now)) c.deref-in-None-2.ensures.value ∙ c.in_ok-deeper-in-None.ensures ∙ ap (λ (l : Bytes). going_on (rests l ps)) c.bytes-in-None.ensures.value in
    let inner : tree_view c.in_ok-below-in-None.below ≡ rest =
    c.in_ok-below-in-None.ensures ∙ ap (λ t. part (tree_view t) (map (λ p. p.now) c.deref-in-None-2.result.now)) c.deref-in-None.ensures ∙ ap (part below) paths in
    ok_then tree_view _ _ c.labeled-in-None.result
    (ap (λ (l : Bytes). labeled l (tree_view c.in_ok-below-in-None.below)) c.in_ok-copy-in-None.ensures
    ∙ ap (labeled k) inner
    ∙ ap (λ (o : Option Bytes). labeled k (over_leaf o rest)) nothing
    ∙ sym (part_labeled k below ps (some_paths (λ p. p.now) c.args.rests.now c.if-is_empty.ensures))
    ∙ ap (λ t. part t ps) (sym whole))
    c.labeled-in-None.ensures

pub returns-in-Empty : goal.returns-in-Empty
returns-in-Empty t c =
    let bare : is_bare (tree_view c.args.tree.now) ≡ true =
    elim c.in-Empty.is [ inl e ↦ ap (λ t. is_bare (tree_view t)) e | inr o ↦ elim o [ inl l ↦ ap (λ t. is_bare (tree_view t)) l.1 | inr p ↦ ap (λ t. is_bare (tree_view t)) p.1 ] ] in
    ap pruned (c.hash-in-Empty.ensures (tree_view c.args.tree.now) c.requires) ∙ sym (part_bare (tree_view c.args.tree.now) (map (λ p. p.now) c.args.rests.now) bare)
