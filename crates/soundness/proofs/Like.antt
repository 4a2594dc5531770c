-- A tree with parts cut off is like a whole one where it has the same shape, labels and leaves outside of these parts.
use Rattle.std.proofs.Common.{◌≡◌, ◌≢◌, ◌⊎◌, [], ◌++◌, length, get_or, codes, Contains, refl, sym, ap, ◌∙◌, inl, inr, subst, arith}
use Rattle.std.proofs.lemmas.List.{append_cancel_left}
use Rattle.std.proofs.lemmas.List.Elements.{Contains-append_left, Contains-append_right}
use Rattle.sha2.specs.Sha256.{sha256}
use Rattle.sha2.proofs.Facts256.{length-sha256}
use Rattle.format_spec.proofs.Cuts.{cut_front, cut_end}
use Rattle.format_spec.specs.Bytes.{Bytes, short_string}
use Rattle.format_spec.specs.Hashes.{empty_string, fork_string, labeled_string, leaf_string}
use Rattle.tree_spec.specs.Tree.{Tree, empty, fork, labeled, leaf, pruned, reconstruct, hashed_strings}
use Rattle.tree_spec.specs.Whole.{IsWhole, HasHashes}
use Rattle.soundness.proofs.Strings.{Meet, one_or_meet, other_meet, first_of_list, behind_first, meet_within}

pub data Like : Tree → Tree → Type 0 where
  like_cut : (h : Bytes) (u : Tree) → Like (pruned h) u
  like_empty : Like empty empty
  like_fork : (a b c d : Tree) → Like a c → Like b d → Like (fork a b) (fork c d)
  like_labeled : (l : Bytes) (a b : Tree) → Like a b → Like (labeled l a) (labeled l b)
  like_leaf : (b : Bytes) → Like (leaf b) (leaf b)

pub whole_hashes : (u : Tree) → IsWhole u → HasHashes u
whole_hashes empty h = tt
whole_hashes (fork a b) h = (whole_hashes a h.0, whole_hashes b h.1)
whole_hashes (labeled l a) h = whole_hashes a h
whole_hashes (leaf b) h = tt
whole_hashes (pruned x) h = absurd h

pub hash_length : (t : Tree) → HasHashes t → length (reconstruct t) ≡ 32
unfolding reconstruct
hash_length empty h = length-sha256 _
hash_length (fork a b) h = length-sha256 _
hash_length (labeled l a) h = length-sha256 _
hash_length (leaf b) h = length-sha256 _
hash_length (pruned x) h = h

-- strings of different kinds differ
pub empty-fork : (a b : Bytes) → empty_string ≢ fork_string a b
empty-fork a b e = let p : 17 ≡ 16 = ap (λ (s : Bytes). get_or s 0 0) e in absurd (omega (arith, p))

pub empty-labeled : (a b : Bytes) → empty_string ≢ labeled_string a b
empty-labeled a b e = let p : 17 ≡ 19 = ap (λ (s : Bytes). get_or s 0 0) e in absurd (omega (arith, p))

pub empty-leaf : (a : Bytes) → empty_string ≢ leaf_string a
empty-leaf a e = let p : 17 ≡ 16 = ap (λ (s : Bytes). get_or s 0 0) e in absurd (omega (arith, p))

pub fork-labeled : (a b c d : Bytes) → fork_string a b ≢ labeled_string c d
fork-labeled a b c d e = let p : 16 ≡ 19 = ap (λ (s : Bytes). get_or s 0 0) e in absurd (omega (arith, p))

pub fork-leaf : (a b c : Bytes) → fork_string a b ≢ leaf_string c
fork-leaf a b c e = let p : 102 ≡ 108 = ap (λ (s : Bytes). get_or s 13 0) e in absurd (omega (arith, p))

pub labeled-leaf : (a b c : Bytes) → labeled_string a b ≢ leaf_string c
labeled-leaf a b c e = let p : 19 ≡ 16 = ap (λ (s : Bytes). get_or s 0 0) e in absurd (omega (arith, p))

flip : (x y : Bytes) → x ≢ y → y ≢ x
flip x y n e = n (sym e)

fork_parts : (a b c d : Bytes) → length a ≡ length c → fork_string a b ≡ fork_string c d → (a ≡ c) × (b ≡ d)
fork_parts a b c d n e = cut_front a b c d n (append_cancel_left (short_string (codes "ic-hashtree-fork")) (a ++ b) (c ++ d) e)

labeled_parts : (a b c d : Bytes) → length b ≡ length d → labeled_string a b ≡ labeled_string c d → (a ≡ c) × (b ≡ d)
labeled_parts a b c d n e = cut_end a b c d n (append_cancel_left (short_string (codes "ic-hashtree-labeled")) (a ++ b) (c ++ d) e)

leaf_parts : (a b : Bytes) → leaf_string a ≡ leaf_string b → a ≡ b
leaf_parts a b e = append_cancel_left (short_string (codes "ic-hashtree-leaf")) a b e

Answer : Tree → Tree → Type 0
Answer t u = Like t u ⊎ Meet (hashed_strings t) (hashed_strings u)

in_left : (a b : Tree) (x : Bytes) → Contains (hashed_strings a) x → Contains (hashed_strings (fork a b)) x
unfolding hashed_strings
in_left a b x h = behind_first (fork_string (reconstruct a) (reconstruct b)) (hashed_strings a ++ hashed_strings b) x (Contains-append_left (hashed_strings a) (hashed_strings b) x h)

in_right : (a b : Tree) (x : Bytes) → Contains (hashed_strings b) x → Contains (hashed_strings (fork a b)) x
unfolding hashed_strings
in_right a b x h = behind_first (fork_string (reconstruct a) (reconstruct b)) (hashed_strings a ++ hashed_strings b) x (Contains-append_right (hashed_strings a) (hashed_strings b) x h)

in_below : (l : Bytes) (a : Tree) (x : Bytes) → Contains (hashed_strings a) x → Contains (hashed_strings (labeled l a)) x
unfolding hashed_strings
in_below l a x h = behind_first (labeled_string l (reconstruct a)) (hashed_strings a) x h

both_forks : (a b c d : Tree) → Answer a c → Answer b d → Answer (fork a b) (fork c d)
unfolding Answer
both_forks a b c d (inr x) q = inr (meet_within (hashed_strings a) (hashed_strings c) (hashed_strings (fork a b)) (hashed_strings (fork c d)) (in_left a b) (in_left c d) x)
both_forks a b c d (inl p) (inr x) = inr (meet_within (hashed_strings b) (hashed_strings d) (hashed_strings (fork a b)) (hashed_strings (fork c d)) (in_right a b) (in_right c d) x)
both_forks a b c d (inl p) (inl q) = inl (like_fork a b c d p q)

below_labels : (l k : Bytes) (a b : Tree) → l ≡ k → Answer a b → Answer (labeled l a) (labeled k b)
unfolding Answer
below_labels l k a b e (inr x) = inr (meet_within (hashed_strings a) (hashed_strings b) (hashed_strings (labeled l a)) (hashed_strings (labeled k b)) (in_below l a) (in_below k b) x)
below_labels l k a b e (inl p) = inl (subst (λ (m : Bytes). Like (labeled l a) (labeled m b)) e (like_labeled l a b p))

-- the string whose hash is a tree's, where it has one
abbrev pub top : Tree → Bytes
top empty = empty_string
top (fork a b) = fork_string (reconstruct a) (reconstruct b)
top (labeled l a) = labeled_string l (reconstruct a)
top (leaf b) = leaf_string b
top (pruned h) = []

abbrev pub HasTop : Tree → Type 0
HasTop empty = Unit {0}
HasTop (fork a b) = Unit {0}
HasTop (labeled l a) = Unit {0}
HasTop (leaf b) = Unit {0}
HasTop (pruned h) = ⊥

top_hash : (t : Tree) → HasTop t → reconstruct t ≡ sha256 (top t)
unfolding reconstruct
top_hash empty h = refl
top_hash (fork a b) h = refl
top_hash (labeled l a) h = refl
top_hash (leaf b) h = refl
top_hash (pruned x) h = absurd h

top_in : (t : Tree) → HasTop t → Contains (hashed_strings t) (top t)
unfolding hashed_strings
top_in empty h = first_of_list empty_string []
top_in (fork a b) h = first_of_list (fork_string (reconstruct a) (reconstruct b)) (hashed_strings a ++ hashed_strings b)
top_in (labeled l a) h = first_of_list (labeled_string l (reconstruct a)) (hashed_strings a)
top_in (leaf b) h = first_of_list (leaf_string b) []
top_in (pruned x) h = absurd h

tops_hash : (t u : Tree) → HasTop t → HasTop u → reconstruct t ≡ reconstruct u → sha256 (top t) ≡ sha256 (top u)
tops_hash t u p q e = sym (top_hash t p) ∙ e ∙ top_hash u q

differ : (t u : Tree) → HasTop t → HasTop u → top t ≢ top u → reconstruct t ≡ reconstruct u → Like t u ⊎ Meet (hashed_strings t) (hashed_strings u)
differ t u p q n e = inr (other_meet (top t) (top u) (hashed_strings t) (hashed_strings u) (top_in t p) (top_in u q) n (tops_hash t u p q e))

same_top : (t u : Tree) → HasTop t → HasTop u → reconstruct t ≡ reconstruct u → (top t ≡ top u) ⊎ Meet (hashed_strings t) (hashed_strings u)
same_top t u p q e = one_or_meet (top t) (top u) (hashed_strings t) (hashed_strings u) (top_in t p) (top_in u q) (tops_hash t u p q e)

pub like_or_meet : (t u : Tree) → HasHashes t → IsWhole u → reconstruct t ≡ reconstruct u → Like t u ⊎ Meet (hashed_strings t) (hashed_strings u)
unfolding Answer
like_or_meet (pruned h) u g w e = inl (like_cut h u)
like_or_meet empty empty g w e = inl like_empty
like_or_meet empty (fork c d) g w e = differ empty (fork c d) tt tt (empty-fork (reconstruct c) (reconstruct d)) e
like_or_meet empty (labeled k d) g w e = differ empty (labeled k d) tt tt (empty-labeled k (reconstruct d)) e
like_or_meet empty (leaf b) g w e = differ empty (leaf b) tt tt (empty-leaf b) e
like_or_meet empty (pruned h) g w e = absurd w
like_or_meet (fork a b) empty g w e = differ (fork a b) empty tt tt (flip empty_string (fork_string (reconstruct a) (reconstruct b)) (empty-fork (reconstruct a) (reconstruct b))) e
like_or_meet (fork a b) (fork c d) g w e = by (same_top (fork a b) (fork c d) tt tt e) (λ p. like_or_meet a c g.0 w.0 p) (λ p. like_or_meet b d g.1 w.1 p)
  where
    by : (fork_string (reconstruct a) (reconstruct b) ≡ fork_string (reconstruct c) (reconstruct d)) ⊎ Meet (hashed_strings (fork a b)) (hashed_strings (fork c d))
        → (reconstruct a ≡ reconstruct c → Like a c ⊎ Meet (hashed_strings a) (hashed_strings c))
        → (reconstruct b ≡ reconstruct d → Like b d ⊎ Meet (hashed_strings b) (hashed_strings d)) → Like (fork a b) (fork c d) ⊎ Meet (hashed_strings (fork a b)) (hashed_strings (fork c d))
    by (inr x) l r = inr x
    by (inl s) l r =
        let p = fork_parts (reconstruct a) (reconstruct b) (reconstruct c) (reconstruct d) (hash_length a g.0 ∙ sym (hash_length c (whole_hashes c w.0))) s in
        both_forks a b c d (l p.0) (r p.1)
like_or_meet (fork a b) (labeled k d) g w e = differ (fork a b) (labeled k d) tt tt (fork-labeled (reconstruct a) (reconstruct b) k (reconstruct d)) e
like_or_meet (fork a b) (leaf c) g w e = differ (fork a b) (leaf c) tt tt (fork-leaf (reconstruct a) (reconstruct b) c) e
like_or_meet (fork a b) (pruned h) g w e = absurd w
like_or_meet (labeled l a) empty g w e = differ (labeled l a) empty tt tt (flip empty_string (labeled_string l (reconstruct a)) (empty-labeled l (reconstruct a))) e
like_or_meet (labeled l a) (fork c d) g w e = differ (labeled l a) (fork c d) tt tt (flip (fork_string (reconstruct c) (reconstruct d)) (labeled_string l (reconstruct a)) (fork-labeled (reconstruct c) (reconstruct d) l (reconstruct a))) e
like_or_meet (labeled l a) (labeled k b) g w e = by (same_top (labeled l a) (labeled k b) tt tt e) (λ p. like_or_meet a b g w p)
  where
    by : (labeled_string l (reconstruct a) ≡ labeled_string k (reconstruct b)) ⊎ Meet (hashed_strings (labeled l a)) (hashed_strings (labeled k b))
        → (reconstruct a ≡ reconstruct b → Like a b ⊎ Meet (hashed_strings a) (hashed_strings b))
        → Like (labeled l a) (labeled k b) ⊎ Meet (hashed_strings (labeled l a)) (hashed_strings (labeled k b))
    by (inr x) f = inr x
    by (inl s) f =
        let p = labeled_parts l (reconstruct a) k (reconstruct b) (hash_length a g ∙ sym (hash_length b (whole_hashes b w))) s in
        below_labels l k a b p.0 (f p.1)
like_or_meet (labeled l a) (leaf b) g w e = differ (labeled l a) (leaf b) tt tt (labeled-leaf l (reconstruct a) b) e
like_or_meet (labeled l a) (pruned h) g w e = absurd w
like_or_meet (leaf b) empty g w e = differ (leaf b) empty tt tt (flip empty_string (leaf_string b) (empty-leaf b)) e
like_or_meet (leaf b) (fork c d) g w e = differ (leaf b) (fork c d) tt tt (flip (fork_string (reconstruct c) (reconstruct d)) (leaf_string b) (fork-leaf (reconstruct c) (reconstruct d) b)) e
like_or_meet (leaf b) (labeled k d) g w e = differ (leaf b) (labeled k d) tt tt (flip (labeled_string k (reconstruct d)) (leaf_string b) (labeled-leaf k (reconstruct d) b)) e
like_or_meet (leaf b) (leaf c) g w e = by (same_top (leaf b) (leaf c) tt tt e)
  where
    by : (leaf_string b ≡ leaf_string c) ⊎ Meet (hashed_strings (leaf b)) (hashed_strings (leaf c)) → Like (leaf b) (leaf c) ⊎ Meet (hashed_strings (leaf b)) (hashed_strings (leaf c))
    by (inr x) = inr x
    by (inl s) = inl (subst (λ (m : Bytes). Like (leaf b) (leaf m)) (leaf_parts b c s) (like_leaf b))
like_or_meet (leaf b) (pruned h) g w e = absurd w
