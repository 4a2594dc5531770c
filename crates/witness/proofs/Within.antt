-- A tree is read as its array head, its number and what that says.
use Rattle.std.proofs.Common.{◌≡◌, ◌≢◌, ℕ, suc, ◌-◌, ◌≤◌, ◌==◌, length, Bool, true, false, List, [], ◌∷◌, ◌++◌, Option, Some, None, Result, Ok, Err, refl, sym, ap, ◌∙◌, eq-eqb, arith}
use Rattle.std.specs.List.{last_or}
use Rattle.std.proofs.lemmas.List.Elements.{filter_map-append}
use Rattle.format_spec.specs.Bytes.{Bytes, bytes_cmp, is_after}
use Rattle.format_spec.specs.Fields.{Cursor, Reading, and_then, field, byte, any, value_at_end}
use Rattle.format_spec.specs.declared.limits.TheConstants.{HASH_SIZE, MAX_DEPTH}
use Rattle.tree_spec.specs.Tree.{Tree, empty, fork, labeled, leaf, pruned, flatten, label_of, labels}
use Rattle.tree_spec.specs.Cbor.{is_array_head, fits_head, tree_of_kind, tree_within, behind_tag, read_tree, last_label, string_form}
use Rattle.byte_codec.specs.declared.error.FieldError.{FieldError}
use Rattle.byte_codec.specs.declared.error.FieldError.TheVariants.{Bad, Memory}
use Rattle.byte_codec.specs.Gives.{Fails}

-- what fails first fails at that place
pub stops : {A B : Type 0} (e : FieldError) (r : Result (A × Cursor) ℕ) (k : A → Reading B) → Fails e r → Fails e (and_then r k)
stops Memory r k h = tt
stops (Bad place) r k h = ap (λ (x : Result (_ × Cursor) ℕ). and_then x k) h

pub no_room : (room : ℕ) (in_fork : Bool) (last : Option Bytes) (c : Cursor) → room ≡ 0 → tree_within room in_fork last c ≡ Err c.at
unfolding tree_within
no_room room in_fork last c e = ap (λ (n : ℕ). tree_within n in_fork last c) e

suc_less : (room : ℕ) → room ≢ 0 → room ≡ suc (room - 1)
suc_less room some = omega arith

module _ (room : ℕ) (in_fork : Bool) (last : Option Bytes) (c : Cursor) (some : room ≢ 0) where
  -- a tree within this one
  abbrev deeper : Bool → Option Bytes → Reading Tree
  deeper = tree_within (room - 1)

  abbrev behind_head : ℕ → Reading Tree
  behind_head head d = and_then (field byte (fits_head head in_fork) d) (tree_of_kind deeper last)

  within_is : tree_within room in_fork last c ≡ and_then (field byte is_array_head c) behind_head
  unfolding tree_within
  within_is = ap (λ (n : ℕ). tree_within n in_fork last c) (suc_less room some)

  pub head_stops : (e : FieldError) → Fails e (field byte is_array_head c) → Fails e (tree_within room in_fork last c)
  head_stops e h = rw within_is (stops e (field byte is_array_head c) behind_head h)

  module _ (head : ℕ) (m : Cursor) (one : field byte is_array_head c ≡ Ok (head, m)) where
    behind_is : tree_within room in_fork last c ≡ behind_head head m
    behind_is = within_is ∙ ap (λ (r : Result (ℕ × Cursor) ℕ). and_then r behind_head) one

    pub kind_stops : (e : FieldError) → Fails e (field byte (fits_head head in_fork) m) → Fails e (tree_within room in_fork last c)
    kind_stops e h = rw behind_is (stops e (field byte (fits_head head in_fork) m) (tree_of_kind deeper last) h)

    -- behind the number
    module _ (kind : ℕ) (d : Cursor) (two : field byte (fits_head head in_fork) m ≡ Ok (kind, d)) where
      kind_is : tree_within room in_fork last c ≡ tree_of_kind deeper last kind d
      kind_is = behind_is ∙ ap (λ (r : Result (ℕ × Cursor) ℕ). and_then r (tree_of_kind deeper last)) two

      this_kind : (k : ℕ) → kind ≡ k → tree_within room in_fork last c ≡ tree_of_kind deeper last k d
      this_kind k is = kind_is ∙ ap (λ (n : ℕ). tree_of_kind deeper last n d) is

      pub empty_read : kind ≡ 0 → tree_within room in_fork last c ≡ Ok (empty, d)
      empty_read is = this_kind 0 is

      pub left_stops : kind ≡ 1 → (e : FieldError) → Fails e (deeper true last d) → Fails e (tree_within room in_fork last c)
      left_stops is e h = rw (this_kind 1 is) (stops e (deeper true last d) (λ left x. and_then (deeper true (last_label last left) x) (λ right y. Ok (fork left right, y))) h)

      -- both sides of a fork
      module _ (is : kind ≡ 1) (left : Tree) (x : Cursor) (three : deeper true last d ≡ Ok (left, x)) where
        abbrev with_left : Tree → Reading Tree
        with_left t y = and_then (deeper true (last_label last t) y) (λ right z. Ok (fork t right, z))

        left_is : tree_within room in_fork last c ≡ with_left left x
        left_is = this_kind 1 is ∙ ap (λ (r : Result (Tree × Cursor) ℕ). and_then r with_left) three

        pub right_stops : (e : FieldError) → Fails e (deeper true (last_label last left) x) → Fails e (tree_within room in_fork last c)
        right_stops e h = rw left_is (stops e (deeper true (last_label last left) x) (λ right z. Ok (fork left right, z)) h)

        pub fork_read : (right : Tree) (y : Cursor) → deeper true (last_label last left) x ≡ Ok (right, y) → tree_within room in_fork last c ≡ Ok (fork left right, y)
        fork_read right y h = left_is ∙ ap (λ (r : Result (Tree × Cursor) ℕ). and_then r (λ t z. Ok (fork left t, z))) h

      pub label_stops : kind ≡ 2 → (e : FieldError) → Fails e (field string_form (is_after bytes_cmp last) d) → Fails e (tree_within room in_fork last c)
      label_stops is e h = rw (this_kind 2 is) (stops e (field string_form (is_after bytes_cmp last) d) (λ label x. and_then (deeper false None x) (λ below y. Ok (labeled label below, y))) h)

      -- what is below a label
      module _ (is : kind ≡ 2) (label : Bytes) (x : Cursor) (three : field string_form (is_after bytes_cmp last) d ≡ Ok (label, x)) where
        label_is : tree_within room in_fork last c ≡ and_then (deeper false None x) (λ below y. Ok (labeled label below, y))
        label_is = this_kind 2 is ∙ ap (λ (r : Result (Bytes × Cursor) ℕ). and_then r (λ l z. and_then (deeper false None z) (λ below y. Ok (labeled l below, y)))) three

        pub below_stops : (e : FieldError) → Fails e (deeper false None x) → Fails e (tree_within room in_fork last c)
        below_stops e h = rw label_is (stops e (deeper false None x) (λ below y. Ok (labeled label below, y)) h)

        pub labeled_read : (below : Tree) (y : Cursor) → deeper false None x ≡ Ok (below, y) → tree_within room in_fork last c ≡ Ok (labeled label below, y)
        labeled_read below y h = label_is ∙ ap (λ (r : Result (Tree × Cursor) ℕ). and_then r (λ t z. Ok (labeled label t, z))) h

      pub value_stops : kind ≡ 3 → (e : FieldError) → Fails e (field string_form any d) → Fails e (tree_within room in_fork last c)
      value_stops is e h = rw (this_kind 3 is) (stops e (field string_form any d) (λ bytes x. Ok (leaf bytes, x)) h)

      pub leaf_read : kind ≡ 3 → (bytes : Bytes) (x : Cursor) → field string_form any d ≡ Ok (bytes, x) → tree_within room in_fork last c ≡ Ok (leaf bytes, x)
      leaf_read is bytes x h = this_kind 3 is ∙ ap (λ (r : Result (Bytes × Cursor) ℕ). and_then r (λ b y. Ok (leaf b, y))) h

      -- any other number
      module _ (more : 4 ≤ kind) where
        hash_is : tree_within room in_fork last c ≡ and_then (field string_form (λ s. length s == HASH_SIZE) d) (λ hash y. Ok (pruned hash, y))
        hash_is = let four : kind ≡ suc (suc (suc (suc (kind - 4)))) = omega arith in kind_is ∙ ap (λ (n : ℕ). tree_of_kind deeper last n d) four

        pub hash_stops : (e : FieldError) → Fails e (field string_form (λ s. length s == HASH_SIZE) d) → Fails e (tree_within room in_fork last c)
        hash_stops e h = rw hash_is (stops e (field string_form (λ s. length s == HASH_SIZE) d) (λ hash y. Ok (pruned hash, y)) h)

        pub pruned_read : (hash : Bytes) (x : Cursor) → field string_form (λ s. length s == HASH_SIZE) d ≡ Ok (hash, x) → tree_within room in_fork last c ≡ Ok (pruned hash, x)
        pruned_read hash x h = hash_is ∙ ap (λ (r : Result (Bytes × Cursor) ℕ). and_then r (λ b y. Ok (pruned b, y))) h

-- ---- the last label of a fork

last_behind : (last : Option Bytes) (xs ys : List Bytes) → last_or last (xs ++ ys) ≡ last_or (last_or last xs) ys
last_behind last [] ys = refl
last_behind last (x ∷ xs) ys = last_behind (Some x) xs ys

pub last_of_fork : (last : Option Bytes) (left right : Tree) → last_label last (fork left right) ≡ last_label (last_label last left) right
last_of_fork last left right =
    ap (last_or last) (filter_map-append label_of (flatten left) (flatten right)) ∙ last_behind last (labels left) (labels right)

-- ---- all of a text

pub whole_read : (s : Bytes) (c d : Cursor) (t : Tree) → c ≡ behind_tag s → tree_within MAX_DEPTH false None c ≡ Ok (t, d) → length d.rest ≡ 0 → read_tree s ≡ Ok t
unfolding read_tree
whole_read s c d t start read end =
    ap (λ (x : Cursor). value_at_end (tree_within MAX_DEPTH false None x)) (sym start) ∙ ap value_at_end read ∙ rw (eq-eqb (length d.rest) 0 end) refl
