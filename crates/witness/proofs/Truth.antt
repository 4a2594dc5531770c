-- What a checked witness tells is true, or two strings clash.
use Rattle.std.proofs.Common.{◌≡◌, ◌≢◌, ◌⊎◌, Bool, true, false, not, List, Ok, inl, inr, refl, sym, ap, ◌∙◌}
use Rattle.std.specs.Prelude.{bytes_eq}
use Rattle.std.specs.Cmp.Lexicographic.{bytes_decides}
use Rattle.format_spec.specs.Bytes.{Bytes, IsBytes}
use Rattle.format_spec.specs.Hashes.{Clash}
use Rattle.format_spec.proofs.Readings.{ok_is}
use Rattle.state_spec.specs.State.{system_of}
use Rattle.tree_spec.specs.Tree.{Tree, reconstruct, hashed_strings}
use Rattle.tree_spec.specs.Labelled.{state_tree}
use Rattle.tree_spec.specs.Lookup.{Looked, lookup, unknown}
use Rattle.tree_spec.specs.Cbor.{read_tree}
use Rattle.soundness.proofs.Witnessed.{witness_tells}
use Rattle.witness.specs.declared.checking.Checked.{Checked}
use Rattle.witness.specs.Answers.{answer_of_check, TellsTruth}

not_first : (A B : Type 0) → (A → ⊥) → A ⊎ B → B
not_first A B never (inl a) = absurd (never a)
not_first A B never (inr b) = b

known : (told looked : Looked) (right : Looked) (C : Type 0) → told ≡ looked → told ≢ unknown → (looked ≡ unknown) ⊎ ((looked ≡ right) ⊎ C) → (told ≡ right) ⊎ C
known told looked right C is some h =
    elim (not_first (looked ≡ unknown) ((looked ≡ right) ⊎ C) (λ u. some (is ∙ u)) h) [ inl e ↦ inl (is ∙ e) | inr c ↦ inr c ]

pub same_hash : (a b : Bytes) → false ≡ not (bytes_eq a b) → a ≡ b
same_hash a b e = go (bytes_eq a b) refl e
  where
    go : (x : Bool) → bytes_eq a b ≡ x → false ≡ not x → a ≡ b
    go true is h = (bytes_decides a b).0 is
    go false is h = absurd cc

pub told_true : (root text : Bytes) (path : List Bytes) (told : Checked) (t : Tree) → IsBytes text → read_tree text ≡ Ok t → reconstruct t ≡ root → answer_of_check told ≡ lookup path t
    → TellsTruth root text path told
told_true root text path told t bytes read same is = λ u s again some good state.
    let one : u ≡ t = ok_is u t (sym again ∙ read) in
    known (answer_of_check told) (lookup path u) (lookup path (state_tree (system_of s))) (Clash (hashed_strings u) (hashed_strings (state_tree (system_of s))))
    (is ∙ ap (lookup path) (sym one)) some
    (witness_tells text u s path bytes again good (ap reconstruct one ∙ same ∙ sym state))
