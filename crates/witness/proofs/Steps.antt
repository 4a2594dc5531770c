-- One label of a path.
use Rattle.std.proofs.Common.{◌≡◌, ℕ, ◌+◌, ◌<◌, ◌≤◌, List, ◌∷◌, drop, length, get_or, sym, ap, ◌∙◌}
use Rattle.std.proofs.lemmas.List.{at_drop_more, at_drop_all}
use Rattle.format_spec.specs.Bytes.{Bytes}
use Rattle.tree_spec.specs.Tree.{Tree}
use Rattle.tree_spec.specs.Lookup.{at_end, lookup}

-- the next label of a path
pub at_label : (items path : List Bytes) (i : ℕ) (item label : Bytes) (t : Tree) → items ≡ path → i < length items → item ≡ get_or items i item → label ≡ item
    → lookup (drop i path) t ≡ lookup (label ∷ drop (i + 1) path) t
at_label items path i item label t same lt there is =
    ap (λ (p : List Bytes). lookup (drop i p) t) (sym same)
    ∙ at_drop_more (λ (p : List Bytes). lookup p t) items i item lt
    ∙ ap (λ (l : Bytes). lookup (l ∷ drop (i + 1) items) t) (sym there ∙ sym is)
    ∙ ap (λ (p : List Bytes). lookup (label ∷ drop (i + 1) p) t) same

-- the end of a path
pub at_path_end : (items path : List Bytes) (i : ℕ) (t : Tree) → items ≡ path → length items ≤ i → lookup (drop i path) t ≡ at_end t
unfolding lookup
at_path_end items path i t same le =
    ap (λ (p : List Bytes). lookup (drop i p) t) (sym same) ∙ at_drop_all (λ (p : List Bytes). lookup p t) items i le
