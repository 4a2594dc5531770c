-- The steps of lines on heights, and of those that ask what a state hashes to.
use Rattle.std.specs.Prelude.{ℕ, ◌+◌, not, nat_le, nat_lt, [], ◌∷◌, ◌++◌, length, map, is_some}
use Rattle.format_spec.specs.declared.limits.TheConstants.{MAX_HEIGHT, MAX_HEIGHTS}
use Rattle.format_spec.specs.Bytes.{Bytes}
use Rattle.state_spec.specs.State.{State, system_of}
use Rattle.state_spec.specs.Manifest.{manifest_of}
use Rattle.state_spec.specs.ManifestText.{manifest_text}
use Rattle.state_spec.specs.Root.{meta_of, root_of}
use Rattle.store_spec.specs.Image.{heights_of}
use Rattle.script_text.specs.declared.command.HeightOrLive.{HeightOrLive}
use Rattle.script_text.specs.declared.reply.Reply.{Reply}
use Rattle.script_text.specs.declared.reply.Reply.TheVariants.{Fine, Heights, Root, Manifest, Round, Tree}
use Rattle.script_text.specs.declared.reply.Refusal.TheVariants.{ManyHeights, HeightLimit, NoHeight}
use Rattle.tree_spec.specs.Labelled.{state_tree}
use Rattle.tree_spec.specs.Tree.{reconstruct}
use Rattle.machine_spec.specs.Machine.{Machine, Outcome, outcome_of, unless, on_state, kept_at, without_height}

-- the root of a state's tree
unfoldable pub tree_root : State → Bytes
tree_root s = reconstruct (state_tree (system_of s))

-- `round` keeps the live state at its height, and goes on at the next one
abbrev pub round_step : Machine → Outcome
round_step m =
    unless (
    (nat_le MAX_HEIGHTS (length m.memory), ManyHeights)
    ∷ (nat_lt MAX_HEIGHT m.height, HeightLimit)
    ∷ []
    ) m (λ m. outcome_of (Round m.height (tree_root m.live))
    (record m { height = m.height + 1; memory = m.memory ++ (m.height, m.live) ∷ [] }))

-- `forget H` drops a state from memory
abbrev pub forget_step : Machine → ℕ → Outcome
forget_step m h =
    unless (
    (not (is_some (kept_at h m.memory)), NoHeight)
    ∷ []
    ) m (λ m. outcome_of Fine (record m { memory = without_height h m.memory }))

-- `heights`
abbrev pub heights_step : Machine → Outcome
heights_step m = outcome_of (Heights m.height (map (λ k. k.0) m.memory) (heights_of m.published)) m

-- `tree HL`
abbrev pub tree_step : Machine → HeightOrLive → Outcome
tree_step m at = on_state m at (λ s. outcome_of (Tree (tree_root s)) m)

-- `root HL`
abbrev pub root_step : Machine → HeightOrLive → Outcome
root_step m at = on_state m at (λ s. outcome_of (Root (root_of s)) m)

-- what the manifest of a state counts: its file rows, its chunk rows, its pieces and the bytes of its text
unfoldable pub counts_of : State → Reply
counts_of s =
    Manifest (length (manifest_of s).files) (length (manifest_of s).chunks)
    (length (meta_of (manifest_of s)).pieces) (length (manifest_text (manifest_of s)))

-- `manifest HL`
abbrev pub manifest_step : Machine → HeightOrLive → Outcome
manifest_step m at = on_state m at (λ s. outcome_of (counts_of s) m)
