-- What calls answer, as the definitions have it.
use Rattle.std.specs.Prelude.{◌≡◌, ◌≢◌, ◌⊎◌, List, ◌++◌, Result, Ok, Err}
use Rattle.format_spec.specs.Bytes.{Bytes}
use Rattle.format_spec.specs.Hashes.{Clash}
use Rattle.state_spec.specs.State.{State, IsState, system_of}
use Rattle.tree_spec.specs.Tree.{Tree, reconstruct, hashed_strings}
use Rattle.tree_spec.specs.Labelled.{state_tree}
use Rattle.tree_spec.specs.Cbor.{read_tree}
use Rattle.byte_codec.specs.declared.error.NoMemory.{NoMemory}
use Rattle.tree_spec.specs.Lookup as tree
use Rattle.witness.specs.declared.looking.Looked.{Looked}
use Rattle.witness.specs.declared.looking.Looked.TheVariants.{Found, Absent, Unknown, Error}
use Rattle.witness.specs.declared.checking.Checked.{Checked}
use Rattle.witness.specs.declared.checking.Checked.TheVariants as CheckedVariants
use Rattle.witness.specs.declared.error.WitnessError.{WitnessError}
use Rattle.witness.specs.declared.error.WitnessError.TheVariants.{BadWitness, WrongRoot, Memory}

-- what a tree tells of a path
abbrev pub answer_of_look : Looked → tree.Looked
answer_of_look (Found bytes) = tree.found bytes.now
answer_of_look Absent = tree.absent
answer_of_look Unknown = tree.unknown
answer_of_look Error = tree.error

abbrev pub answer_of_check : Checked → tree.Looked
answer_of_check (CheckedVariants.Found bytes) = tree.found bytes
answer_of_check CheckedVariants.Absent = tree.absent
answer_of_check CheckedVariants.Unknown = tree.unknown
answer_of_check CheckedVariants.Error = tree.error

-- what a check of a text against a root answers for a path
abbrev pub Checks : Bytes → Bytes → List Bytes → Result Checked WitnessError → Type 0
Checks root text path (Ok told) =
    (t : Tree) × (read_tree text ≡ Ok t) × (reconstruct t ≡ root) × (answer_of_check told ≡ tree.lookup path t)
Checks root text path (Err (BadWitness place)) = read_tree text ≡ Err place
Checks root text path (Err (WrongRoot hash)) =
    (t : Tree) × (read_tree text ≡ Ok t) × (hash ≡ reconstruct t) × (hash ≢ root)
Checks root text path (Err Memory) = Unit {0}

-- there was memory enough
abbrev pub IsAnswered : Result Checked WitnessError → Type 0
IsAnswered (Err Memory) = ⊥
IsAnswered result = Unit {0}

-- what was told of a path, the tree of every valid state with this root tells too; or a string hashed for the tree in
-- the text and another one hashed for the state's tree have one hash
abbrev pub TellsTruth : Bytes → Bytes → List Bytes → Checked → Type 0
TellsTruth root text path told =
    (t : Tree) (s : State) → read_tree text ≡ Ok t → answer_of_check told ≢ tree.unknown
    → IsState s → reconstruct (state_tree (system_of s)) ≡ root
    → (answer_of_check told ≡ tree.lookup path (state_tree (system_of s)))
    ⊎ Clash (hashed_strings t) (hashed_strings (state_tree (system_of s)))

-- the text stands behind what was there, unless memory ran out
abbrev pub Spells : Result (Unit {0}) NoMemory → Bytes → Bytes → Bytes → Type 0
Spells (Ok _) old new text = new ≡ old ++ text
Spells (Err e) old new text = Unit {0}
