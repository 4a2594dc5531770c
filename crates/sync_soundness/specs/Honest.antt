-- What a store that has the state answers, judged by what is known of the state.
use Rattle.std.specs.Prelude.{◌≡◌, ℕ, ◌<◌, ◌==◌, ◌&&◌, true, find, length, Some, IsTrue}
use Rattle.std.specs.List.{AllByRecursion}
use Rattle.format_spec.specs.Bytes.{same_bytes}
use Rattle.state_spec.specs.State.{State, IsState}
use Rattle.state_spec.specs.Manifest.{manifest_of}
use Rattle.state_spec.specs.Root.{meta_of, root_of}
use Rattle.sync_spec.specs.Messages.{Item, meta, piece, chunk, Ask, IsAsk, answer_text, read_answer}
use Rattle.sync_spec.specs.Serving.{Known, is_taken, root, pieces, rows, serve}
use Rattle.sync_spec.specs.Sync.{Heights, Sync, known_at, is_right_at}
use Rattle.sync_spec.specs.SyncLaws.{message_brings}

-- by what an item of this state is judged
abbrev pub known_of : State → Item → Known
known_of s meta = root (root_of s)
known_of s (piece i) = pieces (meta_of (manifest_of s))
known_of s (chunk i) = rows (manifest_of s)

-- the state has this item; the meta-manifest of a version that isn't taken is right for no sync
abbrev pub IsItemOf : State → Item → Type 0
IsItemOf s meta = IsTrue (is_taken s.version)
IsItemOf s (piece i) = i < length (meta_of (manifest_of s)).pieces
IsItemOf s (chunk i) = i < length (manifest_of s).chunks

-- An ask for an item of a published state is answered by the right bytes.
abbrev pub ServesRight : Heights → Ask → ℕ × State → Type 0
ServesRight heights ask p =
    AllByRecursion (λ p. IsState p.1) heights → find (λ p. p.0 == ask.height && same_bytes (root_of p.1) ask.root) heights ≡ Some p → IsItemOf p.1 ask.item
    → (root_of p.1 ≡ ask.root) × (is_right_at (Some (known_of p.1 ask.item)) ask.item (serve heights ask).content ≡ true)

-- The message of a store that has the state brings the item to a sync that judges it by what is so of that state.
abbrev pub BringsServed : Heights → Ask → ℕ × State → Sync → Type 0
BringsServed heights ask p s =
    AllByRecursion (λ p. IsState p.1) heights → find (λ p. p.0 == ask.height && same_bytes (root_of p.1) ask.root) heights ≡ Some p → IsItemOf p.1 ask.item
    → IsAsk ask → ask.height ≡ s.height → ask.root ≡ s.root → known_at s.root s.stage ≡ Some (known_of p.1 ask.item)
    → message_brings s (read_answer (answer_text (serve heights ask))) ask.item ≡ true
