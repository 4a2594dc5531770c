-- What is served from published heights.
use Rattle.std.specs.Prelude.{◌≡◌, ℕ, if◌then◌else◌, List, map, Option, Result, Some, None, IfOk}
use Rattle.std.specs.Option.{option_map}
use Rattle.format_spec.specs.Bytes.{Bytes, same_bytes}
use Rattle.state_spec.specs.State.{State}
use Rattle.store_spec.specs.Image.{Published, StandsFor}
use Rattle.disk_model.specs.declared.disk.DiskError.{DiskError}
use Rattle.disk_model.specs.declared.disk.DiskError.TheVariants as disk
use Rattle.disk_model.specs.Files.{Files}
use Rattle.height_store.specs.Kept.{ShowsHeights}
use Rattle.height_store.specs.Store.{Store, StoredHeight, height_at}
use Rattle.sync_spec.specs.Messages.{Ask, Content, read_ask, answer_text}
use Rattle.sync_spec.specs.Serving.{serve}
use Rattle.sync_serve.specs.declared.error.ServeError.{ServeError}
use Rattle.sync_serve.specs.declared.error.ServeError.TheVariants.{Fault, Memory}

abbrev pub serve_error : DiskError → ServeError
serve_error disk.Fault = Fault
serve_error disk.Memory = Memory

-- published heights, each with its state
abbrev pub states_in : List Published → List (ℕ × State)
states_in ps = map (λ p. (p.height, p.state)) ps

-- the text of the answer to these bytes from published heights; none where they spell no ask
abbrev pub answer_from : List Published → Bytes → Option Bytes
answer_from ps bytes = option_map (λ ask. answer_text (serve (states_in ps) ask)) (read_ask bytes)

-- the text answers this ask, with whatever content
abbrev pub IsAnswerTo : Ask → Bytes → Type 0
IsAnswerTo ask text = (content : Content) × (text ≡ answer_text (record { ask = ask; content = content }))

-- what is answered to these bytes is the answer from the published heights that these files show
abbrev pub IsServed : Files → List StoredHeight → Bytes → Result Bytes ServeError → Type 0
IsServed files hs bytes result = (ps : List Published) → ShowsHeights files hs ps → IfOk result (λ answer. answer_from ps bytes ≡ Some answer)

-- ---- the height that is asked for

abbrev pub with_root : Bytes → Option StoredHeight → Option StoredHeight
with_root root None = None
with_root root (Some h) = if same_bytes h.mark.root root then Some h else None

-- the one of this height, where it has this root hash
abbrev pub target_at : List StoredHeight → ℕ → Bytes → Option StoredHeight
target_at hs height root = with_root root (height_at hs height)

-- ---- servers and stores

-- a store, and the disk that it was opened over
pub record Serving (D : Type 0) : Type 0 where
  pub store : Store
  pub disk : D

-- what is answered to these bytes is the answer from the heights that these files stand for
abbrev pub Serves : {E : Type 0} → Files → Bytes → Result Bytes E → Type 0
Serves files bytes result = (ps : List Published) → StandsFor files ps → IfOk result (λ answer. answer_from ps bytes ≡ Some answer)
