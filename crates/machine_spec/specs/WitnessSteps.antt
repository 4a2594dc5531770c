-- The steps of lines on witnesses.
use Rattle.std.specs.Prelude.{ℕ, if◌then◌else◌, List, Result, Ok, Err}
use Rattle.format_spec.specs.Bytes.{Bytes, same_bytes}
use Rattle.state_spec.specs.State.{State, system_of}
use Rattle.tree_spec.specs.Cbor.{cbor, read_tree}
use Rattle.tree_spec.specs.Lookup.{Looked, found, absent, unknown, error, lookup}
use Rattle.tree_spec.specs.Tree.{Tree, reconstruct}
use Rattle.tree_spec.specs.Witness.{witness}
use Rattle.script_text.specs.declared.command.HeightOrLive.{HeightOrLive}
use Rattle.script_text.specs.declared.reply.Reply.{Reply}
use Rattle.script_text.specs.declared.reply.Reply.TheVariants.{Witness, Found, Absent, Unknown, Error, Refused}
use Rattle.script_text.specs.declared.reply.Refusal.TheVariants.{BadWitness, WrongRoot}
use Rattle.machine_spec.specs.Machine.{Machine, Outcome, outcome_of, on_state}

-- the CBOR of the witness of some paths in a state
unfoldable pub witness_text : State → List (List Bytes) → Bytes
witness_text s paths = cbor (witness (system_of s) paths)

-- `witness HL PATH ..`
abbrev pub witness_step : Machine → HeightOrLive → List (List Bytes) → Outcome
witness_step m at paths = on_state m at (λ s. outcome_of (Witness (witness_text s paths)) m)

abbrev pub reply_of_look : Looked → Reply
reply_of_look (found bytes) = Found bytes
reply_of_look absent = Absent
reply_of_look unknown = Unknown
reply_of_look error = Error

-- what a witness that was read tells of a path, where it has this root
abbrev pub reply_of_witness : Bytes → List Bytes → Result Tree ℕ → Reply
reply_of_witness root path (Ok tree) =
    if same_bytes (reconstruct tree) root then reply_of_look (lookup path tree) else Refused (WrongRoot (reconstruct tree))
reply_of_witness root path (Err place) = Refused (BadWitness place)

-- `check ROOT HEX PATH`
abbrev pub check_step : Machine → Bytes → Bytes → List Bytes → Outcome
check_step m root bytes path = outcome_of (reply_of_witness root path (read_tree bytes)) m
