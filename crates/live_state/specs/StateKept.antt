-- What is held of a state at its height, and which plain machines it keeps.
use Rattle.std.specs.Prelude.{◌≡◌, ◌≤◌, ℕ, true, List, Option, Result, Ok, Err, IfSome}
use Rattle.std.specs.FinMap.{is_sorted}
use Rattle.byte_codec.specs.declared.error.NoMemory.{NoMemory}
use Rattle.format_spec.specs.Bytes.{Bytes, bytes_cmp}
use Rattle.state_spec.specs.State.{State, memory_bytes}
use Rattle.tree_spec.specs.Labelled.{state_tree}
use Rattle.sys_state.specs.System.{System, kept_of, part_of}
use Rattle.hash_tree.specs.declared.tree.HashTree.{HashTree}
use Rattle.hash_tree.specs.View.{tree_view}
use Rattle.script_text.specs.declared.command.Command.{Command}
use Rattle.script_text.specs.declared.reply.Reply.{Reply}
use Rattle.machine_spec.specs.Machine.{Machine, Outcome}
use Rattle.machine_spec.specs.Step.{step}
use Rattle.sys_state.specs.Memories.{HaveSizes, AreWithin}

-- the state but for its memories, their bytes in the order of files, and its height
pub record StateView : Type 0 where
  pub system : System
  pub memories : List Bytes
  pub height : ℕ

-- Each memory has as many bytes as its pages have, all are within the limits of version 1, heights begin at 1, and a tree
-- that is kept is the state's.
pub record IsStateView (held : StateView) (tree : Option HashTree) : Type 0 where
  pub sizes : HaveSizes held.system.canisters held.memories
  pub within : AreWithin 1 held.memories
  pub from_one : 1 ≤ held.height
  pub kept : IfSome tree (λ t. tree_view t ≡ state_tree (part_of held.system))

-- It is this state at this height, but for the rounds of pages, on which no reply depends. The canisters are in order of
-- ids, as every step keeps them.
pub record KeepsState (held : StateView) (k : ℕ × State) : Type 0 where
  pub version : k.1.version ≡ 1
  pub sorted : is_sorted bytes_cmp k.1.canisters ≡ true
  pub system : held.system ≡ kept_of k.1
  pub memories : held.memories ≡ memory_bytes k.1
  pub height : held.height ≡ k.0

-- the live state of a machine, at its height
abbrev pub live_of : Machine → ℕ × State
live_of m = (m.height, m.live)

-- the reply is that of the outcome, and the live state of the machine after it is kept
abbrev pub AfterState : Result Reply NoMemory → StateView → Outcome → Type 0
AfterState (Ok reply) now outcome = (reply ≡ outcome.reply) × KeepsState now (live_of outcome.after)
AfterState (Err e) now outcome = Unit {0}

-- the same of the machine's step for a command
abbrev pub PerformsState : Result Reply NoMemory → StateView → Machine → Command → Type 0
PerformsState result now m command = AfterState result now (step m command)
