-- What one turn of a run does: a line is read and its answer is written. `in_memory` says which machines the manager and its disk keep
-- before it, and `now_kept` which they keep after it.
use Rattle.std.specs.Prelude.{◌≡◌, ℕ, Bool, IsTrue, ◌∷◌, [], ◌++◌, Option, Result, Ok, Err}
use Rattle.format_spec.specs.Bytes.{Bytes}
use Rattle.disk_model.specs.View.{DiskView, LeavesOnly}
use Rattle.height_store.specs.Kept.{StandsForEither}
use Rattle.io_edge.specs.Faults.{IsProperPrefix}
use Rattle.machine_spec.specs.Answers.{Turn, turn_of, answer, reply_to, after_line, after_turn, FitsLine}
use Rattle.machine_spec.specs.Machine.{Machine}
use Rattle.script_text.specs.Commands.{parsed_line}
use Rattle.script_text.specs.declared.ending.RunStop.{RunStop}
use Rattle.script_text.specs.declared.reply.Reply.{Reply}
use Rattle.state_cli.specs.Ends.{EndsFrom, IsOpen, IsTurn, all_shown}
use Rattle.state_cli.specs.declared.session.Continuation.{Continuation}
use Rattle.state_cli.specs.declared.session.Continuation.TheVariants.{More, Finished}
use Rattle.state_cli.specs.declared.session.LineError.{LineError}
use Rattle.state_cli.specs.declared.session.LineError.TheVariants as answering

-- meanwhile every image stands for the heights before the line or for those after it
abbrev pub KeepsImages : Bool → (Machine → Type 0) → DiskView → DiskView → Bytes → Type 0
KeepsImages tells kept old new line =
    IsTrue tells → (m : Machine) → kept m → LeavesOnly old new (StandsForEither m.published (after_line m line).published)

-- the bytes are the answer of this turn, whose reply is that of each machine that was kept
pub record IsAnswer (tells : Bool) (kept now_kept : Machine → Type 0) (turn : Turn) (bytes : Bytes) : Type 0 where
  pub replied : FitsLine (parsed_line turn.line) turn.reply
  pub bytes_are : bytes ≡ answer turn
  pub plays : IsTrue tells → (m : Machine) → kept m → (turn.reply ≡ reply_to m turn.line) × now_kept (after_turn m turn)

-- the same of a line and some reply to it
abbrev pub AnswersLine : Bool → (Machine → Type 0) → (Machine → Type 0) → Bytes → Bytes → Type 0
AnswersLine tells kept now_kept line bytes = (reply : Option Reply) × IsAnswer tells kept now_kept (turn_of line reply) bytes

-- what was written for a line, by what doing and writing it answered
abbrev pub WritesLine : Result Unit LineError → Bool → (Machine → Type 0) → (Machine → Type 0) → Bytes → Bytes → Type 0
WritesLine (Ok done) tells kept now_kept line gained = AnswersLine tells kept now_kept line gained
WritesLine (Err answering.WriteFault) tells kept now_kept line gained =
    (bytes : Bytes) × AnswersLine tells kept now_kept line bytes × IsProperPrefix gained bytes
WritesLine (Err e) tells kept now_kept line gained = gained ≡ []

-- a line was taken with its line feed, and is answered
pub record TakesOne (tells : Bool) (kept now_kept : Machine → Type 0) (old new : DiskView) (taken gained : Bytes) : Type 0 where
  pub turn : Turn
  pub good : IsTurn turn
  pub taken_is : taken ≡ turn.line ++ 10 ∷ []
  pub answered : IsAnswer tells kept now_kept turn gained
  pub images : KeepsImages tells kept old new turn.line

-- the bytes taken and gained behind so many lines, by what the turn answers: a turn that isn't followed by another ends the run
abbrev pub TakesTurn : Result Continuation RunStop → ℕ → Bool → (Machine → Type 0) → (Machine → Type 0) → Type 0 → DiskView → DiskView → Bytes → Bytes → Type 0
TakesTurn (Ok More) before tells kept now_kept ended old new taken gained = TakesOne tells kept now_kept old new taken gained
TakesTurn (Ok Finished) before tells kept now_kept ended old new taken gained =
    EndsFrom before (Ok tt) tells kept all_shown IsOpen ended old new taken gained
TakesTurn (Err stop) before tells kept now_kept ended old new taken gained =
    EndsFrom before (Err stop) tells kept all_shown IsOpen ended old new taken gained
