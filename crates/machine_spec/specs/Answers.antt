-- What a script is answered, turn by turn.
use Rattle.std.specs.Prelude.{◌≡◌, List, [], ◌∷◌, ◌++◌, map, Option, Some, None, codes}
use Rattle.format_spec.specs.Bytes.{Bytes}
use Rattle.script_text.specs.declared.parsing.Parsed.{Parsed}
use Rattle.script_text.specs.declared.parsing.Parsed.TheVariants.{BadLine, Line}
use Rattle.script_text.specs.declared.reply.Reply.{Reply}
use Rattle.script_text.specs.Commands.{parsed_line}
use Rattle.script_text.specs.Texts.{reply_text, bad_line_text}
use Rattle.machine_spec.specs.Machine.{Machine}
use Rattle.machine_spec.specs.Step.{step}

-- one turn of a run: a line that was read, and the reply to it, none where the line is no command
pub record Turn : Type 0 where
  pub line : Bytes
  pub reply : Option Reply

abbrev pub turn_of : Bytes → Option Reply → Turn
turn_of line reply = record { line = line; reply = reply }

abbrev pub lines_of : List Turn → List Bytes
lines_of turns = map (λ turn. turn.line) turns

-- ---- what is written, whatever a reply says

-- there is a reply exactly where a line is a command
abbrev pub FitsLine : Parsed → Option Reply → Type 0
FitsLine (Line command) (Some reply) = Unit {0}
FitsLine (Line command) None = ⊥
FitsLine _ (Some reply) = ⊥
FitsLine _ None = Unit {0}

-- the bytes written for a line: its reply and a line feed, `refused BadLine` where it fits no form, none where it is silent
abbrev pub text_for : Parsed → Option Reply → Bytes
text_for (Line command) (Some reply) = reply_text reply ++ codes "\n"
text_for BadLine reply = bad_line_text ++ codes "\n"
text_for _ reply = []

unfoldable pub answer : Turn → Bytes
answer turn = text_for (parsed_line turn.line) turn.reply

-- the bytes written for turns, in order
abbrev pub answers : List Turn → Bytes
answers [] = []
answers (turn ∷ turns) = answer turn ++ answers turns

-- ---- what the machine replies

abbrev pub reply_by : Machine → Parsed → Option Reply
reply_by m (Line command) = Some (step m command).reply
reply_by m _ = None

-- a line that is no command changes nothing
abbrev pub after_by : Machine → Parsed → Machine
after_by m (Line command) = (step m command).after
after_by m _ = m

unfoldable pub reply_to : Machine → Bytes → Option Reply
reply_to m line = reply_by m (parsed_line line)

unfoldable pub after_line : Machine → Bytes → Machine
after_line m line = after_by m (parsed_line line)

abbrev pub after_turn : Machine → Turn → Machine
after_turn m turn = after_line m turn.line

abbrev pub after_turns : Machine → List Turn → Machine
after_turns m [] = m
after_turns m (turn ∷ turns) = after_turns (after_turn m turn) turns

-- the replies of these turns are those of the machine, one after another
abbrev pub Plays : Machine → List Turn → Type 0
Plays m [] = Unit {0}
Plays m (turn ∷ turns) = (turn.reply ≡ reply_to m turn.line) × Plays (after_turn m turn) turns

-- the turns of the machine for these lines
abbrev pub turns_of_lines : Machine → List Bytes → List Turn
turns_of_lines m [] = []
turns_of_lines m (line ∷ others) = turn_of line (reply_to m line) ∷ turns_of_lines (after_line m line) others
