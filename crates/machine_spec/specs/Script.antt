-- A whole script, as the machine answers it.
use Rattle.std.specs.Prelude.{◌≡◌, List, []}
use Rattle.format_spec.specs.Bytes.{Bytes}
use Rattle.script_text.specs.Script.{lines}
use Rattle.script_text.specs.declared.command.Command.{Command}
use Rattle.script_text.specs.declared.reply.Refusal.{Refusal}
use Rattle.script_text.specs.declared.reply.Reply.TheVariants.{Refused}
use Rattle.machine_spec.specs.Answers.{Turn, turns_of_lines, answers, after_turns}
use Rattle.machine_spec.specs.Machine.{Machine, start}
use Rattle.machine_spec.specs.Step.{step}

-- the turns of a script, a line each
abbrev pub turns_of : Machine → Bytes → List Turn
turns_of m script = turns_of_lines m (lines script)

-- what is written for all of a script by a machine
abbrev pub output_by : Machine → Bytes → Bytes
output_by m script = answers (turns_of m script)

-- the same over an empty store
abbrev pub output_of : Bytes → Bytes
output_of script = output_by (start []) script

-- the machine once all of a script is answered
abbrev pub after_script : Machine → Bytes → Machine
after_script m script = after_turns m (turns_of m script)

-- the same over an empty store
abbrev pub machine_after : Bytes → Machine
machine_after script = after_script (start []) script

-- a command that is refused leaves the machine as it was
abbrev pub RefusalKeeps : Machine → Command → Refusal → Type 0
RefusalKeeps m command refusal = (step m command).reply ≡ Refused refusal → (step m command).after ≡ m
