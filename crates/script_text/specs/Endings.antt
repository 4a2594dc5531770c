-- How a run ends: its status, and its last line.
use Rattle.std.specs.Prelude.{ℕ, [], ◌∷◌, ◌++◌, codes, decimal, Option, Some, None, Result, Ok, Err}
use Rattle.format_spec.specs.Bytes.{Bytes}
use Rattle.script_text.specs.declared.ending.RunStop.{RunStop}
use Rattle.script_text.specs.declared.ending.RunStop.TheVariants as stops
use Rattle.script_text.specs.declared.status.Status.{Status}
use Rattle.script_text.specs.declared.status.Status.TheVariants.{Done, Usage, ReadFault, WriteFault, DiskFault, BadRoot, LongLine, ManyLines, Memory}

-- the status of a run that came to the end of its script, or stopped
abbrev pub status_of : Result Unit RunStop → Status
status_of (Ok done) = Done
status_of (Err stops.Usage) = Usage
status_of (Err stops.ReadFault) = ReadFault
status_of (Err stops.WriteFault) = WriteFault
status_of (Err stops.DiskFault) = DiskFault
status_of (Err (stops.BadMark height)) = BadRoot
status_of (Err (stops.BadPage number)) = BadRoot
status_of (Err (stops.LongLine number)) = LongLine
status_of (Err stops.ManyLines) = ManyLines
status_of (Err stops.Memory) = Memory

-- the last line of a stop; where the sink failed there is none
abbrev pub closing_text : RunStop → Bytes
closing_text stops.Usage = codes "usage: icstate [--cache PAGES] [--peers K] [--generate N] [--seed S]\n"
closing_text stops.ReadFault = codes "stopped: read fault\n"
closing_text stops.WriteFault = []
closing_text stops.DiskFault = codes "stopped: disk fault\n"
closing_text (stops.BadMark height) = codes "stopped: bad mark " ++ decimal height ++ codes "\n"
closing_text (stops.BadPage number) = codes "stopped: bad page " ++ decimal number ++ codes "\n"
closing_text (stops.LongLine number) = codes "stopped: long line " ++ decimal number ++ codes "\n"
closing_text stops.ManyLines = codes "stopped: many lines\n"
closing_text stops.Memory = codes "stopped: no memory\n"

-- a text, and where there is a number, that and a line feed
abbrev pub with_number : Bytes → Option ℕ → Bytes
with_number text None = text
with_number text (Some number) = text ++ decimal number ++ codes "\n"
