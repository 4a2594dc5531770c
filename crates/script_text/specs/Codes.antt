-- The number that the program ends with.
use Rattle.std.specs.Prelude.{ℕ}
use Rattle.script_text.specs.declared.status.Status.{Status}
use Rattle.script_text.specs.declared.status.Status.TheVariants.{Done, Usage, ReadFault, WriteFault, DiskFault, BadRoot, LongLine, ManyLines, Memory}

abbrev pub code_of : Status → ℕ
code_of Done = 0
code_of Usage = 1
code_of ReadFault = 3
code_of WriteFault = 4
code_of DiskFault = 5
code_of BadRoot = 6
code_of LongLine = 7
code_of ManyLines = 8
code_of Memory = 9
