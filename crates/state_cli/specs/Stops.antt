-- Why a run stops where the disk does not open, or a line is not read or not answered.
use Rattle.state_manager.specs.declared.stop.OpenError.{OpenError}
use Rattle.state_manager.specs.declared.stop.OpenError.TheVariants as opening
use Rattle.state_manager.specs.declared.stop.Stop.{Stop}
use Rattle.state_manager.specs.declared.stop.Stop.TheVariants as stops
use Rattle.script_text.specs.declared.ending.RunStop.{RunStop}
use Rattle.script_text.specs.declared.ending.RunStop.TheVariants.{ReadFault, WriteFault, DiskFault, BadMark, BadPage, Memory}
use Rattle.state_cli.specs.declared.reading.ReadError.{ReadError}
use Rattle.state_cli.specs.declared.reading.ReadError.TheVariants as reading
use Rattle.state_cli.specs.declared.session.LineError.{LineError}
use Rattle.state_cli.specs.declared.session.LineError.TheVariants as answering

abbrev pub stop_of : ReadError → RunStop
stop_of reading.Fault = ReadFault
stop_of reading.Memory = Memory

abbrev pub stop_of_line : LineError → RunStop
stop_of_line answering.WriteFault = WriteFault
stop_of_line answering.DiskFault = DiskFault
stop_of_line answering.Memory = Memory

abbrev pub stop_of_opening : OpenError → RunStop
stop_of_opening (opening.BadMark height) = BadMark height
stop_of_opening (opening.BadPage number) = BadPage number
stop_of_opening opening.Fault = DiskFault
stop_of_opening opening.Memory = Memory

-- a manager that is closed has stopped before, and is not asked again
abbrev pub line_error_of : Stop → LineError
line_error_of stops.Disk = answering.DiskFault
line_error_of stops.Memory = answering.Memory
line_error_of stops.Closed = answering.Memory
