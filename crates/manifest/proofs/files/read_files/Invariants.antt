use Rattle.manifest.proofs.FileLoops.{ReadSoFar}
use Rattle.manifest.proofs.files.read_files.Given as goal

abbrev pub invariant-loop : goal.invariant-loop
invariant-loop l = ReadSoFar l.version l.count l.counter l.files.items l.last l.total l.fn.reader l.reader
