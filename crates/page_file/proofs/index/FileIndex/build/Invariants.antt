use Rattle.page_file.proofs.Build.{Has}
use Rattle.page_file.proofs.index.FileIndex.build.Given as goal

abbrev pub invariant-loop-i : goal.invariant-loop-i
invariant-loop-i l = Has l.memory l.pages l.i l.ranges.items l.last
