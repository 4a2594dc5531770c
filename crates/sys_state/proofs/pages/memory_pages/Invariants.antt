use Rattle.std.proofs.Common.{◌≡◌, take}
use Rattle.sys_state.proofs.MemoryPages.{pages_in}
use Rattle.sys_state.proofs.pages.memory_pages.Given as goal

abbrev pub invariant-loop-i : goal.invariant-loop-i
invariant-loop-i l = l.pages.items ≡ pages_in (take l.i l.sys.canisters)
