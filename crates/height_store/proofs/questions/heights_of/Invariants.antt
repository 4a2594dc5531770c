use Rattle.std.proofs.Common.{◌≡◌, take}
use Rattle.height_store.specs.Store.{heights_in}
use Rattle.height_store.proofs.questions.heights_of.Given as goal

abbrev pub invariant-loop-one : goal.invariant-loop-one
invariant-loop-one l = l.heights.items ≡ heights_in (take l.one-index l.kept)
