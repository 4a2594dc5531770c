use Rattle.std.proofs.Common.{◌≡◌, map}
use Rattle.sync_serve.proofs.roots.RootPeers.over.Given as goal

abbrev pub invariant-loop-disk : goal.invariant-loop-disk
invariant-loop-disk g l =
    (goal.iterator-loop-disk g).can_next l.disk-iterator ×
    (goal.iterator-loop-disk g).is_finite l.disk-iterator ×
    (map (λ root. root.disk) l.roots.items ≡ l.yielded)
