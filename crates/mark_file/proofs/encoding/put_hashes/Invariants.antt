use Rattle.std.proofs.Common.{◌≡◌, ◌++◌, take}
use Rattle.std.specs.List.{flat_map}
use Rattle.mark_file.proofs.encoding.put_hashes.Given as goal

abbrev pub invariant-loop-hash : goal.invariant-loop-hash
invariant-loop-hash l = l.text.items ≡ l.initial.text.items ++ flat_map (λ hash. hash) (take l.hash-index l.hashes)
