use Rattle.std.proofs.Common.{◌≡◌, Some, map, take}
use Rattle.format_spec.specs.Bytes.{Bytes}
use Rattle.hash_domain.proofs.sums.all_sums.Given as goal

abbrev pub invariant-hashes : goal.invariant-hashes
invariant-hashes l = l.sums.items ≡ map (λ (h : Bytes). Some h) (take l.hash-index l.hash-items)
