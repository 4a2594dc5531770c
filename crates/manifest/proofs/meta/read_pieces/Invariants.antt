use Rattle.std.proofs.Common.{◌≡◌, ◌-◌, [], length}
use Rattle.format_spec.specs.Fields.{each, field, block, any}
use Rattle.manifest.proofs.meta.read_pieces.Given as goal

abbrev pub invariant-loop : goal.invariant-loop
invariant-loop l =
    (each (λ (before : _). field (block 32) any) (l.count - l.counter) l.hashes.items l.reader ≡ each (λ (before : _). field (block 32) any) l.count [] l.fn.reader)
    × (length l.hashes.items ≡ l.counter)
