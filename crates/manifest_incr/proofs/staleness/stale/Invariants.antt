use Rattle.std.proofs.Common.{◌≡◌}
use Rattle.std.specs.List.{filter, range_with_len}
use Rattle.page_spec.specs.Layers.{is_stale}
use Rattle.manifest_incr.proofs.Choosing.{IsAt}
use Rattle.manifest_incr.proofs.staleness.stale.Given as goal

abbrev pub invariant-loop-chunk : goal.invariant-loop-chunk
invariant-loop-chunk l = record {
  at : IsAt l.dirty l.chunk l.at;
  chunks : l.chunks.items ≡ filter (is_stale l.dirty l.old l.new) (range_with_len 0 l.chunk);
}
