use Rattle.std.proofs.Common.{◌∙◌, ap, rules, map, ℕ, min, length}
use Rattle.std.specs.Slice.Iter.{chunks_rest}
use Rattle.format_spec.specs.Bytes.{parts}
use Rattle.state_spec.specs.Manifest.{sum_of}
use Rattle.hash_domain.proofs.Summing.{sums_more, sums_all}
use Rattle.hash_domain.proofs.sums.some_sums.Goals as goal

pub chunks-preserved : goal.chunks-preserved
chunks-preserved c =
    let steps = c.in-Some.ensures.steps in
    let size = c.chunks.invariant.2 in (
      search rules,
      tt,
      steps.0 ∙ size,
      sums_more (sum_of c.args.version) c.chunks.sums.items c.push.new.self.items (map (sum_of c.args.version) (parts 1048576 c.args.bytes.now))
          (chunks_rest c.chunks.chunk-iterator) c.in-Some.chunk.now (chunks_rest c.next.new.self) c.sum_of.result
          c.in_ok-push.ensures.items c.sum_of.ensures steps.1.0 (steps.1.1 ∙ ap (λ (n : ℕ). min n (length (chunks_rest c.chunks.chunk-iterator))) size) steps.1.2
          c.chunks.invariant.3,
    )

pub returns : goal.returns
returns c = sums_all (sum_of c.args.version) c.chunks.sums.items (map (sum_of c.args.version) (parts 1048576 c.args.bytes.now)) (chunks_rest c.chunks.chunk-iterator) c.in-None.ensures.steps.1.0 c.chunks.invariant.3
