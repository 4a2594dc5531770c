use Rattle.std.proofs.Common.{◌∙◌, ap, rules, map, ℕ, min, length}
use Rattle.std.specs.Slice.Iter.{chunks_rest}
use Rattle.format_spec.specs.Bytes.{parts}
use Rattle.format_spec.specs.Hashes.{piece_hash}
use Rattle.manifest.proofs.Cutting.{hashed_more, hashed_all}
use Rattle.manifest.proofs.parts.piece_hashes.Goals as goal
use Rattle.format_spec.proofs.Parts.{counts_pieces}

pub loop-piece-preserved : goal.loop-piece-preserved
loop-piece-preserved c =
    let steps = c.in-Some.ensures.steps in
    let size = c.loop-piece.invariant.2 in (
      search rules,
      tt,
      steps.0 ∙ size,
      hashed_more piece_hash 4096 counts_pieces c.loop-piece.hashes.items c.push.new.self.items (map piece_hash (parts 4096 c.args.text.now))
          (chunks_rest c.loop-piece.piece-iterator) c.in-Some.piece.now (chunks_rest c.next.new.self) c.piece_hash.result
          c.in_ok-push.ensures.items c.piece_hash.ensures steps.1.0 (steps.1.1 ∙ ap (λ (n : ℕ). min n (length (chunks_rest c.loop-piece.piece-iterator))) size) steps.1.2
          c.loop-piece.invariant.3,
    )

pub returns : goal.returns
returns c = hashed_all piece_hash 4096 c.loop-piece.hashes.items (map piece_hash (parts 4096 c.args.text.now)) (chunks_rest c.loop-piece.piece-iterator) c.in-None.ensures.steps.1.0 c.loop-piece.invariant.3
