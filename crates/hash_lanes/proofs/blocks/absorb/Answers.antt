use Rattle.std.proofs.Common.{take, drop, ◌+◌, ◌*◌, ap, ◌∙◌, sym, refl, arith, slice_index}
use Rattle.sha2.specs.Sha256.{hash_after, compress}
use Rattle.sha2.proofs.Absorbing256.{hash_after_next}
use Rattle.hash_lanes.specs.Lanes.{lane}
use Rattle.hash_lanes.proofs.BlockWords.{block_word, word_behind}
use Rattle.hash_lanes.proofs.blocks.absorb.Goals as goal

pub each-init : goal.each-init
unfolding hash_after
each-init c j low = refl

pub each-preserved : goal.each-preserved
each-preserved c j low =
    let bytes = c.args.bytes.now in
    let start = slice_index c.args.starts.now j + c.args.from in
    let i = c.each.i in
    let block = take 64 (drop (i * 64) (drop start bytes)) in
    c.compress.ensures j block low (λ k lt. c.load-words.ensures j k low lt ∙ word_behind bytes start (64 * i + 4 * k) _ (omega arith) ∙ block_word (drop start bytes) i k lt)
    ∙ ap (λ h. compress h block) (c.each.invariant j low)
    ∙ sym (hash_after_next (lane j c.args.state.now) (drop start bytes) i)
