use Rattle.std.proofs.Common.{rules, ◌∙◌, refl, sym, ap, arith}
use Rattle.std.proofs.lemmas.Slice.{overwrites}
use Rattle.std.specs.Int.{w32, to_be_bytes}
use Rattle.sha2.specs.Sha256.{digest_bytes}
use Rattle.sha2.proofs.Absorbing256.{digest_more}
use Rattle.hash_lanes.specs.Lanes.{lane}
use Rattle.hash_lanes.proofs.EachLane.{lane_word}
use Rattle.hash_lanes.proofs.messages.digest.Goals as goal

pub words-init : goal.words-init
unfolding digest_bytes
words-init c = (refl, refl)

pub words-preserved : goal.words-preserved
words-preserved c = (
  search (rules, overwrites),
  digest_more c.words.hash (lane c.args.j c.args.state.now) c.copy_from_slice.new.self c.words.i _ c.words.invariant.1 (omega arith)
      (c.copy_from_slice.ensures.after ∙ c.to_be_bytes.ensures ∙ ap (to_be_bytes w32) (sym (lane_word c.args.state.now c.args.j c.words.i c.words-test.true))),
)
