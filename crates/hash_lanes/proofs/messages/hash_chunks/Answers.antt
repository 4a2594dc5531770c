use Rattle.std.proofs.Common.{◌∙◌, ◌+◌, ◌-◌, ◌*◌, ◌/◌, ap, take, drop, slice_index, refl}
use Rattle.sha2.specs.Sha256.{initial_hash_256}
use Rattle.hash_lanes.specs.Lanes.{lane}
use Rattle.hash_lanes.specs.Messages.{last_count}
use Rattle.hash_lanes.proofs.EachLane.{first_place, last_place}
use Rattle.hash_lanes.proofs.Joined.{message_state}
use Rattle.hash_lanes.proofs.messages.hash_chunks.Goals as goal

pub returns : goal.returns
returns c j low =
    let size = c.args.size in
    let blocks = (size - 49) / 64 in
    let done = 49 + 64 * blocks in
    let first = c.first_rows-first.result in
    let last = c.last_rows-last.result in
    message_state (lane j c.initial-state.result) (lane j c.absorb.new.state) (lane j c.absorb-2.new.state) (lane j c.absorb-3.new.state) initial_hash_256 c.args.bytes.now
    (drop _ first) (drop _ last) (slice_index c.args.starts.now j) size blocks done c.last_count.result
    (c.requires.inside j low) c.requires.size refl refl c.last_count.ensures
    (ap (λ n. take 64 (drop n first)) (first_place j low) ∙ c.first_rows-first.ensures j low)
    (ap (λ n. take (64 * last_count (size - done)) (take 128 (drop n last))) (last_place j low) ∙ c.last_rows-last.ensures j low)
    (c.initial-state.ensures j low) (c.absorb.ensures j low) (c.absorb-2.ensures j low) (c.absorb-3.ensures j low)
