use Rattle.std.proofs.lemmas.Result.{err_from_is_err_and}
use Rattle.manifest.proofs.PieceLoops.{hash_stops, hash_more, hash_ends}
use Rattle.manifest.proofs.meta.read_pieces.Goals as goal

pub returns-in_err-read_hash-clause-pieces : goal.returns-in_err-read_hash-clause-pieces
returns-in_err-read_hash-clause-pieces c =
    let p = err_from_is_err_and c.from_residual.result c.from_residual.ensures.1 in
    rw (p.1, p.2)
    (hash_stops c.args.count c.loop.counter c.loop.hashes.items c.args.reader.now c.loop.reader c.loop.invariant.0 c.loop.invariant.1 c.in_err-read_hash.field-0.0 c.loop-test.true c.in_err-read_hash.ensures.value)

pub loop-preserved : goal.loop-preserved
loop-preserved c =
    hash_more c.args.count c.loop.counter c.loop.hashes.items c.args.reader.now c.loop.reader c.loop.invariant.0 c.loop.invariant.1
    c.in_ok-read_hash.field-0 c.read_hash.new.reader c.push.new.self.items c.loop-test.true c.in_ok-read_hash.ensures.value c.in_ok-push.ensures.items

pub returns-clause-pieces : goal.returns-clause-pieces
returns-clause-pieces c =
    hash_ends c.args.count c.loop.counter c.loop.hashes.items c.args.reader.now c.loop.reader c.loop.invariant.0 c.loop.invariant.1 c.loop-test.false
