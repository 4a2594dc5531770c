use Rattle.std.proofs.Common.{get_or, refl, arith}
use Rattle.std.proofs.lemmas.Option.{slice_get-get_or}
use Rattle.sync_serve.proofs.ChunkPlaces.{place_here, place_behind, leads_more}
use Rattle.sync_serve.proofs.chunks.place_of.Goals as goal

pub returns-then-left-chunks : goal.returns-then-left-chunks
returns-then-left-chunks c =
    let count = get_or c.args.pages.now c.loop-file.file 0 in
    place_here c.args.pages.now c.args.index c.loop-file.file c.loop-file.left count c.chunk_count-chunks.result (slice_get-get_or c.args.pages.now c.loop-file.file 0 c.loop-file-test.true)
    c.chunk_count-chunks.ensures c.if-left-chunks.true c.loop-file.invariant _ refl refl

pub loop-file-preserved : goal.loop-file-preserved
loop-file-preserved c =
    let count = get_or c.args.pages.now c.loop-file.file 0 in
    leads_more c.args.pages.now c.args.index c.loop-file.file c.loop-file.left count c.chunk_count-chunks.result _ (slice_get-get_or c.args.pages.now c.loop-file.file 0 c.loop-file-test.true)
    c.chunk_count-chunks.ensures (omega (arith, c.if-left-chunks.false)) refl c.loop-file.invariant

pub returns : goal.returns
returns c = place_behind c.args.pages.now c.args.index c.loop-file.file c.loop-file.left (omega (arith, c.loop-file-test.false)) c.loop-file.invariant _ refl refl
