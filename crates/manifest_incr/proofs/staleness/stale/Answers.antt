use Rattle.std.proofs.Common.{◌≡◌, ◌<◌, ◌/◌, ◌||◌, ℕ, nat_lt, Bool, List, refl, sym, ap, ◌∙◌, arith}
use Rattle.std.specs.Prelude.{nat_le}
use Rattle.std.specs.List.{list_any}
use Rattle.manifest_incr.proofs.Choosing.{EndsAt, at_next, some_page, chunks_more, chunks_all, stale_is}
use Rattle.manifest_incr.proofs.staleness.stale.Goals as goal

pub loop-chunk-preserved : goal.loop-chunk-preserved
loop-chunk-preserved c =
    let dirty = c.args.dirty.now in
    let chunk = c.loop-chunk.chunk in
    let from = c.loop-chunk.at in
    let to = c.behind_chunk-behind.result in
    let ends : EndsAt dirty chunk from to = record {
      order = c.behind_chunk-behind.ensures.order;
      within = c.behind_chunk-behind.ensures.within;
      before = c.behind_chunk-behind.ensures.before;
      behind = c.behind_chunk-behind.ensures.behind;
    } in record {
      at = at_next dirty chunk from to c.loop-chunk.invariant.at ends;
      chunks = chunks_more dirty c.loop-chunk.chunks.items c.push_stale.new.chunks.items c.args.old c.args.new chunk (nat_lt from to || nat_le c.first_fresh-fresh.result chunk)
          (stale_is dirty c.args.old c.args.new c.first_fresh-fresh.result chunk from to (some_page dirty chunk from to c.requires c.loop-chunk.invariant.at ends) (c.first_fresh-fresh.ensures chunk))
          c.in_ok-push_stale.ensures c.loop-chunk.invariant.chunks;
    }

pub returns : goal.returns
returns c =
    chunks_all c.args.dirty.now c.loop-chunk.chunks.items c.args.old c.args.new c.loop-chunk.chunk (omega (arith, c.loop-chunk-test.false, c.loop-chunk.auto.chunk-end, c.div_ceil-chunk-end.ensures)) c.loop-chunk.invariant.chunks
