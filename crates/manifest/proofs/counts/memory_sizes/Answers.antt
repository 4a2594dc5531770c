use Rattle.std.proofs.Common.{◌≡◌, List, length, ap, ◌∙◌, arith}
use Rattle.std.proofs.lemmas.List.{take_all}
use Rattle.format_spec.specs.Bytes.{Bytes}
use Rattle.sys_state.specs.declared.record.CanisterRecord.{CanisterRecord}
use Rattle.manifest.specs.Counts.{rows_size, chunks_in}
use Rattle.manifest.proofs.Memories.{named}
use Rattle.manifest.proofs.Counting.{sizes_more}
use Rattle.manifest.proofs.counts.memory_sizes.Goals as goal

pub loop-i-preserved : goal.loop-i-preserved
loop-i-preserved c =
    let next = sizes_more c.args.sys.now.canisters c.loop-i.i c.in-Some.id.now c.in-Some.canister.now c.in-Some.ensures in
    let size : length c.bytes.result.now ≡ length c.in-Some.id.now = ap length c.bytes.ensures.value in
    let short = c.bytes.ensures.id in (
      omega (arith, next.0, c.loop-i.invariant.0),
      omega (arith, next.1, c.loop-i.invariant.1, size),
      omega (arith, next.2, c.loop-i.invariant.2, c.size_of_pages.ensures.value, c.size_of_pages-in-loop-i.ensures.value, c.chunk_count-heap.ensures.value, c.chunk_count-stable.ensures.value),
      omega (arith, c.loop-i.invariant.3),
      omega (arith, c.loop-i.invariant.4, short),
      omega (arith, c.loop-i.invariant.5, c.size_of_pages.ensures.fits, c.size_of_pages-in-loop-i.ensures.fits, c.chunk_count-heap.ensures.few, c.chunk_count-stable.ensures.few),
    )

pub returns-clause-memories : goal.returns-clause-memories
returns-clause-memories c = c.loop-i.invariant.0 ∙ ap (λ (cs : List (Bytes × CanisterRecord)). length (named cs)) (take_all c.loop-i.i c.args.sys.now.canisters (omega (arith, c.canisters-i-end.ensures.count)))

pub returns-clause-rows : goal.returns-clause-rows
returns-clause-rows c = c.loop-i.invariant.1 ∙ ap (λ (cs : List (Bytes × CanisterRecord)). rows_size (named cs)) (take_all c.loop-i.i c.args.sys.now.canisters (omega (arith, c.canisters-i-end.ensures.count)))

pub returns-clause-chunks : goal.returns-clause-chunks
returns-clause-chunks c = c.loop-i.invariant.2 ∙ ap (λ (cs : List (Bytes × CanisterRecord)). chunks_in (named cs)) (take_all c.loop-i.i c.args.sys.now.canisters (omega (arith, c.canisters-i-end.ensures.count)))
