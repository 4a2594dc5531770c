use Rattle.std.proofs.Common.{◌≤◌, ◌∙◌, List, Option, length, map, ap, arith, Vec, Global}
use Rattle.format_spec.specs.Bytes.{Bytes}
use Rattle.manifest.proofs.Memories.{room_here, heap_here, stable_here, half_goes_on, half_files, lists_here}
use Rattle.manifest.proofs.Bounds.{few_canisters}
use Rattle.manifest.proofs.rows.Manifest.add_memories.Goals as goal

abbrev items : Vec (Option Bytes) Global → List (Option Bytes)
items hashes = hashes.items

pub bounds-sums-at : goal.bounds-sums-at
bounds-sums-at c =
    let room = room_here items c.args.self.now.version c.loop-i.self c.args.sys.now.canisters c.args.sums.now c.loop-i.i c.loop-i.invariant c.in-Some.id.now c.in-Some.canister.now c.in-Some.ensures in
    omega arith

pub bounds-sums-at-in-loop-i : goal.bounds-sums-at-in-loop-i
bounds-sums-at-in-loop-i c = room_here items c.args.self.now.version c.loop-i.self c.args.sys.now.canisters c.args.sums.now c.loop-i.i c.loop-i.invariant c.in-Some.id.now c.in-Some.canister.now c.in-Some.ensures

pub add_canister-requires-clause-files : goal.add_canister-requires-clause-files
add_canister-requires-clause-files c =
    let files = half_files c.args.self.now.version c.loop-i.self c.args.sys.now.canisters (map items c.args.sums.now) c.loop-i.i c.loop-i.invariant in
    let few : length c.args.sys.now.canisters ≤ 1024 = few_canisters c.args.sys.now c.canisters-i-end.ensures.kept in
    let end = c.canisters-i-end.ensures.count in
    let test = c.loop-i-test.true in
    omega arith

pub add_canister-requires-clause-heap : goal.add_canister-requires-clause-heap
add_canister-requires-clause-heap c =
    let cs = c.args.sys.now.canisters in
    let half = c.loop-i.invariant in
    ap (λ (list : List (Option Bytes)). length list)
    (heap_here items c.args.self.now.version c.loop-i.self cs c.args.sums.now c.loop-i.i half c.in-Some.id.now c.in-Some.canister.now c.in-Some.ensures
    c.index-sums-at.result c.deref.result.now c.index-sums-at.is c.deref.ensures.value)
    ∙ (lists_here c.args.self.now.version c.loop-i.self cs (map items c.args.sums.now) c.loop-i.i half c.in-Some.id.now c.in-Some.canister.now c.in-Some.ensures).heap_len

pub add_canister-requires-clause-stable : goal.add_canister-requires-clause-stable
add_canister-requires-clause-stable c =
    let cs = c.args.sys.now.canisters in
    let half = c.loop-i.invariant in
    ap (λ (list : List (Option Bytes)). length list)
    (stable_here items c.args.self.now.version c.loop-i.self cs c.args.sums.now c.loop-i.i half c.in-Some.id.now c.in-Some.canister.now c.in-Some.ensures
    c.index-sums-at-in-loop-i.result c.deref-in-loop-i.result.now c.index-sums-at-in-loop-i.is c.deref-in-loop-i.ensures.value)
    ∙ (lists_here c.args.self.now.version c.loop-i.self cs (map items c.args.sums.now) c.loop-i.i half c.in-Some.id.now c.in-Some.canister.now c.in-Some.ensures).stable_len

pub loop-i-preserved : goal.loop-i-preserved
loop-i-preserved c =
    half_goes_on items c.args.self.now.version c.loop-i.self c.args.sys.now.canisters c.args.sums.now c.loop-i.i c.loop-i.invariant c.in-Some.id.now c.in-Some.canister.now c.in-Some.ensures
    c.add_canister.new.self c.index-sums-at.result c.index-sums-at-in-loop-i.result c.deref.result.now c.deref-in-loop-i.result.now
    c.index-sums-at.is c.deref.ensures.value c.index-sums-at-in-loop-i.is c.deref-in-loop-i.ensures.value (c.in_ok-add_canister.ensures c.args.self.now.version)
