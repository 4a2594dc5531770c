use Rattle.std.proofs.Common.{◌≡◌, ◌+◌, ◌≤◌, ◌∙◌, ℕ, List, Some, true, false, length, ap, sym, subst, rules, arith}
use Rattle.state_spec.specs.Manifest.{FileRow}
use Rattle.manifest.proofs.FileLoops.{Short}
use Rattle.manifest.proofs.Judging.{Judged, own_count, rows_room, judged_wrong, judged_more, judged_all, all_at, tested, taken_rows, count_here}
use Rattle.std.specs.Prelude.{drop}
use Rattle.manifest.proofs.hashes.wrong_hash.Goals as goal

pub overflow_add-end : goal.overflow_add-end
overflow_add-end c =
    let n = c.loop-number.number in
    let begin = c.loop-number.begin in
    let chunks = c.args.chunks.now in
    let count = count_here n begin c.rows_of.result chunks c.rows_of.ensures in
    let room = rows_room c.args.files.now chunks n c.loop-number.at begin c.loop-number.invariant c.index-files-number.result c.loop-number-test.true c.index-files-number.is in
    let few = c.requires.chunks in
    omega (arith, count, room, few)

pub slice_bounds-copy_sums-end : goal.slice_bounds-copy_sums-end
slice_bounds-copy_sums-end c =
    let n = c.loop-number.number in
    let begin = c.loop-number.begin in
    let chunks = c.args.chunks.now in
    let count = count_here n begin c.rows_of.result chunks c.rows_of.ensures in
    let room = rows_room c.args.files.now chunks n c.loop-number.at begin c.loop-number.invariant c.index-files-number.result c.loop-number-test.true c.index-files-number.is in
    let end : begin + c.rows_of.result ≤ length chunks = rw count room in
    search rules

pub returns-then-not-is_same : goal.returns-then-not-is_same
returns-then-not-is_same c =
    let row = c.index-files-number.result in
    let n = c.loop-number.number in
    let begin = c.loop-number.begin in
    let chunks = c.args.chunks.now in
    let own = c.copy_sums.new.sums.items in
    let count = count_here n begin c.rows_of.result chunks c.rows_of.ensures in
    let name : c.bytes.result.now ≡ row.name = c.bytes.ensures.value ∙ ap (λ (r : FileRow). r.name) c.row.view_is in
    let hash : c.bytes-in-loop-number.result.now ≡ row.hash = c.bytes-in-loop-number.ensures.value ∙ ap (λ (r : FileRow). r.hash) c.row.view_is in
    let bad = tested row.hash c.bytes-in-loop-number.result.now c.file_hash.result c.bytes-in-loop-number-2.result.now own c.deref.result.now c.is_same.result false
    hash c.bytes-in-loop-number-2.ensures.value c.file_hash.ensures c.deref.ensures.value c.is_same.ensures c.if-not-is_same.true in
    ap (λ (text : List ℕ). Some (c.loop-number.at + 9 + length text)) name
    ∙ judged_wrong c.args.files.now chunks n c.loop-number.at begin c.loop-number.invariant row c.loop-number-test.true c.index-files-number.is
    own (taken_rows chunks begin c.rows_of.result (own_count n (drop begin chunks)) own count c.in_ok-copy_sums.ensures) bad

pub loop-number-preserved : goal.loop-number-preserved
loop-number-preserved c =
    let row = c.index-files-number.result in
    let n = c.loop-number.number in
    let begin = c.loop-number.begin in
    let files = c.args.files.now in
    let chunks = c.args.chunks.now in
    let own = c.copy_sums.new.sums.items in
    let count = count_here n begin c.rows_of.result chunks c.rows_of.ensures in
    let name : c.bytes.result.now ≡ row.name = c.bytes.ensures.value ∙ ap (λ (r : FileRow). r.name) c.row.view_is in
    let hash : c.bytes-in-loop-number.result.now ≡ row.hash = c.bytes-in-loop-number.ensures.value ∙ ap (λ (r : FileRow). r.hash) c.row.view_is in
    let good = tested row.hash c.bytes-in-loop-number.result.now c.file_hash.result c.bytes-in-loop-number-2.result.now own c.deref.result.now c.is_same.result true
    hash c.bytes-in-loop-number-2.ensures.value c.file_hash.ensures c.deref.ensures.value c.is_same.ensures c.if-not-is_same.false in
    let next = judged_more files chunks n c.loop-number.at begin c.loop-number.invariant row c.loop-number-test.true c.index-files-number.is
    own (taken_rows chunks begin c.rows_of.result (own_count n (drop begin chunks)) own count c.in_ok-copy_sums.ensures) good
    (all_at Short files n row c.requires.names c.loop-number-test.true c.index-files-number.is)
    (ap (λ (h : List ℕ). length h) (sym hash) ∙ c.bytes-in-loop-number.ensures.size) in
    subst (λ (text : List ℕ). Judged files chunks (n + 1) (c.loop-number.at + 9 + length text + 32) (begin + c.rows_of.result)) (sym name)
    (subst (λ (k : ℕ). Judged files chunks (n + 1) (c.loop-number.at + 9 + length row.name + 32) (begin + k)) (sym count) next)

pub returns : goal.returns
returns c = judged_all c.args.files.now c.args.chunks.now c.loop-number.number c.loop-number.at c.loop-number.begin c.loop-number.invariant c.loop-number-test.false
