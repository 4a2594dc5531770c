use Rattle.std.proofs.Common.{◌≡◌, ◌≤◌, ◌^◌, ◌+◌, ◌∙◌, ◌++◌, ◌∷◌, [], ℕ, List, Some, Ok, ap, sym, subst}
use Rattle.std.proofs.lemmas.Result.{err_from_is_err_and}
use Rattle.state_spec.specs.Manifest.{FileRow}
use Rattle.byte_codec.specs.Gives.{Fails}
use Rattle.manifest.specs.Reading.{stable_row}
use Rattle.manifest.proofs.FileLoops.{ReadSoFar, heap_stops, stable_stops, read_more, system_stops, all_read}
use Rattle.manifest.proofs.files.read_files.Goals as goal

pub returns-in_err-id-clause-rows : goal.returns-in_err-id-clause-rows
returns-in_err-id-clause-rows c =
    let p = err_from_is_err_and c.from_residual.result c.from_residual.ensures.1 in
    rw (p.1, p.2)
    (heap_stops c.args.version c.args.count c.loop.counter c.loop.files.items c.loop.last c.loop.total c.args.reader.now c.loop.reader c.loop.invariant c.requires c.loop-test.true c.in_err-id.field-0.0 c.in_err-id.ensures.row)

pub returns-in_err-stable-clause-rows : goal.returns-in_err-stable-clause-rows
returns-in_err-stable-clause-rows c =
    let p = err_from_is_err_and c.from_residual-in_err-stable.result c.from_residual-in_err-stable.ensures.1 in
    let e = c.in_err-stable.field-0.0 in
    let id = c.in_ok-id.id in
    let mid = c.read_heap.new.reader in
    let size : c.heap.inside.size ≡ c.in_ok-id.heap.size = ap (λ (r : FileRow). r.size) c.heap.view_is in
    rw (p.1, p.2)
    (stable_stops c.args.version c.args.count c.loop.counter c.loop.files.items c.loop.last c.loop.total c.args.reader.now c.loop.reader c.loop.invariant c.requires c.loop-test.true
    id c.in_ok-id.heap mid c.in_ok-id.ensures.row c.in_ok-id.ensures.id e
    (subst (λ (n : ℕ). Fails e (stable_row c.args.version id (c.loop.total + n) mid)) size c.in_err-stable.ensures.row))

pub loop-preserved : goal.loop-preserved
loop-preserved c =
    let id = c.in_ok-id.id in
    let mid = c.read_heap.new.reader in
    let end = c.read_stable.new.reader in
    let heap = c.in_ok-id.heap in
    let stable = c.in_ok-stable.stable in
    let s1 : c.heap.inside.size ≡ heap.size = ap (λ (r : FileRow). r.size) c.heap.view_is in
    let s2 : c.stable.inside.size ≡ stable.size = ap (λ (r : FileRow). r.size) c.stable.view_is in
    let second = subst (λ (n : ℕ). stable_row c.args.version id (c.loop.total + n) mid ≡ Ok (stable, end)) s1 c.in_ok-stable.ensures.row in
    let fits = subst (λ (n : ℕ). c.loop.total + n + stable.size ≤ 2 ^ 31) s1 c.in_ok-stable.ensures.size in
    let next = read_more c.args.version c.args.count c.loop.counter c.loop.files.items c.loop.last c.loop.total c.args.reader.now c.loop.reader c.loop.invariant c.requires c.loop-test.true
    id heap mid c.in_ok-id.ensures.row c.in_ok-id.ensures.id stable end second c.in_ok-stable.ensures.id fits c.in_ok-id.ensures.short c.in_ok-stable.ensures.short in
    subst (λ (files : List FileRow). ReadSoFar c.args.version c.args.count (c.loop.counter + 1) files (Some id) (c.loop.total + c.heap.inside.size + c.stable.inside.size) c.args.reader.now end)
    (sym (c.in_ok-push-2.ensures.items ∙ ap (λ (files : List FileRow). files ++ stable ∷ []) c.in_ok-push.ensures.items))
    (subst (λ (n : ℕ). ReadSoFar c.args.version c.args.count (c.loop.counter + 1) ((c.loop.files.items ++ heap ∷ []) ++ stable ∷ []) (Some id) n c.args.reader.now end)
    (sym (ap (λ (n : ℕ). c.loop.total + n + c.stable.inside.size) s1 ∙ ap (λ (n : ℕ). c.loop.total + heap.size + n) s2)) next)

pub returns-in_err-read_system-clause-rows : goal.returns-in_err-read_system-clause-rows
returns-in_err-read_system-clause-rows c =
    let p = err_from_is_err_and c.from_residual-in_err-read_system.result c.from_residual-in_err-read_system.ensures.1 in
    rw (p.1, p.2)
    (system_stops c.args.version c.args.count c.loop.counter c.loop.files.items c.loop.last c.loop.total c.args.reader.now c.loop.reader c.loop.invariant c.requires c.loop-test.false c.loop.auto.counter-end c.in_err-read_system.field-0.0 c.in_err-read_system.ensures.row)

pub returns-clause-rows : goal.returns-clause-rows
returns-clause-rows c =
    all_read c.args.version c.args.count c.loop.counter c.loop.files.items c.loop.last c.loop.total c.args.reader.now c.loop.reader c.loop.invariant c.requires c.loop-test.false c.loop.auto.counter-end c.in_ok-read_system.field-0 c.read_system.new.reader c.in_ok-read_system.ensures.row
    ∙ ap (λ (files : List FileRow). Ok (files, c.read_system.new.reader)) (sym c.in_ok-push-3.ensures.items)
