use Rattle.std.proofs.Common.{ℕ, ◌+◌, ◌-◌, ◌*◌, ◌≤◌, length, take, drop, ◌∙◌, ap, subst, arith}
use Rattle.std.proofs.lemmas.List.{length-take, length-drop}
use Rattle.format_spec.specs.Bytes.{Bytes}
use Rattle.format_spec.specs.declared.limits.TheConstants.{PAGE_SIZE}
use Rattle.disk_model.specs.OnlyReads.{OnlyReads}
use Rattle.layer_stack.specs.Stacks.{pages_from}
use Rattle.layer_stack.specs.Whole.{layers_whole}
use Rattle.height_store.proofs.Heights.{some_there}
use Rattle.height_store.proofs.Ranges.{held, pages_long, range_read, within_memory}
use Rattle.state_spec.specs.Memory.{pages_holding}
use Rattle.height_store.proofs.store.PublishedHeight.read_range.Goals as goal

pub read_pages-requires-clause-there : goal.read_pages-requires-clause-there
read_pages-requires-clause-there g c = some_there _ _ c.requires.within

pub read_pages-requires-clause-few : goal.read_pages-requires-clause-few
read_pages-requires-clause-few g c =
    let long = pages_long _ _ _ _ c.deref.ensures.value c.in_ok-pages.ensures in
    omega (arith, long, c.pages_of_range-first.ensures.ends, c.requires.at_most)

pub returns-in_err-bytes-clause-reads_only : goal.returns-in_err-bytes-clause-reads_only
returns-in_err-bytes-clause-reads_only g c = λ told.
    subst (λ (most : ℕ). OnlyReads most (g.D.Disk.view c.args.disk.now) (g.D.Disk.view c.read_pages.new.disk))
    (held _ _ (pages_holding c.args.offset c.args.len) _ _ c.pages_of_range-first.ensures.count c.deref.ensures.value c.in_ok-pages.ensures) (c.read_pages.ensures.reads_only told)

pub piece_of-requires : goal.piece_of-requires
piece_of-requires g c =
    let long = pages_long _ _ _ _ c.deref.ensures.value c.in_ok-pages.ensures in
    let their = c.pages_of_range-first.ensures in
    omega (arith, long, c.in_ok-bytes.ensures.size, c.from.ensures, their.begins, their.covers, c.if-len-eq0.false)

pub returns-in_err-piece_of-clause-reads_only : goal.returns-in_err-piece_of-clause-reads_only
returns-in_err-piece_of-clause-reads_only g c = λ told.
    subst (λ (most : ℕ). OnlyReads most (g.D.Disk.view c.args.disk.now) (g.D.Disk.view c.read_pages.new.disk))
    (held _ _ (pages_holding c.args.offset c.args.len) _ _ c.pages_of_range-first.ensures.count c.deref.ensures.value c.in_ok-pages.ensures) (c.read_pages.ensures.reads_only told)

pub returns-clause-reads_only : goal.returns-clause-reads_only
returns-clause-reads_only g c = λ told.
    subst (λ (most : ℕ). OnlyReads most (g.D.Disk.view c.args.disk.now) (g.D.Disk.view c.read_pages.new.disk))
    (held _ _ (pages_holding c.args.offset c.args.len) _ _ c.pages_of_range-first.ensures.count c.deref.ensures.value c.in_ok-pages.ensures) (c.read_pages.ensures.reads_only told)

pub returns-clause-size : goal.returns-clause-size
returns-clause-size g c =
    let long = pages_long _ _ _ _ c.deref.ensures.value c.in_ok-pages.ensures in
    let their = c.pages_of_range-first.ensures in
    let bytes = c.in_ok-bytes.bytes.items in
    let from = c.args.offset - c.from.result * PAGE_SIZE in
    let fits : from + c.args.len ≤ length bytes = omega (arith, long, c.in_ok-bytes.ensures.size, c.from.ensures, their.begins, their.covers, c.if-len-eq0.false) in
    ap (λ (l : Bytes). length l) c.in_ok-piece_of.ensures ∙ omega (arith, fits, length-take c.args.len (drop from bytes), length-drop from bytes)

pub returns-clause-range : goal.returns-clause-range
returns-clause-range g c = λ told m stack layers of has are.
    let first = c.pages_of_range-first.result.0 in
    let behind = c.pages_of_range-first.result.1 in
    let their = c.pages_of_range-first.ensures in
    let bytes = c.in_ok-bytes.bytes.items in
    let within = within_memory _ (c.args.offset + c.args.len) m c.requires.within of in
    range_read m.1 first (behind - first) c.args.offset c.args.len layers bytes _ (layers_whole (g.D.Disk.view c.args.disk.now).state.files stack layers are)
    (omega (arith, within, their.ends, their.count)) their.begins (omega (arith, their.covers, their.count, c.if-len-eq0.false))
    (c.in_ok-bytes.ensures.pages told stack has layers are ∙ ap (pages_from layers) (c.deref.ensures.value ∙ c.in_ok-pages.ensures))
    (c.in_ok-piece_of.ensures ∙ ap (λ (n : ℕ). take c.args.len (drop (c.args.offset - n * PAGE_SIZE) bytes)) c.from.ensures)
