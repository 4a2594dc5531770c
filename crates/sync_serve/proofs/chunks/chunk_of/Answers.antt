use Rattle.std.proofs.Common.{◌≡◌, ◌∙◌, ◌*◌, ◌+◌, ◌<◌, ℕ, List, length, take, drop, slice_get, Some, sym, ap, subst, arith}
use Rattle.std.proofs.lemmas.Option.{slice_get-get_or}
use Rattle.format_spec.specs.declared.limits.TheConstants.{CHUNK_SIZE}
use Rattle.store_spec.specs.Mark.{Mark}
use Rattle.sys_state.specs.System.{part_of}
use Rattle.height_store.proofs.Places.{own_counts, few_counts, is_there}
use Rattle.sync_serve.specs.Places.{IsPlace}
use Rattle.sync_serve.proofs.ChunkPlaces.{chunk_read, chunk_of_system, some_more}
use Rattle.sync_serve.proofs.chunks.chunk_of.Goals as goal

pub place_of-place-requires : goal.place_of-place-requires
place_of-place-requires g c =
    omega (arith, few_counts (part_of c.sys.result.now) c.in_ok-pages.pages.items c.in_ok-pages.ensures.kept.system c.in_ok-pages.ensures.pages, ap length c.deref.ensures.value)

pub returns-then-place-len-clause-content : goal.returns-then-place-len-clause-content
returns-then-place-len-clause-content g c = λ told p shows.
    let pages = c.in_ok-pages.pages.items in
    let place = c.place_of-place.result in
    let is : IsPlace pages c.args.index place = subst (λ (ps : List ℕ). IsPlace ps c.args.index place) c.deref.ensures.value c.place_of-place.ensures in
    let own = own_counts c.args.found.now c.sys.result.now pages c.sys.ensures.sys c.in_ok-pages.ensures.pages in
    let text = c.bytes-system.ensures.value ∙ ap (λ (m : Mark). m.system) (c.behind-found.view_is ∙ c.mark.ensures.mark) in
    c.in_ok-content_with.ensures
    ∙ chunk_of_system _ c.args.found.now p shows pages own c.args.index place is c.bytes-system.result.now _ (omega (arith, c.if-place-len.true, c.len.ensures)) text c.part_at.ensures

pub overflow_sub-size : goal.overflow_sub-size
overflow_sub-size g c =
    let pages = c.in_ok-pages.pages.items in
    let place = c.place_of-place.result in
    let is : IsPlace pages c.args.index place = subst (λ (ps : List ℕ). IsPlace ps c.args.index place) c.deref.ensures.value c.place_of-place.ensures in
    let lt : place.file < length pages = omega (arith, is.within, c.len.ensures, c.if-place-len.false) in
    let count = c.index.result.now in
    let at : slice_get pages place.file ≡ Some count = slice_get-get_or pages place.file count lt ∙ ap (λ (n : ℕ). Some n) (sym c.index.ensures) in
    omega (arith, is.begins count at, c.from.ensures, c.from-2.ensures)

pub read_bytes-requires-clause-within : goal.read_bytes-requires-clause-within
read_bytes-requires-clause-within g c =
    let pages = c.in_ok-pages.pages.items in
    let place = c.place_of-place.result in
    let is : IsPlace pages c.args.index place = subst (λ (ps : List ℕ). IsPlace ps c.args.index place) c.deref.ensures.value c.place_of-place.ensures in
    let lt : place.file < length pages = omega (arith, is.within, c.len.ensures, c.if-place-len.false) in
    let count = c.index.result.now in
    let at : slice_get pages place.file ≡ Some count = slice_get-get_or pages place.file count lt ∙ ap (λ (n : ℕ). Some n) (sym c.index.ensures) in
    let own = own_counts c.args.found.now c.sys.result.now pages c.sys.ensures.sys c.in_ok-pages.ensures.pages in
    some_more _ count (c.from-2.result * 1048576 + c.min-len.result) (is_there (part_of c.args.found.now.system) pages place.file count own lt c.index.ensures)
    (omega (arith, is.begins count at, c.min-len.ensures, c.from.ensures, c.from-2.ensures))

pub returns-clause-content : goal.returns-clause-content
returns-clause-content g c = λ told p shows.
    let pages = c.in_ok-pages.pages.items in
    let place = c.place_of-place.result in
    let is : IsPlace pages c.args.index place = subst (λ (ps : List ℕ). IsPlace ps c.args.index place) c.deref.ensures.value c.place_of-place.ensures in
    let lt : place.file < length pages = omega (arith, is.within, c.len.ensures, c.if-place-len.false) in
    let count = c.index.result.now in
    let at : slice_get pages place.file ≡ Some count = slice_get-get_or pages place.file count lt ∙ ap (λ (n : ℕ). Some n) (sym c.index.ensures) in
    let own = own_counts c.args.found.now c.sys.result.now pages c.sys.ensures.sys c.in_ok-pages.ensures.pages in
    chunk_read _ c.args.found.now p shows pages own c.args.index place is count c.min-len.result c.in_ok-bytes.bytes at (omega (arith, c.min-len.ensures, c.from.ensures, c.from-2.ensures))
    (λ memory of. c.in_ok-bytes.ensures.bytes told p memory shows of ∙ ap (λ (n : ℕ). take c.min-len.result (drop (n * CHUNK_SIZE) memory)) c.from-2.ensures)
