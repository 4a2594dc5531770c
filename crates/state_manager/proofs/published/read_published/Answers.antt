use Rattle.std.proofs.Common.{◌≡◌, ◌<◌, ◌≤◌, ◌+◌, ◌*◌, ◌^◌, ℕ, sym, subst, arith}
use Rattle.std.specs.Option.{IsSomeAnd}
use Rattle.std.specs.Prelude.{slice_get}
use Rattle.format_spec.specs.declared.limits.TheConstants.{PAGE_SIZE}
use Rattle.state_spec.specs.Files.{memories_in}
use Rattle.sys_state.specs.Calls as calls
use Rattle.sys_state.specs.System.{System, part_of}
use Rattle.height_store.specs.KnownLaws.{shown_known}
use Rattle.state_manager.proofs.ReadHeights.{file_there, index_fits, pages_are, past, reads_no_canister, these}
use Rattle.state_manager.proofs.published.read_published.Goals as goal

pub returns-in_default-clause-reply : goal.returns-in_default-clause-reply
returns-in_default-clause-reply g c = λ told p shows.
    reads_no_canister c.args.found.now p (shown_known _ c.args.found.now p shows) c.args.id.now c.args.mem c.args.offset c.args.len c.sys-sys.result.now c.sys-sys.ensures.sys c.in_default.ensures.found

pub returns-then-saturating_add-pages-clause-reply : goal.returns-then-saturating_add-pages-clause-reply
returns-then-saturating_add-pages-clause-reply g c = λ told p shows.
    let pages = pages_are (calls.canister_in c.sys-sys.result.now c.args.id.now) c.in-Ok.ensures.value c.args.mem c.in-Some.pages c.in-Ok.ensures.found c.in-Some.ensures.value in
    let all : calls.pages_of c.args.mem c.in-Ok.ensures.value * PAGE_SIZE < c.args.offset + c.args.len = omega (arith, pages, c.in-Some.ensures.limit, c.saturating_add.ensures, c.if-saturating_add-pages.true) in
    past c.args.id.now c.args.mem c.in-Ok.place c.args.offset c.args.len c.args.found.now p (shown_known _ c.args.found.now p shows) c.sys-sys.result.now c.sys-sys.ensures.sys c.in-Ok.ensures all

pub overflow_cast-file : goal.overflow_cast-file
overflow_cast-file g c =
    let small : c.memory_index-file.result < 2 ^ 32 = subst (λ (k : ℕ). k < 2 ^ 32) (sym c.memory_index-file.ensures) (index_fits c.sys-sys.result.now c.args.id.now c.in-Ok.place c.args.mem c.in-Ok.ensures c.canisters-count.ensures.kept.system.few_canisters) in
    omega (arith, small)

pub read_bytes-requires-clause-within : goal.read_bytes-requires-clause-within
read_bytes-requires-clause-within g c =
    let pages = pages_are (calls.canister_in c.sys-sys.result.now c.args.id.now) c.in-Ok.ensures.value c.args.mem c.in-Some.pages c.in-Ok.ensures.found c.in-Some.ensures.value in
    let all : c.args.offset + c.args.len ≤ calls.pages_of c.args.mem c.in-Ok.ensures.value * PAGE_SIZE = omega (arith, pages, c.in-Some.ensures.limit, c.saturating_add.ensures, c.if-saturating_add-pages.false) in
    let file = file_there c.sys-sys.result.now c.args.id.now c.in-Ok.place c.args.mem c.in-Ok.ensures (c.args.offset + c.args.len) all in
    subst (λ (s : System). IsSomeAnd (slice_get (memories_in (part_of s)) c.memory_index-file.result) (λ m. c.args.offset + c.args.len ≤ m.1 * PAGE_SIZE)) c.sys-sys.ensures.sys
    (subst (λ (k : ℕ). IsSomeAnd (slice_get (memories_in (part_of c.sys-sys.result.now)) k) (λ m. c.args.offset + c.args.len ≤ m.1 * PAGE_SIZE)) (sym c.memory_index-file.ensures) file)

pub returns-clause-reply : goal.returns-clause-reply
returns-clause-reply g c = λ told p shows.
    let pages = pages_are (calls.canister_in c.sys-sys.result.now c.args.id.now) c.in-Ok.ensures.value c.args.mem c.in-Some.pages c.in-Ok.ensures.found c.in-Some.ensures.value in
    let all : c.args.offset + c.args.len ≤ calls.pages_of c.args.mem c.in-Ok.ensures.value * PAGE_SIZE = omega (arith, pages, c.in-Some.ensures.limit, c.saturating_add.ensures, c.if-saturating_add-pages.false) in
    these c.args.id.now c.args.mem c.in-Ok.place c.args.offset c.args.len c.args.found.now p (shown_known _ c.args.found.now p shows) c.sys-sys.result.now c.sys-sys.ensures.sys c.in-Ok.ensures c.in_ok-bytes.bytes c.memory_index-file.result c.memory_index-file.ensures all
    (λ memory there. c.in_ok-bytes.ensures.bytes told p memory shows there)
