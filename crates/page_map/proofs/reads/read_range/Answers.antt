use Rattle.std.proofs.Common.{◌≡◌, ℕ, ◌+◌, ◌-◌, ◌*◌, ◌<◌, ◌≤◌, length, take, drop, is_some, cond, refl, sym, ◌∙◌, ap, subst, arith}
use Rattle.std.proofs.lemmas.List.{take_all}
use Rattle.format_spec.specs.Bytes.{Bytes}
use Rattle.format_spec.specs.declared.limits.TheConstants.{PAGE_SIZE}
use Rattle.disk_model.specs.State.{DiskState}
use Rattle.layer_stack.specs.Stacks.{AreLayers}
use Rattle.page_map.specs.Maps.{own_at}
use Rattle.page_map.specs.Reads.{page_of, bytes_with}
use Rattle.page_map.specs.Pieces.{touched_pages, is_foreign, IsPiece}
use Rattle.page_map.proofs.Ranges.{reads_only_next, reads_only_all, amount_read, all_before, part_long, fits, read_more}
use Rattle.page_map.proofs.Written.{bytes_piece}
use Rattle.page_map.proofs.reads.read_range.Goals as goal
use borrow.Rule.Slice.PartMut.{put_mid}

pub returns-in_err-read_piece-clause-reads_only : goal.returns-in_err-read_piece-clause-reads_only
returns-in_err-read_piece-clause-reads_only g c = λ told.
    let page = c.loop-page.page in
    let first = c.pages_of_range-pages.result.0 in
    let p = is_foreign c.args.own.now c.args.id in
    let old = g.D.Disk.view c.args.disk.now in
    let mid = g.D.Disk.view c.loop-page.disk in
    let new = g.D.Disk.view c.read_piece.new.disk in
    reads_only_all p first (page + 1) c.pages_of_range-pages.result.1 (touched_pages c.args.at (length c.args.into.now)) old new (omega (arith, c.loop-page.invariant.from)) (omega (arith, c.loop-page-test.true)) c.pages_of_range-pages.ensures.touched
    (reads_only_next p first page (cond (is_some (own_at c.args.own.now c.args.id page)) 0 PAGE_SIZE) old mid new c.loop-page.invariant.from (amount_read (is_some (own_at c.args.own.now c.args.id page))) (c.loop-page.invariant.reads_only told) (c.read_piece.ensures.reads_only told))

pub loop-page-preserved : goal.loop-page-preserved
loop-page-preserved g c =
    let page = c.loop-page.page in
    let at = c.args.at in
    let n = length c.args.into.now in
    let first = c.pages_of_range-pages.result.0 in
    let p = is_foreign c.args.own.now c.args.id in
    let old = g.D.Disk.view c.args.disk.now in
    let mid = g.D.Disk.view c.loop-page.disk in
    let new = g.D.Disk.view c.read_piece.new.disk in
    let from = c.piece_of-piece.result.from in
    let to = c.piece_of-piece.result.to in
    let start = c.piece_of-piece.result.start in
    let long : length c.loop-page.into ≡ n = c.loop-page.auto.into in
    let is : IsPiece at n page from to start = subst (λ (k : ℕ). IsPiece at k page from to start) long c.piece_of-piece.ensures in
    let soon : at < page * PAGE_SIZE + PAGE_SIZE = omega (arith, c.pages_of_range-pages.ensures.soon, c.loop-page.invariant.from) in
    let reached : page * PAGE_SIZE < at + n = omega (arith, c.pages_of_range-pages.ensures.ends, c.loop-page-test.true) in
    record {
      from = omega (arith, c.loop-page.invariant.from);
      until = omega (arith, c.loop-page-test.true);
      faults = omega (arith, c.read_piece.ensures.cause.never_falls, c.loop-page.invariant.faults);
      reads_only = λ told. reads_only_next p first page (cond (is_some (own_at c.args.own.now c.args.id page)) 0 PAGE_SIZE) old mid new c.loop-page.invariant.from (amount_read (is_some (own_at c.args.own.now c.args.id page))) (c.loop-page.invariant.reads_only told) (c.read_piece.ensures.reads_only told);
      bytes = λ told layers count are within.
          let files = old.state.files in
          let here = subst (λ (s : DiskState). AreLayers s.files c.args.stack.now layers) (sym (c.loop-page.invariant.reads_only told).state) are in
          let part = part_long at n page from to start is soon reached c.loop-page.into long in
          let s : Bytes = bytes_with layers (own_at c.args.own.now c.args.id) count in
          let room : c.read_piece.new.into ≡ take (to - from) (drop (page * PAGE_SIZE + start) s) =
          c.in_ok-read_piece.ensures.bytes told layers here
          ∙ ap (λ (k : ℕ). take k (drop start (page_of layers (own_at c.args.own.now c.args.id page) page))) part
          ∙ sym (bytes_piece files c.args.stack.now layers are (own_at c.args.own.now c.args.id) c.requires.whole page count start (to - from) (omega (arith, reached, within)) (fits at n page from to start is soon reached)) in
          read_more at n page from to start is soon reached s c.loop-page.into (put_mid from (to - from) c.loop-page.into c.read_piece.new.into) c.read_piece.new.into long
          (c.loop-page.invariant.bytes told layers count are within) refl room (c.read_piece.auto.into ∙ part);
    }

pub returns-clause-reads_only : goal.returns-clause-reads_only
returns-clause-reads_only g c = λ told.
    reads_only_all (is_foreign c.args.own.now c.args.id) c.pages_of_range-pages.result.0 c.loop-page.page c.pages_of_range-pages.result.1 (touched_pages c.args.at (length c.args.into.now)) (g.D.Disk.view c.args.disk.now) (g.D.Disk.view c.loop-page.disk)
    c.loop-page.invariant.from c.loop-page.invariant.until c.pages_of_range-pages.ensures.touched (c.loop-page.invariant.reads_only told)

pub returns-clause-bytes : goal.returns-clause-bytes
returns-clause-bytes g c = λ told layers count are within.
    let n = length c.args.into.now in
    let s : Bytes = drop c.args.at (bytes_with layers (own_at c.args.own.now c.args.id) count) in
    let last : c.loop-page.page ≡ c.pages_of_range-pages.result.1 = omega (arith, c.loop-page-test.false, c.loop-page.invariant.until) in
    let all = all_before c.args.at n c.loop-page.page (subst (λ (k : ℕ). n ≤ k * PAGE_SIZE - c.args.at) (sym last) c.pages_of_range-pages.ensures.covers) in
    sym (take_all n c.loop-page.into (omega (arith, c.loop-page.auto.into)))
    ∙ ap (λ (k : ℕ). take k c.loop-page.into) (sym all)
    ∙ c.loop-page.invariant.bytes told layers count are within
    ∙ ap (λ (k : ℕ). take k s) all
