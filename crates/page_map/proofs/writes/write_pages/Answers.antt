use Rattle.std.proofs.Common.{◌≡◌, ℕ, ◌+◌, ◌-◌, ◌*◌, ◌<◌, ◌≤◌, ◌&&◌, nat_lt, length, take, drop, cond, refl, sym, ◌∙◌, ap, subst, arith}
use Rattle.std.proofs.lemmas.List.{take_all}
use Rattle.format_spec.specs.Bytes.{Bytes}
use Rattle.format_spec.specs.declared.limits.TheConstants.{PAGE_SIZE}
use Rattle.state_spec.specs.Memory.{with_bytes_at}
use Rattle.disk_model.specs.State.{DiskState}
use Rattle.layer_stack.specs.Stacks.{AreLayers}
use Rattle.page_map.specs.Maps.{own_at}
use Rattle.page_map.specs.Reads.{bytes_with}
use Rattle.page_map.specs.Changes.{Writes}
use Rattle.page_map.specs.Pieces.{touched_pages, is_foreign, is_filled_in_part}
use Rattle.page_map.proofs.Ranges.{reads_only_next, reads_only_all, write_amount, all_before, part_long, fits, write_more}
use Rattle.page_map.proofs.Written.{bytes_long, bytes_put, only_then, writes_more, written_whole}
use Rattle.page_map.proofs.writes.write_pages.Goals as goal

pub write_page-requires-clause-whole : goal.write_page-requires-clause-whole
write_page-requires-clause-whole g c = written_whole (own_at c.args.own.now c.args.id) (own_at c.loop-page.own c.args.id) c.args.stamp c.args.pages.0 c.loop-page.page c.loop-page.invariant.written c.requires.whole

pub returns-in_err-write_page-clause-reads_only : goal.returns-in_err-write_page-clause-reads_only
returns-in_err-write_page-clause-reads_only g c = λ told.
    let page = c.loop-page.page in
    let at = c.args.at in
    let n = length c.args.bytes.now in
    let first = c.args.pages.0 in
    let p = λ (q : ℕ). is_filled_in_part at n q && is_foreign c.args.own.now c.args.id q in
    let old = g.D.Disk.view c.args.disk.now in
    let mid = g.D.Disk.view c.loop-page.disk in
    let new = g.D.Disk.view c.write_page.new.disk in
    let from = c.piece_of-piece.result.from in
    let to = c.piece_of-piece.result.to in
    let soon : at < page * PAGE_SIZE + PAGE_SIZE = omega (arith, c.requires.pages.soon, c.loop-page.invariant.from) in
    let reached : page * PAGE_SIZE < at + n = omega (arith, c.requires.pages.ends, c.loop-page-test.true) in
    let part : Bytes = take (to - from) (drop from c.args.bytes.now) in
    let amount = write_amount at n page from to c.piece_of-piece.result.start c.piece_of-piece.ensures soon reached c.args.bytes.now refl c.args.own.now c.loop-page.own c.args.id (c.loop-page.invariant.written.rest page (omega arith)) in
    reads_only_all p first (page + 1) c.args.pages.1 (touched_pages at n) old new (omega (arith, c.loop-page.invariant.from)) (omega (arith, c.loop-page-test.true)) c.requires.pages.touched
    (reads_only_next p first page (cond (nat_lt (length part) PAGE_SIZE && is_foreign c.loop-page.own c.args.id page) PAGE_SIZE 0) old mid new c.loop-page.invariant.from amount (c.loop-page.invariant.reads_only told) (c.write_page.ensures.reads_only told))

pub loop-page-preserved : goal.loop-page-preserved
loop-page-preserved g c =
    let page = c.loop-page.page in
    let at = c.args.at in
    let n = length c.args.bytes.now in
    let first = c.args.pages.0 in
    let p = λ (q : ℕ). is_filled_in_part at n q && is_foreign c.args.own.now c.args.id q in
    let old = g.D.Disk.view c.args.disk.now in
    let mid = g.D.Disk.view c.loop-page.disk in
    let new = g.D.Disk.view c.write_page.new.disk in
    let from = c.piece_of-piece.result.from in
    let to = c.piece_of-piece.result.to in
    let start = c.piece_of-piece.result.start in
    let soon : at < page * PAGE_SIZE + PAGE_SIZE = omega (arith, c.requires.pages.soon, c.loop-page.invariant.from) in
    let reached : page * PAGE_SIZE < at + n = omega (arith, c.requires.pages.ends, c.loop-page-test.true) in
    let part : Bytes = take (to - from) (drop from c.args.bytes.now) in
    let amount = write_amount at n page from to start c.piece_of-piece.ensures soon reached c.args.bytes.now refl c.args.own.now c.loop-page.own c.args.id (c.loop-page.invariant.written.rest page (omega arith)) in
    let put = c.in_ok-write_page.ensures.put in
    record {
      from = omega (arith, c.loop-page.invariant.from);
      until = omega (arith, c.loop-page-test.true);
      faults = omega (arith, c.write_page.ensures.cause.never_falls, c.loop-page.invariant.faults);
      live = put.2.live;
      written = writes_more (own_at c.args.own.now c.args.id) c.loop-page.own c.write_page.new.own c.args.id c.args.stamp first page put.0 c.loop-page.invariant.from put.1 c.loop-page.invariant.written put.2;
      others = only_then c.args.own.now c.loop-page.own c.write_page.new.own c.args.id c.loop-page.invariant.others put.2.others;
      reads_only = λ told. reads_only_next p first page (cond (nat_lt (length part) PAGE_SIZE && is_foreign c.loop-page.own c.args.id page) PAGE_SIZE 0) old mid new c.loop-page.invariant.from amount (c.loop-page.invariant.reads_only told) (c.write_page.ensures.reads_only told);
      bytes = λ told layers count are within.
          let files = old.state.files in
          let here = subst (λ (s : DiskState). AreLayers s.files c.args.stack.now layers) (sym (c.loop-page.invariant.reads_only told).state) are in
          let whole = written_whole (own_at c.args.own.now c.args.id) (own_at c.loop-page.own c.args.id) c.args.stamp first page c.loop-page.invariant.written c.requires.whole in
          let long = bytes_long files c.args.stack.now layers are (own_at c.args.own.now c.args.id) c.requires.whole count in
          let part_fits = fits at n page from to start c.piece_of-piece.ensures soon reached in
          let part_is = part_long at n page from to start c.piece_of-piece.ensures soon reached c.args.bytes.now refl in
          write_more at n page from to start c.piece_of-piece.ensures soon reached (bytes_with layers (own_at c.args.own.now c.args.id) count) (bytes_with layers (own_at c.loop-page.own c.args.id) count) (bytes_with layers (own_at c.write_page.new.own c.args.id) count)
          c.args.bytes.now refl (omega (arith, long, within)) (c.loop-page.invariant.bytes told layers count are within)
          (bytes_put files c.args.stack.now layers are (own_at c.loop-page.own c.args.id) (own_at c.write_page.new.own c.args.id) whole page count start part put.2.rest (c.in_ok-write_page.ensures.bytes told layers here)
          (omega (arith, reached, within)) (omega (arith, part_fits, part_is)));
    }

pub returns-clause-written : goal.returns-clause-written
returns-clause-written g c =
    let last : c.loop-page.page ≡ c.args.pages.1 = omega (arith, c.loop-page-test.false, c.loop-page.invariant.until) in
    subst (λ (k : ℕ). Writes (own_at c.args.own.now c.args.id) (own_at c.loop-page.own c.args.id) c.args.stamp c.args.pages.0 k) last c.loop-page.invariant.written

pub returns-clause-reads_only : goal.returns-clause-reads_only
returns-clause-reads_only g c = λ told.
    reads_only_all (λ (q : ℕ). is_filled_in_part c.args.at (length c.args.bytes.now) q && is_foreign c.args.own.now c.args.id q) c.args.pages.0 c.loop-page.page c.args.pages.1 (touched_pages c.args.at (length c.args.bytes.now)) (g.D.Disk.view c.args.disk.now) (g.D.Disk.view c.loop-page.disk)
    c.loop-page.invariant.from c.loop-page.invariant.until c.requires.pages.touched (c.loop-page.invariant.reads_only told)

pub returns-clause-bytes : goal.returns-clause-bytes
returns-clause-bytes g c = λ told layers count are within.
    let n = length c.args.bytes.now in
    let s : Bytes = bytes_with layers (own_at c.args.own.now c.args.id) count in
    let last : c.loop-page.page ≡ c.args.pages.1 = omega (arith, c.loop-page-test.false, c.loop-page.invariant.until) in
    let all = all_before c.args.at n c.loop-page.page (subst (λ (k : ℕ). n ≤ k * PAGE_SIZE - c.args.at) (sym last) c.requires.pages.covers) in
    c.loop-page.invariant.bytes told layers count are within
    ∙ ap (λ (k : ℕ). with_bytes_at s c.args.at (take k c.args.bytes.now)) all
    ∙ ap (λ (w : Bytes). with_bytes_at s c.args.at w) (take_all n c.args.bytes.now (omega arith))
