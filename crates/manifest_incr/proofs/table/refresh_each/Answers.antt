use Rattle.std.proofs.Common.{◌≡◌, ◌+◌, ◌*◌, ◌<◌, ◌≤◌, ◌++◌, ℕ, length, take, drop, min, get_or, refl, sym, ap, ◌∙◌, subst, arith}
use Rattle.std.proofs.lemmas.List.{length-take, length-append, length-drop, length-set}
use Rattle.format_spec.specs.Bytes.{Bytes, part_count}
use Rattle.state_spec.specs.Manifest.{sum_of}
use Rattle.disk_model.specs.State.{DiskState}
use Rattle.disk_model.specs.View.{DiskView}
use Rattle.disk_model.specs.OnlyReads.{OnlyReads, reads_only_then, reads_only_more}
use Rattle.layer_stack.specs.Stacks.{AreLayers}
use Rattle.page_map.specs.Reads.{bytes_of}
use Rattle.page_map.proofs.Lives.{refused_bytes}
use Rattle.manifest_incr.specs.Tables.{chunk_at}
use Rattle.manifest_incr.proofs.Taken.{sums_more, rest_more, maps_then, all_at}
use Rattle.manifest_incr.proofs.table.refresh_each.Goals as goal

pub returns-in_err-sums-clause-reads_only : goal.returns-in_err-sums-clause-reads_only
returns-in_err-sums-clause-reads_only g c = λ told.
    let old = g.D.Disk.view c.args.disk.now in
    let mid = g.D.Disk.view c.loop-i.disk in
    let new = g.D.Disk.view c.read_sum.new.disk in
    let i = c.loop-i.i in
    reads_only_more (1048576 * i + 1048576) (1048576 * length c.args.stale.now) old new (omega (arith, c.loop-i-test.true))
    (reads_only_then (1048576 * i) 1048576 old mid new (c.loop-i.invariant.reads_only told) (c.read_sum.ensures.reads_only told))

pub loop-i-preserved : goal.loop-i-preserved
loop-i-preserved g c =
    let old = g.D.Disk.view c.args.disk.now in
    let mid = g.D.Disk.view c.loop-i.disk in
    let new = g.D.Disk.view c.read_sum.new.disk in
    let i = c.loop-i.i in
    let stale = c.args.stale.now in
    let chunk : ℕ = get_or stale i 0 in
    let sums = c.loop-i.sums.items in
    let lt : i < length stale = omega (arith, c.loop-i-test.true) in
    let count : ℕ = part_count 256 c.args.map.now.length in
    let inside : chunk < count = all_at count stale i c.requires.chunks lt in
    record {
      faults = omega (arith, c.loop-i.invariant.faults, c.read_sum.ensures.cause.never_falls);
      count = length-set sums chunk c.in_ok-sums.field-0 ∙ c.loop-i.invariant.count;
      maps = maps_then c.args.pages.now c.loop-i.pages c.read_sum.new.pages c.loop-i.invariant.maps c.read_sum.ensures.unchanged;
      reads_only = λ told.
          let more : 1048576 * i + 1048576 ≡ 1048576 * (i + 1) = omega arith in
          subst (λ (m : ℕ). OnlyReads m old new) more (reads_only_then (1048576 * i) 1048576 old mid new (c.loop-i.invariant.reads_only told) (c.read_sum.ensures.reads_only told));
      rest = λ j none. rest_more stale c.args.sums.now.items sums _ i chunk j c.in_ok-sums.field-0 lt refl refl none (c.loop-i.invariant.rest j none);
      sums = λ told layers first are start.
          let bytes : Bytes = bytes_of layers c.args.pages.now c.args.map.now in
          let here = subst (λ (s : DiskState). AreLayers s.files c.args.map.now.stack layers) (sym (c.loop-i.invariant.reads_only told).state) are in
          let same = refused_bytes c.args.pages.now c.loop-i.pages c.args.map.now layers c.loop-i.invariant.maps in
          sums_more c.args.version stale first sums _ bytes count i chunk c.in_ok-sums.field-0 lt refl inside
          (c.in_ok-sums.ensures.sum told layers here ∙ ap (λ (b : Bytes). sum_of c.args.version (chunk_at b chunk)) same) refl
          (c.loop-i.invariant.sums told layers first are start);
    }
