use Rattle.std.proofs.Common.{◌≡◌, ◌+◌, ◌*◌, ℕ, length, map, get_or, None, refl, sym, ap, ◌∙◌, subst, arith}
use Rattle.std.specs.List.{range_with_len}
use Rattle.format_spec.specs.Bytes.{Bytes, part_count}
use Rattle.page_spec.specs.Layers.{Layer}
use Rattle.page_map.specs.Reads.{bytes_of}
use Rattle.page_map.proofs.Written.{live_long}
use Rattle.manifest_incr.specs.Tables.{Sums, sums_after, refreshed, HasRest}
use Rattle.manifest_incr.proofs.Taken.{first_long, first_at, first_is}
use Rattle.manifest_incr.proofs.Kept.{all_sums, refreshed_is}
use Rattle.manifest_incr.proofs.table.ChunkTable.refresh.Goals as goal

pub refresh_each-requires-clause-count : goal.refresh_each-requires-clause-count
refresh_each-requires-clause-count g c = first_long c.deref.result.now c.in_ok-sums.sums.items c.div_ceil-count.result c.in_ok-sums.ensures ∙ c.div_ceil-count.ensures ∙ ap (part_count 256) c.length.ensures

pub returns-clause-count : goal.returns-clause-count
returns-clause-count g c =
    c.refresh_each.ensures.count ∙ first_long c.deref.result.now c.in_ok-sums.sums.items c.div_ceil-count.result c.in_ok-sums.ensures ∙ c.div_ceil-count.ensures ∙ ap (part_count 256) c.length.ensures

pub returns-clause-rest : goal.returns-clause-rest
returns-clause-rest g c = λ i lt none.
    let count : c.div_ceil-count.result ≡ part_count 256 c.args.map.now.length = c.div_ceil-count.ensures ∙ ap (part_count 256) c.length.ensures in
    c.refresh_each.ensures.rest i none
    ∙ first_at c.deref.result.now c.in_ok-sums.sums.items c.div_ceil-count.result (part_count 256 c.args.map.now.length) i count lt c.in_ok-sums.ensures
    ∙ ap (λ (s : Sums). get_or s i None) (c.deref.ensures.value ∙ c.self.view_is)

pub returns-clause-sums : goal.returns-clause-sums
returns-clause-sums g c = λ told layers are.
    let count : c.div_ceil-count.result ≡ part_count 256 c.args.map.now.length = c.div_ceil-count.ensures ∙ ap (part_count 256) c.length.ensures in
    let bytes : Bytes = bytes_of layers c.args.pages.now c.args.map.now in
    let table : c.deref.result.now ≡ c.args.self.now = c.deref.ensures.value ∙ c.self.view_is in
    refreshed_is c.args.version c.args.stale.now c.args.self.now c.refresh_each.new.sums.items bytes c.args.map.now.length (live_long c.args.pages.now c.args.map.now (g.D.Disk.view c.args.disk.now).state.files layers c.requires.live are)
    (c.in_ok-refresh_each.ensures.sums told layers c.args.self.now are
    (first_is c.args.version c.deref.result.now c.args.self.now c.in_ok-sums.sums.items bytes c.div_ceil-count.result (part_count 256 c.args.map.now.length) count table c.in_ok-sums.ensures))

pub returns-clause-whole : goal.returns-clause-whole
returns-clause-whole g c = λ told layers are rest.
    let count : c.div_ceil-count.result ≡ part_count 256 c.args.map.now.length = c.div_ceil-count.ensures ∙ ap (part_count 256) c.length.ensures in
    let bytes : Bytes = bytes_of layers c.args.pages.now c.args.map.now in
    let table : c.deref.result.now ≡ c.args.self.now = c.deref.ensures.value ∙ c.self.view_is in
    refreshed_is c.args.version c.args.stale.now c.args.self.now c.refresh_each.new.sums.items bytes c.args.map.now.length (live_long c.args.pages.now c.args.map.now (g.D.Disk.view c.args.disk.now).state.files layers c.requires.live are)
    (c.in_ok-refresh_each.ensures.sums told layers c.args.self.now are
    (first_is c.args.version c.deref.result.now c.args.self.now c.in_ok-sums.sums.items bytes c.div_ceil-count.result (part_count 256 c.args.map.now.length) count table c.in_ok-sums.ensures))
    ∙ all_sums c.args.version c.args.stale.now c.args.self.now bytes rest
