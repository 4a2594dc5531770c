use Rattle.std.proofs.Common.{◌≡◌, ℕ, ◌+◌, ◌*◌, ◌≤◌, length, refl, sym, ◌∙◌, ap, subst, arith}
use Rattle.format_spec.specs.declared.limits.TheConstants.{PAGE_SIZE}
use Rattle.state_spec.specs.Memory.{with_bytes_at}
use Rattle.page_map.specs.Maps.{Maps, Map, own_at}
use Rattle.page_map.specs.Reads.{IsLive, bytes_of}
use Rattle.page_map.specs.Changes.{Writes}
use Rattle.page_map.proofs.Written.{bytes_put, writes_one, written_stamps, written_live}
use Rattle.page_map.proofs.pages.Pages.write.Goals as goal

pub returns-in_ok-write_page-in-1-clause-bytes : goal.returns-in_ok-write_page-in-1-clause-bytes
returns-in_ok-write_page-in-1-clause-bytes g c =
    let m : Map = record { id = c.map.inside.id; stack = c.map.inside.stack; length = c.map.inside.length } in
    let live : IsLive c.self.inside.own m = subst (λ (s : Maps). IsLive s m) (sym c.self.view_is) (subst (λ (n : Map). IsLive c.args.self.now n) (sym c.map.view_is) c.requires.live) in
    let within : c.args.at + length c.args.bytes.now ≤ m.length * PAGE_SIZE = subst (λ (n : Map). c.args.at + length c.args.bytes.now ≤ n.length * PAGE_SIZE) (sym c.map.view_is) c.requires.within in
    let first = c.pages_of_range-pages.result.0 in
    let start = c.piece_of-start.result.start in
    let place : first * PAGE_SIZE + start ≡ c.args.at = omega (arith, c.piece_of-start.ensures.start_is, c.pages_of_range-pages.ensures.begins) in
    rw (← c.self.view_is, ← c.map.view_is) (λ told layers are.
    bytes_put (g.D.Disk.view c.args.disk.now).state.files c.map.inside.stack layers are (own_at c.self.inside.own c.map.inside.id) (own_at c.write_page.new.own c.map.inside.id) live.whole first c.map.inside.length start c.args.bytes.now
    c.in_ok-write_page-in-1.ensures.put.2.rest (c.in_ok-write_page-in-1.ensures.bytes told layers are)
    (omega (arith, c.pages_of_range-pages.ensures.ends, c.in-1.is, within))
    (omega (arith, c.pages_of_range-pages.ensures.covers, c.in-1.is, c.piece_of-start.ensures.start_is, c.pages_of_range-pages.ensures.begins))
    ∙ ap (λ (k : ℕ). with_bytes_at (bytes_of layers c.self.inside.own m) k c.args.bytes.now) place)

pub returns-in_ok-write_page-in-1-clause-stamps : goal.returns-in_ok-write_page-in-1-clause-stamps
returns-in_ok-write_page-in-1-clause-stamps g c =
    let put = c.in_ok-write_page-in-1.ensures.put in
    let first = c.pages_of_range-pages.result.0 in
    let next : first + 1 ≡ c.pages_of_range-pages.result.1 = omega (arith, c.in-1.is) in
    let w = subst (λ (k : ℕ). Writes (own_at c.self.inside.own c.map.inside.id) (own_at c.write_page.new.own c.map.inside.id) c.args.stamp first k) next (writes_one c.self.inside.own c.write_page.new.own c.map.inside.id c.args.stamp first put.0 put.1 put.2) in
    rw (← c.self.view_is, ← c.map.view_is)
    (written_stamps (own_at c.self.inside.own c.map.inside.id) (own_at c.write_page.new.own c.map.inside.id) c.args.stamp first c.pages_of_range-pages.result.1 w c.args.at (length c.args.bytes.now) c.pages_of_range-pages.ensures.order c.pages_of_range-pages.ensures.touched)

pub returns-in_ok-write_page-in-1-clause-live : goal.returns-in_ok-write_page-in-1-clause-live
returns-in_ok-write_page-in-1-clause-live g c =
    let m : Map = record { id = c.map.inside.id; stack = c.map.inside.stack; length = c.map.inside.length } in
    let live : IsLive c.self.inside.own m = subst (λ (s : Maps). IsLive s m) (sym c.self.view_is) (subst (λ (n : Map). IsLive c.args.self.now n) (sym c.map.view_is) c.requires.live) in
    let within : c.args.at + length c.args.bytes.now ≤ m.length * PAGE_SIZE = subst (λ (n : Map). c.args.at + length c.args.bytes.now ≤ n.length * PAGE_SIZE) (sym c.map.view_is) c.requires.within in
    let put = c.in_ok-write_page-in-1.ensures.put in
    let first = c.pages_of_range-pages.result.0 in
    rw (← c.map.view_is)
    (written_live c.self.inside.own c.write_page.new.own m m c.args.stamp first (first + 1) live (writes_one c.self.inside.own c.write_page.new.own c.map.inside.id c.args.stamp first put.0 put.1 put.2)
    (omega (arith, c.pages_of_range-pages.ensures.ends, c.in-1.is, within)) put.2.live refl refl)

pub returns-in_ok-map-inside-in_default-clause-stamps : goal.returns-in_ok-map-inside-in_default-clause-stamps
returns-in_ok-map-inside-in_default-clause-stamps g c =
    let id = c.in_ok-map-inside-in_default.field-0 in
    rw (← c.self.view_is, ← c.map.view_is)
    (written_stamps (own_at c.self.inside.own c.map.inside.id) (own_at c.write_fork.new.own id) c.args.stamp c.pages_of_range-pages.result.0
    c.pages_of_range-pages.result.1 c.in_ok-map-inside-in_default.ensures.written c.args.at (length c.args.bytes.now) c.pages_of_range-pages.ensures.order c.pages_of_range-pages.ensures.touched)

pub returns-in_ok-map-inside-in_default-clause-live : goal.returns-in_ok-map-inside-in_default-clause-live
returns-in_ok-map-inside-in_default-clause-live g c =
    let m : Map = record { id = c.map.inside.id; stack = c.map.inside.stack; length = c.map.inside.length } in
    let n : Map = record { id = c.in_ok-map-inside-in_default.field-0; stack = c.map.inside.stack; length = c.map.inside.length } in
    let live : IsLive c.self.inside.own m = subst (λ (s : Maps). IsLive s m) (sym c.self.view_is) (subst (λ (k : Map). IsLive c.args.self.now k) (sym c.map.view_is) c.requires.live) in
    let within : c.args.at + length c.args.bytes.now ≤ m.length * PAGE_SIZE = subst (λ (k : Map). c.args.at + length c.args.bytes.now ≤ k.length * PAGE_SIZE) (sym c.map.view_is) c.requires.within in
    written_live c.self.inside.own c.write_fork.new.own m n c.args.stamp c.pages_of_range-pages.result.0 c.pages_of_range-pages.result.1 live c.in_ok-map-inside-in_default.ensures.written
    (omega (arith, c.pages_of_range-pages.ensures.ends, within)) c.in_ok-map-inside-in_default.ensures.live refl refl
