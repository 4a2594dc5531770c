use Rattle.std.proofs.Common.{ℕ, ◌-◌, ◌%◌, refl, sym, subst, arith}
use Rattle.page_pool.specs.Pool.{with_bytes}
use Rattle.page_delta.specs.Delta.{Holds}
use Rattle.page_delta.specs.Roots.{AreSound}
use Rattle.page_delta.specs.declared.entry.Entry.{Entry}
use Rattle.page_delta.proofs.Seen.{held-viewed, seen-held, seen-unchanged}
use Rattle.page_delta.proofs.Calls.{slot-free, held-new, sets}
use Rattle.page_delta.proofs.Sharing.{not-some}
use Rattle.page_delta.proofs.Places.{stands-free}
use Rattle.page_delta.proofs.OwnPages.{own-found}
use Rattle.page_delta.proofs.InPlace.{kept-in-place, held-in-place, sets-in-place}
use Rattle.page_delta.proofs.deltas.Deltas.set.Goals.{After-place}
use Rattle.page_delta.proofs.deltas.Deltas.set.Goals as goal

pub own_place-requires-clause-held : goal.own_place-requires-clause-held
own_place-requires-clause-held c = held-viewed c.self.inside.nodes.slots c.self.inside.ids.slots c.args.pool.now c.self.view_is c.requires.holds

abbrev entry_of : ℕ → ℕ → Entry
entry_of slot stamp = record { slot = slot; stamp = stamp }

kept : (c : After-place) → AreSound c.place.new.nodes.slots c.self.inside.ids.slots
kept c = kept-in-place c.self.inside.nodes.slots c.self.inside.ids.slots c.args.pool.now c.id.inside.0 c.args.page c.in-Some.own.leaf c.in-Some.own.slot c.self.invariant
    (held-viewed c.self.inside.nodes.slots c.self.inside.ids.slots c.args.pool.now c.self.view_is c.requires.holds) c.requires.page c.in-Some.ensures.own c.place.new.nodes.slots
    (entry_of c.in-Some.own.slot c.args.stamp) c.args.bytes.now refl c.place.ensures.now c.place.ensures.rest (omega (arith, c.place.ensures.grows.len, c.self.invariant.few_nodes))

pub invariant_of-self : goal.invariant_of-self
invariant_of-self c = kept (goal.at.invariant_of-self c).After-place

pub returns-in-Some-clause-set : goal.returns-in-Some-clause-set
returns-in-Some-clause-set c =
    rw (← c.self.view_is, ← c.id.view_is)
    (sets-in-place c.self.inside.nodes.slots c.self.inside.ids.slots c.args.pool.now c.id.inside.0 c.args.page c.in-Some.own.leaf c.in-Some.own.slot c.self.invariant
    (held-viewed c.self.inside.nodes.slots c.self.inside.ids.slots c.args.pool.now c.self.view_is c.requires.holds) c.requires.page c.in-Some.ensures.own c.place.new.nodes.slots
    (entry_of c.in-Some.own.slot c.args.stamp) c.args.bytes.now refl c.place.ensures.now c.place.ensures.rest (omega (arith, c.place.ensures.grows.len, c.self.invariant.few_nodes)))

pub returns-in-Some-clause-holds : goal.returns-in-Some-clause-holds
returns-in-Some-clause-holds c =
    seen-held c.place.new.nodes.slots c.self.inside.ids.slots (with_bytes c.args.pool.now c.in-Some.own.slot c.args.bytes.now) (kept (goal.at.returns-in-Some-clause-holds c).After-place)
    (held-in-place c.self.inside.nodes.slots c.self.inside.ids.slots c.args.pool.now c.id.inside.0 c.args.page c.in-Some.own.leaf c.in-Some.own.slot c.self.invariant
    (held-viewed c.self.inside.nodes.slots c.self.inside.ids.slots c.args.pool.now c.self.view_is c.requires.holds) c.requires.page c.in-Some.ensures.own c.place.new.nodes.slots
    (entry_of c.in-Some.own.slot c.args.stamp) c.args.bytes.now refl c.place.ensures.now c.place.ensures.rest (omega (arith, c.place.ensures.grows.len, c.self.invariant.few_nodes)))

pub put_entry-requires-clause-held : goal.put_entry-requires-clause-held
put_entry-requires-clause-held c =
    let h0 = held-viewed c.self.inside.nodes.slots c.self.inside.ids.slots c.args.pool.now c.self.view_is c.requires.holds in
    let entry : Entry = record { slot = c.put-slot.result; stamp = c.args.stamp } in
    rw c.make_room.ensures.nodes (held-new c.args.pool.now c.reserve.new.self c.put-slot.new.self c.put-slot.result
    (1 - c.args.pool.now.spare) c.args.bytes.now c.in_ok-reserve.ensures.ok c.put-slot.ensures.free c.put-slot.ensures.within
    c.put-slot.ensures.put c.self.inside.nodes.slots entry refl h0)

pub put_entry-requires-clause-placed : goal.put_entry-requires-clause-placed
put_entry-requires-clause-placed c =
    let h0 = held-viewed c.self.inside.nodes.slots c.self.inside.ids.slots c.args.pool.now c.self.view_is c.requires.holds in
    let free = slot-free c.args.pool.now c.reserve.new.self c.put-slot.new.self c.put-slot.result
    (1 - c.args.pool.now.spare) c.args.bytes.now c.in_ok-reserve.ensures.ok c.put-slot.ensures.free c.put-slot.ensures.within
    c.put-slot.ensures.put in
    rw c.make_room.ensures.nodes (stands-free c.self.inside.nodes.slots c.args.pool.now (λ s. 0) c.put-slot.result
    (c.args.page % 32) h0 free)

pub returns-clause-set : goal.returns-clause-set
returns-clause-set c =
    let h0 = held-viewed c.self.inside.nodes.slots c.self.inside.ids.slots c.args.pool.now c.self.view_is c.requires.holds in
    let entry : Entry = record { slot = c.put-slot.result; stamp = c.args.stamp } in
    let put = rw c.make_room.ensures.nodes at c.put_entry.ensures.put in
    rw (← c.self.view_is, ← c.id.view_is) (sets c.args.pool.now c.reserve.new.self c.put-slot.new.self c.put-slot.result
    (1 - c.args.pool.now.spare) c.args.bytes.now c.in_ok-reserve.ensures.ok c.put-slot.ensures.free c.put-slot.ensures.within
    c.put-slot.ensures.put c.self.inside.nodes.slots c.put_entry.new.nodes.slots c.self.inside.ids.slots c.put_entry.new.ids.slots
    c.put_entry.new.pool c.id.inside.0 c.args.page c.args.stamp entry refl refl h0 c.put_entry.ensures.held put
    c.put_entry.ensures.keeps)

pub returns-clause-holds : goal.returns-clause-holds
returns-clause-holds c = seen-held c.put_entry.new.nodes.slots c.put_entry.new.ids.slots c.put_entry.new.pool c.put_entry.ensures.kept
    c.put_entry.ensures.held

pub returns-in_err-make_room-clause-holds : goal.returns-in_err-make_room-clause-holds
returns-in_err-make_room-clause-holds c =
    seen-unchanged c.self.inside.nodes.slots c.make_room.new.nodes.slots c.self.inside.ids.slots c.self.inside.ids.slots c.args.pool.now
    c.make_room.ensures.nodes refl (subst (λ d. Holds c.args.pool.now d) (sym c.self.view_is) c.requires.holds)

pub returns-in_err-reserve-clause-holds : goal.returns-in_err-reserve-clause-holds
returns-in_err-reserve-clause-holds c =
    let same = seen-unchanged c.self.inside.nodes.slots c.make_room.new.nodes.slots c.self.inside.ids.slots c.self.inside.ids.slots
    c.args.pool.now c.make_room.ensures.nodes refl (subst (λ d. Holds c.args.pool.now d) (sym c.self.view_is) c.requires.holds) in
    rw c.in_err-reserve.ensures.err same

pub returns-in_err-make_room-clause-own : goal.returns-in_err-make_room-clause-own
returns-in_err-make_room-clause-own c = λ own.
    let p = own-found c.self.inside.nodes.slots c.self.inside.ids.slots c.args.pool.now c.args.self.now c.id.inside.0 c.args.id c.args.page
    c.self.view_is c.id.view_is c.self.invariant c.requires.holds c.requires.page own in
    absurd (not-some c.own_place.result c.in_default.is (c.own_place.ensures.some p.0 p.1 p.2))

pub returns-in_err-reserve-clause-own : goal.returns-in_err-reserve-clause-own
returns-in_err-reserve-clause-own c = λ own.
    let p = own-found c.self.inside.nodes.slots c.self.inside.ids.slots c.args.pool.now c.args.self.now c.id.inside.0 c.args.id c.args.page
    c.self.view_is c.id.view_is c.self.invariant c.requires.holds c.requires.page own in
    absurd (not-some c.own_place.result c.in_default.is (c.own_place.ensures.some p.0 p.1 p.2))
