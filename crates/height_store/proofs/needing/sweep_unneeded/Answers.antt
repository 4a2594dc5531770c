use Rattle.std.proofs.Common.{◌≡◌, ◌∙◌, ℕ, nat_eq, Bool, ap, subst, arith}
use Rattle.std.specs.List.{list_any}
use Rattle.disk_model.specs.declared.name.Name.{Name}
use Rattle.disk_model.specs.Writing.{Writes, write_stopped, wrote_none}
use Rattle.height_store.specs.Needed.{is_page_needed}
use Rattle.height_store.proofs.Needs.{others_are, swept_is}
use Rattle.height_store.proofs.needing.sweep_unneeded.Goals as goal

pub returns-in_err-needed-clause-writes : goal.returns-in_err-needed-clause-writes
returns-in_err-needed-clause-writes g c = write_stopped g.D.Disk _ _ _ 0 _ _ _ c.from_residual.ensures.1 (omega arith) (wrote_none g.D.Disk _ c.args.disk.now)

pub returns-in_err-kept-clause-writes : goal.returns-in_err-kept-clause-writes
returns-in_err-kept-clause-writes g c = write_stopped g.D.Disk _ _ _ 0 _ _ _ c.from_residual-in_err-kept.ensures.1 (omega arith) (wrote_none g.D.Disk _ c.args.disk.now)

pub returns-clause-swept : goal.returns-clause-swept
returns-clause-swept g c = λ told.
    let paged : (n : ℕ) → list_any (nat_eq n) c.deref.result.now ≡ is_page_needed c.args.heights.now c.args.pins.now n = λ n. ap (list_any (nat_eq n)) c.deref.ensures.value ∙ c.in_ok-needed.ensures.each n in
    let staged : (n : ℕ) → list_any (nat_eq n) c.deref-2.result.now ≡ list_any (nat_eq n) c.args.stages.now = λ n. ap (list_any (nat_eq n)) c.deref-2.ensures.value ∙ c.put_in_order.ensures.each n ∙ ap (list_any (nat_eq n)) c.in_ok-kept.ensures.items in
    swept_is c.sweep_others.result c.args.heights.now c.args.pins.now c.args.stages.now _ _ _ (others_are c.args.heights.now c.args.pins.now c.args.stages.now c.deref.result.now c.deref-2.result.now paged staged)
    (c.sweep_others.ensures.gone told) (c.sweep_others.ensures.writes.only told).touches.reads

pub returns-clause-writes : goal.returns-clause-writes
returns-clause-writes g c =
    let paged : (n : ℕ) → list_any (nat_eq n) c.deref.result.now ≡ is_page_needed c.args.heights.now c.args.pins.now n = λ n. ap (list_any (nat_eq n)) c.deref.ensures.value ∙ c.in_ok-needed.ensures.each n in
    let staged : (n : ℕ) → list_any (nat_eq n) c.deref-2.result.now ≡ list_any (nat_eq n) c.args.stages.now = λ n. ap (list_any (nat_eq n)) c.deref-2.ensures.value ∙ c.put_in_order.ensures.each n ∙ ap (list_any (nat_eq n)) c.in_ok-kept.ensures.items in
    subst (λ (given : Name → Bool). Writes g.D.Disk given 0 c.args.disk.now c.sweep_others.new.disk c.sweep_others.result)
    (others_are c.args.heights.now c.args.pins.now c.args.stages.now c.deref.result.now c.deref-2.result.now paged staged) c.sweep_others.ensures.writes
