use Rattle.std.proofs.Common.{ℕ, ◌∙◌, length, map, ap, sym, subst}
use Rattle.std.specs.Result.{OnOk}
use Rattle.disk_model.specs.Spending.{Spends}
use Rattle.disk_model.specs.Writing.{writes_spend}
use Rattle.state_spec.specs.State.{State}
use Rattle.state_spec.specs.SystemText.{system_text}
use Rattle.store_spec.specs.Whole.{whole_length}
use Rattle.sys_state.specs.System.{System, part_of}
use Rattle.height_store.specs.Laws.{over_after}
use Rattle.whole_state.specs.Whole.{HasParts}
use Rattle.live_state.specs.StateKept.{KeepsState}
use Rattle.state_manager.proofs.PublishedState.{has_parts, on_ok_both, on_ok_given, written_bytes}
use Rattle.state_manager.proofs.publishing.publish.Goals as goal

pub checkpoint-requires-clause-fit : goal.checkpoint-requires-clause-fit
checkpoint-requires-clause-fit g c = rw (c.system.ensures, c.memories.ensures.value) c.memories.ensures.fit

pub checkpoint-requires-clause-within : goal.checkpoint-requires-clause-within
checkpoint-requires-clause-within g c = rw c.memories.ensures.value c.memories.ensures.within

pub checkpoint-requires-clause-writable : goal.checkpoint-requires-clause-writable
checkpoint-requires-clause-writable g c = λ told. (c.requires.over told).writable c.height.result

pub returns-clause-publishes : goal.returns-clause-publishes
returns-clause-publishes g c =
    let parts : (k : ℕ × State) → KeepsState c.args.state.now k → HasParts k.1 c.system.result.now (map (λ v. v.items) c.memories.result.now) =
    λ k keeps. has_parts c.args.state.now k keeps c.system.result.now _ (sym c.system.ensures) (sym c.memories.ensures.value) in
    record {
      root = λ k keeps. c.checkpoint.ensures.root k.1 (parts k keeps);
      stands = λ told ps k keeps settled heights.
          on_ok_both _ _ c.checkpoint.result (on_ok_given _ _ c.checkpoint.result (c.checkpoint.ensures.writes.only told).settles settled)
          (rw (sym c.height.ensures.value) (c.checkpoint.ensures.stands told ps k.1 (parts k keeps) settled heights));
      images = λ told ps k keeps settled heights. rw (sym c.height.ensures.value) (c.checkpoint.ensures.images told ps k.1 (parts k keeps) settled heights);
      over = λ told. over_after c.checkpoint.result c.args.store.now c.checkpoint.new.store _ _ (c.requires.over told) (c.checkpoint.ensures.readable told) (c.checkpoint.ensures.writable told);
      spends = λ told k keeps.
          subst (λ (n : ℕ). OnOk c.checkpoint.result (Spends n 0 (g.D.Disk.view c.args.disk.now) (g.D.Disk.view c.checkpoint.new.disk)))
          (ap (λ (system : System). whole_length 1 (length (system_text (part_of system))) (map (λ v. v.items) c.memories.result.now)) c.system.ensures
          ∙ written_bytes c.args.state.now k keeps _ (sym c.memories.ensures.value)) (writes_spend c.checkpoint.result _ _ _ _ (c.checkpoint.ensures.writes.only told));
      numbers_given = c.checkpoint.ensures.numbers_given;
    }
