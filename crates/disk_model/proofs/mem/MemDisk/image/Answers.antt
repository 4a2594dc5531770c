use Rattle.std.proofs.Common.{List, sym, ◌∙◌, ap, subst}
use Rattle.disk_model.specs.declared.event.Event.{Event}
use Rattle.disk_model.specs.Record.{files_in, disk_of_files, state_after, appended_of}
use Rattle.disk_model.specs.Call.{count_after}
use Rattle.disk_model.specs.OfBytes.{AreOfBytes, WroteBytes, no_bytes}
use Rattle.disk_model.proofs.Chosen.{choice_is_image, fresh_is, fresh_is_image}
use Rattle.disk_model.proofs.ImageBytes.{chosen_bytes}
use Rattle.disk_model.specs.Mem.{mem_view, mem_holds_bytes}
use Rattle.disk_model.proofs.mem.MemDisk.image.Goals as goal

pub invariant_of-result : goal.invariant_of-result
unfolding mem_view
invariant_of-result c = record {
  reads = (λ i q. sym (c.in_ok-first.ensures q) i) ∙ sym (ap (λ (es : List Event). (state_after (disk_of_files (files_in c.in_ok-first.first.entries)) es).files) c.new.ensures.items);
  total = ap (λ (es : List Event). count_after 0 (appended_of 0 es)) (sym c.new.ensures.items);
  first_bytes = subst AreOfBytes (sym ((λ i q. c.in_ok-first.ensures q i) ∙ c.in_ok-files.ensures)) (chosen_bytes c.args.choice (mem_view c.args.self.now).state (mem_holds_bytes c.args.self.now));
  wrote_bytes = subst WroteBytes (sym c.new.ensures.items) (λ _. no_bytes);
}

pub returns-clause-image : goal.returns-clause-image
unfolding mem_view
returns-clause-image c = fresh_is _ _ _ c.new.ensures.items ((λ i q. c.in_ok-first.ensures q i) ∙ c.in_ok-files.ensures)

pub returns-clause-crash : goal.returns-clause-crash
unfolding mem_view
returns-clause-crash c =
    let m = c.args.self.now in
    fresh_is_image (mem_view m).state _ c.args.choice (returns-clause-image c) (choice_is_image (files_in m.first.entries) m.events.items c.args.choice)
