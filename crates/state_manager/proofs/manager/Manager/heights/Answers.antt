use Rattle.std.proofs.Common.{◌≡◌, map, ap, ◌∙◌, subst, refl}
use Rattle.script_text.specs.declared.reply.Reply.TheVariants as replies
use Rattle.store_spec.specs.Image.{heights_of}
use Rattle.height_store.specs.Known.{KnowsHeight}
use Rattle.machine_spec.specs.Machine.{Machine}
use Rattle.state_manager.proofs.Standing.{knows_same, same_heights, same_heights_in}
use Rattle.state_manager.specs.Kept.{ManagerView, KeepsStates}
use Rattle.state_manager.proofs.manager.Manager.heights.Goals as goal

pub returns : goal.returns
returns c =
    subst (λ (h : ManagerView). (m : Machine) → KeepsStates h m → (replies.Heights c.height.result c.in_ok-heights_of.field-0 c.new.result ≡ replies.Heights m.height (map (λ k. k.0) m.memory) (heights_of m.published)) × KeepsStates h m × (m.published ≡ m.published)) c.self.view_is
    (λ m k. (cc (c.height.ensures.value ∙ k.live.height, c.in_ok-heights_of.ensures ∙ ap (map (λ a. a.height)) c.deref.ensures.value ∙ same_heights _ m.memory k.memory, c.new.ensures ∙ c.in_ok-heights.ensures ∙ same_heights_in KnowsHeight knows_same _ m.published k.published), k, refl))
