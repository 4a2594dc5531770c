-- Cores of the worked examples, and the asks that they send.
use Rattle.std.specs.Prelude.{ℕ, zero, suc, List, [], ◌∷◌}
use Rattle.std.specs.Option.{option_map_or}
use Rattle.sync_spec.specs.Messages.{Item}
use Rattle.sync_spec.specs.Core.{Core, core_at_start, with_items, chunks_without, core_after_turn, next_ask, core_after_send}

-- the asks that are due one after another, where each goes out, up to so many
abbrev pub asks_due : ℕ → Core → List (ℕ × Item)
asks_due zero c = []
asks_due (suc n) c = option_map_or (λ a. a ∷ asks_due n (core_after_send c a.0 a.1)) (next_ask c) []

abbrev pub core_after_sends : ℕ → Core → Core
core_after_sends zero c = c
core_after_sends (suc n) c = option_map_or (λ a. core_after_sends n (core_after_send c a.0 a.1)) (next_ask c) c

abbrev pub core_after_turns : ℕ → Core → Core
core_after_turns zero c = c
core_after_turns (suc n) c = core_after_turns n (core_after_turn c)

-- six chunks are missing, and so many peers are asked for them in the first turn
abbrev pub six_asked : ℕ → Core
six_asked peers = core_after_sends 64 (core_after_turn (with_items (core_at_start peers) (chunks_without 6 [])))
