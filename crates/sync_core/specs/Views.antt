-- The values of this crate as those of the definitions.
use Rattle.std.specs.Prelude.{◌<◌, ◌≤◌, ◌*◌, ◌^◌, ◌++◌, ℕ, List, length, map, option_map}
use Rattle.format_spec.specs.declared.limits.TheConstants.{MAX_PEERS, MAX_ASKS}
use Rattle.sync_spec.specs.Messages as spec
use Rattle.sync_spec.specs.Core as spec_core
use Rattle.sync_spec.specs.CoreLaws.{IsCore}
use Rattle.sync_plan.specs.Views.{item_of}
use Rattle.sync_plan.specs.declared.item.Item.{Item}
use Rattle.sync_core.specs.declared.tried.Wanted.{Wanted}
use Rattle.sync_core.specs.declared.fresh.Fresh.{Fresh}
use Rattle.sync_core.specs.declared.state.Heard.{Heard}
use Rattle.sync_core.specs.declared.state.Heard.TheVariants as heard
use Rattle.sync_core.specs.Fresh.{items_of}

abbrev pub wanted_of : Wanted → spec_core.Wanted
wanted_of w = record { item = item_of w.item; ask = option_map (λ a. record { peer = a.peer; turn = a.turn }) w.ask }

abbrev pub all_wanted : List Wanted → List spec_core.Wanted
all_wanted ws = map wanted_of ws

-- those never asked for are behind those that were
abbrev pub missing_of : List spec_core.Wanted → List spec.Item → List spec_core.Wanted
missing_of tried fresh = tried ++ map spec_core.unasked_item fresh

abbrev pub core_of : List Wanted → Fresh → List ℕ → ℕ → spec_core.Core
core_of tried fresh strikes turn = record { missing = missing_of (all_wanted tried) (items_of fresh); strikes = strikes; turn = turn }

-- what always holds: there is room for as many items as can be in flight
pub record HoldsCore (core : spec_core.Core) (room : ℕ) : Type 0 where
  pub good : IsCore core
  pub few : length core.missing < 2 ^ 32
  pub enough : MAX_PEERS * MAX_ASKS ≤ room

abbrev pub verdict_of : Heard → spec_core.Heard
verdict_of heard.Took = spec_core.took
verdict_of heard.Wrong = spec_core.wrong
verdict_of heard.Late = spec_core.late

-- a peer and the item that it is asked for
abbrev pub due_of : ℕ × Item → ℕ × spec.Item
due_of due = (due.0, item_of due.1)
