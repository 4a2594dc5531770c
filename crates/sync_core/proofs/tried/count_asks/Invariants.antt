use Rattle.std.proofs.Common.{◌≡◌, ◌<◌, ℕ, take, get_or}
use Rattle.format_spec.specs.declared.limits.TheConstants.{MAX_PEERS}
use Rattle.sync_spec.specs.Core.{asks_of}
use Rattle.sync_core.specs.Views.{all_wanted}
use Rattle.sync_core.proofs.tried.count_asks.Given as goal

abbrev pub invariant-loop-wanted : goal.invariant-loop-wanted
invariant-loop-wanted l = (peer d : ℕ) → peer < MAX_PEERS → get_or l.asks peer d ≡ asks_of (all_wanted (take l.wanted-index l.missing)) peer
