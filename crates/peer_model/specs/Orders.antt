-- Peers in memory, which fail the calls that they are told to.
use Rattle.std.specs.Prelude.{◌≡◌, ℕ, Bool, true, false, List, Result, Ok, Err}
use Rattle.io_edge.specs.Memory.{IsListed, next_count}
use Rattle.peer_model.specs.declared.peers.PeerError.{PeerError}
use Rattle.peer_model.specs.declared.peers.PeerError.TheVariants.{Fault, Memory}
use Rattle.peer_model.specs.Calls.{PeersView}

-- how many peers there are, what they tell, the numbers of the calls that are to fail, the number of the next call, and the faults so far
pub record MemView : Type 0 where
  pub peers : ℕ
  pub told : PeersView
  pub fails : List ℕ
  pub calls : ℕ
  pub faults : ℕ

abbrev pub count_if : Bool → ℕ → ℕ
count_if true n = next_count n
count_if false n = n

-- a call was counted, and whether it failed
pub record IsNoted (fails : Bool) (old new : MemView) : Type 0 where
  pub calls : new.calls ≡ next_count old.calls
  pub faults : new.faults ≡ count_if fails old.faults
  pub same : new.fails ≡ old.fails

-- a call fails exactly where its number is listed; one that wanted memory has no number
abbrev pub FollowsOrders : {X : Type 0} → Result X PeerError → MemView → MemView → Type 0
FollowsOrders (Ok x) old new = (IsListed old.fails old.calls → ⊥) × IsNoted false old new
FollowsOrders (Err Fault) old new = IsListed old.fails old.calls × IsNoted true old new
FollowsOrders (Err Memory) old new = new ≡ old
