-- The records of calls of peers in memory as those of the definitions.
use Rattle.sync_spec.specs.Events.{Asked, Given, came, nothing, failed}
use Rattle.peer_model.specs.declared.calls.SentAsk.{SentAsk}
use Rattle.peer_model.specs.declared.calls.Look.{Look}
use Rattle.peer_model.specs.declared.calls.Look.TheVariants.{Came, Nothing, Failed}

abbrev pub asked_of : SentAsk → Asked
asked_of s = record { peer = s.peer; ask = s.ask; went_out = s.went_out }

abbrev pub given_of : Look → Given
given_of (Came peer message) = came peer message
given_of Nothing = nothing
given_of Failed = failed
