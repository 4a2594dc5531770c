use Rattle.page_map.proofs.Memories.{read_memory, written_memory, grown_memory, rebased_memory, restacked_memory, forked_memory}
use Rattle.page_map.proofs.laws.a_map_is_its_memory_after_its_calls.Goals as goal

pub returns-clause-read : goal.returns-clause-read
returns-clause-read c = read_memory

pub returns-clause-written : goal.returns-clause-written
returns-clause-written c = written_memory

pub returns-clause-grown : goal.returns-clause-grown
returns-clause-grown c = grown_memory

pub returns-clause-rebased : goal.returns-clause-rebased
returns-clause-rebased c = rebased_memory

pub returns-clause-restacked : goal.returns-clause-restacked
returns-clause-restacked c = restacked_memory

pub returns-clause-forked : goal.returns-clause-forked
returns-clause-forked c = λ files old new m n b memory is. forked_memory files old new m n b memory is
