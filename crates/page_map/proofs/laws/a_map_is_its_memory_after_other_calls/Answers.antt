use Rattle.page_map.proofs.Memories.{other_memory, refused_memory}
use Rattle.page_map.proofs.laws.a_map_is_its_memory_after_other_calls.Goals as goal

pub returns-clause-others : goal.returns-clause-others
returns-clause-others c = λ files old new m b memory is id. other_memory files old new m m b memory is id

pub returns-clause-refused : goal.returns-clause-refused
returns-clause-refused c = λ files old new m b memory is. refused_memory files old new m m b memory is
