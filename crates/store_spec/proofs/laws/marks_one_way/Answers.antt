use Rattle.store_spec.proofs.Marks.{mark_once}
use Rattle.store_spec.proofs.laws.marks_one_way.Goals as goal

pub returns : goal.returns
returns c = λ h k text m n s t p q. mark_once h k text m n s t p q
