use Rattle.height_store.specs.Laws.{kept_stands, settled_keeps}
use Rattle.height_store.proofs.laws.kept_heights_stand.Goals as goal

pub returns-clause-stands : goal.returns-clause-stands
returns-clause-stands c = kept_stands

pub returns-clause-settled : goal.returns-clause-settled
returns-clause-settled c = settled_keeps
