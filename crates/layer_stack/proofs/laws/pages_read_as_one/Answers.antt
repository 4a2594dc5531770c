use Rattle.layer_stack.specs.Laws.{read_once, pages_read_once}
use Rattle.layer_stack.proofs.laws.pages_read_as_one.Goals as goal

pub returns-clause-page : goal.returns-clause-page
returns-clause-page c = read_once

pub returns-clause-pages : goal.returns-clause-pages
returns-clause-pages c = pages_read_once
