use Rattle.height_store.specs.Refused.{bad_mark_refused, bad_page_refused}
use Rattle.height_store.proofs.laws.bad_disks_do_not_open.Goals as goal

pub returns-clause-mark : goal.returns-clause-mark
returns-clause-mark c = bad_mark_refused

pub returns-clause-page : goal.returns-clause-page
returns-clause-page c = bad_page_refused
