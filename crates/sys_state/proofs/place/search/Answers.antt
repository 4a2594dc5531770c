use Rattle.std.proofs.Common.{rules}
use Rattle.std.proofs.lemmas.Fn.{always_returns_same}
use Rattle.sys_state.proofs.place.search.Goals as goal

pub returns-clause-position : goal.returns-clause-position
returns-clause-position g c = c.binary_search_by.ensures.position (λ entry. g.K.Ord.cmp entry.0 c.args.key.now) (always_returns_same _ _ _ (λ a r f' called. search rules))
