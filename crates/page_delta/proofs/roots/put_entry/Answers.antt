use Rattle.std.proofs.Common.{ℕ, None, refl, arith}
use Rattle.page_delta.specs.Totals.{total}
use Rattle.page_delta.specs.Roots.{roots}
use Rattle.page_delta.proofs.Pools.{recounts-release, keeps-trans}
use Rattle.page_delta.proofs.RootPuts.{kept-same, puts-same, more_fits, kept-more, puts-more, used-live, held-released, held-unused}
use Rattle.page_delta.proofs.roots.put_entry.Goals as goal

pub release-requires : goal.release-requires
release-requires c = used-live c.put_own.new.nodes.slots c.put_own.new.pool (λ key. total (roots key) c.put_own.new.ids.slots) c.in-Some.before c.in-Some.ensures.puts.shared

pub overflow_add-index_mut : goal.overflow_add-index_mut
overflow_add-index_mut c =
    let fits = more_fits c.in-None.ensures.puts c.requires.page c.index_mut.result.now c.index_mut.ensures.value refl in omega arith

pub returns-in-Some-clause-kept : goal.returns-in-Some-clause-kept
returns-in-Some-clause-kept c = kept-same c.in-Some.ensures.puts c.requires.page

pub returns-in-Some-clause-put : goal.returns-in-Some-clause-put
returns-in-Some-clause-put c = puts-same c.in-Some.ensures.puts c.requires.page

pub returns-in-Some-clause-held : goal.returns-in-Some-clause-held
returns-in-Some-clause-held c =
    let nodes = c.put_own.new.nodes.slots in
    let hands : ℕ → ℕ = λ key. total (roots key) c.put_own.new.ids.slots in
    let live = used-live nodes c.put_own.new.pool hands c.in-Some.before c.in-Some.ensures.puts.shared in
    held-released nodes c.put_own.new.pool c.release.new.self hands c.in-Some.before c.in-Some.ensures.puts.shared
    (recounts-release c.put_own.new.pool c.release.new.self c.in-Some.before.slot live c.in-Some.ensures.counted c.release.ensures.last c.release.ensures.shared)

pub returns-in-Some-clause-keeps : goal.returns-in-Some-clause-keeps
returns-in-Some-clause-keeps c =
    let live = used-live c.put_own.new.nodes.slots c.put_own.new.pool (λ key. total (roots key) c.put_own.new.ids.slots) c.in-Some.before c.in-Some.ensures.puts.shared in
    let released = recounts-release c.put_own.new.pool c.release.new.self c.in-Some.before.slot live c.in-Some.ensures.counted c.release.ensures.last c.release.ensures.shared in
    keeps-trans c.args.pool.now c.put_own.new.pool c.release.new.self c.in-Some.ensures.keeps released.keeps

pub returns-in-None-clause-kept : goal.returns-in-None-clause-kept
returns-in-None-clause-kept c = kept-more c.in-None.ensures.puts c.requires.page c.index_mut.result.now c.index_mut.ensures.value refl

pub returns-in-None-clause-put : goal.returns-in-None-clause-put
returns-in-None-clause-put c = puts-more c.in-None.ensures.puts c.requires.page c.index_mut.result.now c.index_mut.ensures.value refl

pub returns-in-None-clause-held : goal.returns-in-None-clause-held
returns-in-None-clause-held c = held-unused c.put_own.new.nodes.slots c.put_own.new.pool (λ key. total (roots key) c.put_own.new.ids.slots) None refl c.in-None.ensures.puts.shared c.in-None.ensures.counted
