use Rattle.std.proofs.Common.{◌∙◌, Some, sym, ap}
use Rattle.page_pool.specs.Pool.{count_at}
use Rattle.page_delta.specs.Nodes.{child_in, entry_in, width}
use Rattle.page_delta.proofs.Sharing.{child-recounted, entry-recounted}
use Rattle.page_delta.proofs.Looks.{child-live}
use Rattle.page_delta.proofs.Copies.{IsCopied, entry-live, shared-copy, looks-copy, alike-copy, width-recount}
use Rattle.page_delta.proofs.tree.copy.Goals.{After-put}
use Rattle.page_delta.proofs.tree.copy.Goals as goal

pub share-requires-clause-wide : goal.share-requires-clause-wide
share-requires-clause-wide c =
    ap width c.copied-copy.ensures ∙ width-recount c.index.result.now 1 ∙ c.requires.stands.shared.wide c.args.node c.index.result.now c.index.ensures

pub share-requires-clause-children : goal.share-requires-clause-children
share-requires-clause-children c = λ d child e.
    child-live c.args.nodes.now.slots (count_at c.args.pool.now) c.requires.stands.hands c.requires.stands.loose c.args.node d child c.requires.stands.shared
    (ap (λ o. child_in o d) c.index.ensures ∙ sym (child-recounted (Some c.index.result.now) 1 d) ∙ ap (λ n. child_in (Some n) d) (sym c.copied-copy.ensures) ∙ e)

pub share-requires-clause-entries : goal.share-requires-clause-entries
share-requires-clause-entries c = λ d entry e.
    entry-live c.args.nodes.now.slots c.args.pool.now c.requires.stands.hands c.requires.stands.loose c.args.node d entry c.requires.stands.shared
    (ap (λ o. entry_in o d) c.index.ensures ∙ sym (entry-recounted (Some c.index.result.now) 1 d) ∙ ap (λ n. entry_in (Some n) d) (sym c.copied-copy.ensures) ∙ e)

copied : (c : After-put) → IsCopied c.args.nodes.now.slots c.share.new.nodes.slots c.put.new.nodes.slots (count_at c.args.pool.now) (count_at c.share.new.pool) c.args.node c.put.result c.index.result.now
copied c = record {
  is = c.index.ensures;
  each = rw c.copied-copy.ensures at c.share.ensures.each;
  slots = rw c.copied-copy.ensures at c.share.ensures.counts;
  puts = record { gone = c.put.ensures.fresh; here = rw c.copied-copy.ensures at c.put.ensures.here; rest = c.put.ensures.rest };
}

pub returns-clause-shared : goal.returns-clause-shared
returns-clause-shared c = λ hands loose s.
    shared-copy c.args.nodes.now.slots c.share.new.nodes.slots c.put.new.nodes.slots (count_at c.args.pool.now) (count_at c.share.new.pool) hands loose c.args.node c.put.result c.index.result.now s (copied (goal.at.returns-clause-shared c).After-put)

pub returns-clause-looks : goal.returns-clause-looks
returns-clause-looks c =
    looks-copy c.args.nodes.now.slots c.share.new.nodes.slots c.put.new.nodes.slots (count_at c.args.pool.now) (count_at c.share.new.pool) c.requires.stands.hands c.requires.stands.loose c.args.node c.put.result c.index.result.now c.requires.stands.shared
    (copied (goal.at.returns-clause-looks c).After-put)

pub returns-clause-alike : goal.returns-clause-alike
returns-clause-alike c =
    alike-copy c.args.nodes.now.slots c.share.new.nodes.slots c.put.new.nodes.slots (count_at c.args.pool.now) (count_at c.share.new.pool) c.requires.stands.hands c.requires.stands.loose c.args.node c.put.result c.index.result.now c.requires.stands.shared
    (copied (goal.at.returns-clause-alike c).After-put)
