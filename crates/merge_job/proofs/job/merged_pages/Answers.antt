use Rattle.std.proofs.Common.{ℕ, ◌≤◌, subst, arith}
use Rattle.merge_job.proofs.Chosen.{chosen_all, chosen_more, chosen_later, index_of_stack, ends_dropped, ok_is, ok_any}
use Rattle.merge_job.proofs.job.merged_pages.Goals.{else-from-eq0-via-then-from-eq0+else-memory-len, else-from-eq0-via-else-from-eq0}
use Rattle.merge_job.proofs.job.merged_pages.Goals as goal

pub returns-then-memory-len-clause-pages : goal.returns-then-memory-len-clause-pages
returns-then-memory-len-clause-pages c =
    ok_is c.all_pages.result (chosen_all c.args.memory c.args.from c.args.stack.now c.in_ok-pages.pages.items (c.in_ok-pages.ensures c.args.memory (ends_dropped c.args.memory c.args.from c.args.stack.now c.requires.fits))
    c.if-from-eq0.true (omega (arith, c.if-memory-len.true, c.len.ensures))) c.all_pages.ensures

pub returns-then-memory-len-clause-index : goal.returns-then-memory-len-clause-index
returns-then-memory-len-clause-index c =
    ok_any c.all_pages.result (index_of_stack c.args.memory c.args.from c.args.from c.args.stack.now c.requires.from (subst (λ (n : ℕ). 1 ≤ n) c.size-some.ensures.size c.size-some.ensures.some) c.requires.fits c.requires.memory)

pub returns-else-from-eq0-clause-pages : goal.returns-else-from-eq0-clause-pages
returns-else-from-eq0-clause-pages c = elim c.else-from-eq0.branch [
  | else-from-eq0-via-then-from-eq0+else-memory-len w ↦
      chosen_more c.args.memory c.args.from c.args.stack.now c.in_ok-pages.pages.items (c.in_ok-pages.ensures c.args.memory (ends_dropped c.args.memory c.args.from c.args.stack.now c.requires.fits))
      (omega (arith, w.if-memory-len.false, w.len.ensures))
  | else-from-eq0-via-else-from-eq0 w ↦ chosen_later c.args.memory c.args.from c.args.stack.now c.in_ok-pages.pages.items (c.in_ok-pages.ensures c.args.memory (ends_dropped c.args.memory c.args.from c.args.stack.now c.requires.fits)) w.if-from-eq0.false
]

pub returns-else-from-eq0-clause-index : goal.returns-else-from-eq0-clause-index
returns-else-from-eq0-clause-index c = index_of_stack c.args.memory c.args.from c.args.from c.args.stack.now c.requires.from (subst (λ (n : ℕ). 1 ≤ n) c.size-some.ensures.size c.size-some.ensures.some) c.requires.fits c.requires.memory
