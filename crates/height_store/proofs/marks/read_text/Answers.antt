use Rattle.std.proofs.Common.{◌≡◌, ◌+◌, ℕ, arith, ◌∙◌, sym, subst, length, drop}
use Rattle.disk_model.specs.OnlyReads.{OnlyReads, reads_only_call, reads_only_then}
use Rattle.height_store.proofs.MarksRead.{filled_length, sized, longer_than_marks, absent_mark}
use Rattle.height_store.proofs.marks.read_text.Goals as goal
use Rattle.height_store.proofs.marks.read_text.Goals.{in_default-via-in-Some+else-size, in_default-via-in_default}

pub returns-in_err-read-in-Some-clause-reads : goal.returns-in_err-read-in-Some-clause-reads
returns-in_err-read-in-Some-clause-reads g c = λ told.
    let n = length c.deref_mut.result.now in
    let same = sized _ c.in-Some.size (sym c.in-Some.is ∙ c.in_ok-size.ensures.size told) c.if-size.true in
    subst (λ (most : ℕ). OnlyReads most (g.D.Disk.view c.args.disk.now) (g.D.Disk.view c.read.new.self)) (omega (arith, same, c.deref_mut.ensures.len, c.in_ok-text-in-Some.ensures.len))
    (reads_only_then 0 n _ _ _ (reads_only_call 0 _ _ _ (c.size.ensures.reads_only told)) (reads_only_call n _ _ _ (c.read.ensures.reads_only told)))

pub returns-in_ok-read-in-Some-clause-reads_only : goal.returns-in_ok-read-in-Some-clause-reads_only
returns-in_ok-read-in-Some-clause-reads_only g c = λ told.
    let n = length c.deref_mut.result.now in
    let e : 0 + n ≡ n = omega arith in
    subst (λ most. OnlyReads most (g.D.Disk.view c.args.disk.now) (g.D.Disk.view c.read.new.self))
    (e ∙ c.deref_mut.ensures.len ∙ sym (filled_length c.in_ok-text-in-Some.text.len c.read.new.into (drop (length c.read.new.into) c.in_ok-text-in-Some.text.items) (c.read.auto.into ∙ c.deref_mut.ensures.len)))
    (reads_only_then 0 n _ _ _ (reads_only_call 0 _ _ _ (c.size.ensures.reads_only told)) (reads_only_call n _ _ _ (c.read.ensures.reads_only told)))

pub returns-in_ok-read-in-Some-clause-reads : goal.returns-in_ok-read-in-Some-clause-reads
returns-in_ok-read-in-Some-clause-reads g c = λ told.
    let n = length c.deref_mut.result.now in
    let same = sized _ c.in-Some.size (sym c.in-Some.is ∙ c.in_ok-size.ensures.size told) c.if-size.true in
    subst (λ (most : ℕ). OnlyReads most (g.D.Disk.view c.args.disk.now) (g.D.Disk.view c.read.new.self)) (omega (arith, same, c.deref_mut.ensures.len, c.in_ok-text-in-Some.ensures.len))
    (reads_only_then 0 n _ _ _ (reads_only_call 0 _ _ _ (c.size.ensures.reads_only told)) (reads_only_call n _ _ _ (c.read.ensures.reads_only told)))

pub returns-in_default-clause-none : goal.returns-in_default-clause-none
returns-in_default-clause-none g c = λ told.
    elim c.in_default.branch [
      | in_default-via-in-Some+else-size w ↦ longer_than_marks _ c.args.height w.in-Some.size (sym w.in-Some.is ∙ c.in_ok-size.ensures.size told) w.if-size.false
      | in_default-via-in_default w ↦ absent_mark _ c.args.height (sym w.in_default.is ∙ c.in_ok-size.ensures.size told)
    ]
