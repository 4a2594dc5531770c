use Rattle.std.proofs.Common.{◌≡◌, ◌==◌, ◌∙◌, ap, sym, eq-eqb, ne_eqb}
use Rattle.state_spec.specs.Manifest.{ChunkRow}
use Rattle.manifest.proofs.Fronts.{front_more, front_ends, front_all}
use Rattle.manifest.proofs.hashes.rows_of.Goals as goal

pub rows-preserved : goal.rows-preserved
rows-preserved c =
    let row = c.index-rows-i.result in
    let file : row.file ≡ c.args.file = sym (ap (λ (r : ChunkRow). r.file) c.row.view_is) ∙ c.if-row-file.false in
    front_more (λ (r : ChunkRow). r.file == c.args.file) c.args.rows.now c.rows.i row c.rows-test.true c.index-rows-i.is (eq-eqb row.file c.args.file file) c.rows.invariant

pub returns-then-row-file : goal.returns-then-row-file
returns-then-row-file c =
    let row = c.index-rows-i.result in
    let file : c.row.inside.file ≡ row.file = ap (λ (r : ChunkRow). r.file) c.row.view_is in
    front_ends (λ (r : ChunkRow). r.file == c.args.file) c.args.rows.now c.rows.i row c.rows-test.true c.index-rows-i.is
    (ne_eqb row.file c.args.file (λ e. c.if-row-file.true (file ∙ e))) c.rows.invariant

pub returns : goal.returns
returns c = front_all (λ (r : ChunkRow). r.file == c.args.file) c.args.rows.now c.rows.i c.rows.auto.i-end c.rows-test.false c.rows.invariant
