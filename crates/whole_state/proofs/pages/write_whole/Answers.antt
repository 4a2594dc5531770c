use Rattle.std.proofs.Common.{◌+◌, length, ap, refl, ◌∙◌, arith}
use Rattle.page_spec.specs.PageFile.{index_length}
use Rattle.disk_model.specs.Writing.{write_failed, write_then}
use Rattle.page_file.specs.Files.{UnfinishedFile}
use Rattle.whole_state.proofs.WholeFiles.{room_for, of_file, index_long}
use Rattle.whole_state.proofs.pages.write_whole.Goals as goal

pub add_pages-requires-clause-room : goal.add_pages-requires-clause-room
add_pages-requires-clause-room g c = room_for c.args.memory.now c.args.number c.in_ok-index.index c.in_ok-writer.writer c.requires.memory.whole c.in_ok-index.ensures c.in_ok-writer.ensures.writer

pub returns-in_err-writer-clause-writes : goal.returns-in_err-writer-clause-writes
returns-in_err-writer-clause-writes g c =
    write_failed g.D.Disk c.begin.result _ _ _ 0 _ _ _ c.from_residual-in_err-writer.ensures.1 c.in_err-writer.was (omega arith) c.begin.ensures.writes

pub returns-in_err-add_pages-clause-writes : goal.returns-in_err-add_pages-clause-writes
returns-in_err-add_pages-clause-writes g c =
    let long = index_long c.args.memory.now c.args.number c.in_ok-index.index c.in_ok-writer.writer c.requires.some c.requires.memory.whole c.in_ok-index.ensures c.in_ok-writer.ensures.writer in
    let count = index_length c.in_ok-writer.writer.index + length c.args.memory.now in
    write_failed g.D.Disk c.add_pages.result _ _ _ count _ _ _ c.from_residual-in_err-add_pages.ensures.1 c.in_err-add_pages.was (omega (arith, long))
    (write_then g.D.Disk _ _ _ 0 count count _ _ _ refl (omega arith) c.in_ok-writer.ensures.writes
    (of_file g.D.Disk _ count _ _ _ _ (ap (λ (w : UnfinishedFile). w.number) c.in_ok-writer.ensures.writer) c.add_pages.ensures.writes))

pub returns-clause-writes : goal.returns-clause-writes
returns-clause-writes g c =
    let long = index_long c.args.memory.now c.args.number c.in_ok-index.index c.in_ok-writer.writer c.requires.some c.requires.memory.whole c.in_ok-index.ensures c.in_ok-writer.ensures.writer in
    let number = ap (λ (w : UnfinishedFile). w.number) c.in_ok-writer.ensures.writer in
    let count = index_length c.in_ok-writer.writer.index + length c.args.memory.now in
    write_then g.D.Disk _ _ _ count 0 _ _ _ _ refl (omega (arith, long))
    (write_then g.D.Disk _ _ _ 0 count count _ _ _ refl (omega arith) c.in_ok-writer.ensures.writes (of_file g.D.Disk _ count _ _ _ _ number c.in_ok-add_pages.ensures.writes))
    (of_file g.D.Disk _ 0 _ _ _ _ (ap (λ (w : UnfinishedFile). w.number) c.in_ok-add_pages.ensures.writer ∙ number) c.finish.ensures.writes)
