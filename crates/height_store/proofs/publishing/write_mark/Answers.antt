use Rattle.std.proofs.Common.{Ok, length, refl, arith}
use Rattle.disk_model.specs.declared.name.Name.TheVariants.{Mark, Draft}
use Rattle.disk_model.specs.Call.{create, append, rename}
use Rattle.disk_model.specs.Writing.{one_write, write_failed, write_then}
use Rattle.height_store.specs.Written.{is_of}
use Rattle.height_store.proofs.Marking.{is_draft, only_before, touches_create, touches_append, touches_seal, draft_within, draft_sealed, sealed, renamed_images, written}
use Rattle.height_store.proofs.publishing.write_mark.Goals as goal

pub returns-in_err-create-clause-images : goal.returns-in_err-create-clause-images
returns-in_err-create-clause-images g c = λ told settled.
    let first = touches_create c.args.height (is_draft c.args.height) (λ q apart. apart) c.create.result (g.D.Disk.view c.args.disk.now) (g.D.Disk.view c.create.new.self) (g.met.D.Disk.reads_as_image c.args.disk.now told) (c.create.ensures.does told) in
    only_before c.args.height c.args.text.now _ _ settled first

pub returns-in_err-append-clause-images : goal.returns-in_err-append-clause-images
returns-in_err-append-clause-images g c = λ told settled.
    let first = touches_create c.args.height (is_draft c.args.height) (λ q apart. apart) c.create.result (g.D.Disk.view c.args.disk.now) (g.D.Disk.view c.create.new.self) (g.met.D.Disk.reads_as_image c.args.disk.now told) (c.create.ensures.does told) in
    let second = touches_append c.args.height (is_draft c.args.height) (λ q apart. apart) c.append.result c.args.text.now _ _ (g.D.Disk.view c.append.new.self) first (g.met.D.Disk.reads_as_image c.create.new.self told) (c.append.ensures.does told) in
    only_before c.args.height c.args.text.now _ _ settled second

pub returns-in_err-seal-clause-images : goal.returns-in_err-seal-clause-images
returns-in_err-seal-clause-images g c = λ told settled.
    let first = touches_create c.args.height (is_draft c.args.height) (λ q apart. apart) c.create.result (g.D.Disk.view c.args.disk.now) (g.D.Disk.view c.create.new.self) (g.met.D.Disk.reads_as_image c.args.disk.now told) (c.create.ensures.does told) in
    let second = touches_append c.args.height (is_draft c.args.height) (λ q apart. apart) c.append.result c.args.text.now _ _ (g.D.Disk.view c.append.new.self) first (g.met.D.Disk.reads_as_image c.create.new.self told) (c.append.ensures.does told) in
    let third = touches_seal c.args.height (is_draft c.args.height) (λ q apart. apart) c.seal.result _ _ (g.D.Disk.view c.seal.new.self) second (g.met.D.Disk.reads_as_image c.append.new.self told) (c.seal.ensures.does told) in
    only_before c.args.height c.args.text.now _ _ settled third

pub returns-clause-written : goal.returns-clause-written
returns-clause-written g c = λ told.
    let ready = sealed c.args.height c.args.text.now _ _ _ _ (c.in_ok-create.ensures.does told) (c.in_ok-append.ensures.does told) (c.in_ok-seal.ensures.does told) in
    written c.rename.result c.args.height c.args.text.now _ _ _ ready (c.rename.ensures.does told)

pub returns-clause-images : goal.returns-clause-images
returns-clause-images g c = λ told settled.
    let first = touches_create c.args.height (is_draft c.args.height) (λ q apart. apart) c.create.result (g.D.Disk.view c.args.disk.now) (g.D.Disk.view c.create.new.self) (g.met.D.Disk.reads_as_image c.args.disk.now told) (c.create.ensures.does told) in
    let second = touches_append c.args.height (is_draft c.args.height) (λ q apart. apart) c.append.result c.args.text.now _ _ (g.D.Disk.view c.append.new.self) first (g.met.D.Disk.reads_as_image c.create.new.self told) (c.append.ensures.does told) in
    let third = touches_seal c.args.height (is_draft c.args.height) (λ q apart. apart) c.seal.result _ _ (g.D.Disk.view c.seal.new.self) second (g.met.D.Disk.reads_as_image c.append.new.self told) (c.seal.ensures.does told) in
    let ready = sealed c.args.height c.args.text.now _ _ _ _ (c.in_ok-create.ensures.does told) (c.in_ok-append.ensures.does told) (c.in_ok-seal.ensures.does told) in
    renamed_images c.rename.result c.args.height c.args.text.now _ _ _ (g.met.D.Disk.reads_as_image c.seal.new.self told) ready third (c.rename.ensures.does told) settled

pub returns-in_err-create-clause-writes : goal.returns-in_err-create-clause-writes
returns-in_err-create-clause-writes g c =
    write_failed g.D.Disk c.create.result _ _ _ 0 _ _ _ c.from_residual.ensures.1 c.in_err-create.was (omega arith)
    (one_write g.D.Disk (create (Draft c.args.height)) _ (is_of c.args.height) _ _ (draft_within c.args.height) (g.met.D.Disk.reads_as_image c.args.disk.now) c.create.ensures.does c.create.ensures.cause)

pub returns-in_err-append-clause-writes : goal.returns-in_err-append-clause-writes
returns-in_err-append-clause-writes g c =
    let within = draft_within c.args.height in
    write_failed g.D.Disk c.append.result _ _ _ (length c.args.text.now) _ _ _ c.from_residual-in_err-append.ensures.1 c.in_err-append.was (omega arith)
    (write_then g.D.Disk (Ok tt) _ _ 0 (length c.args.text.now) _ _ _ _ refl (omega arith)
    (one_write g.D.Disk (create (Draft c.args.height)) (Ok tt) (is_of c.args.height) _ _ within (g.met.D.Disk.reads_as_image c.args.disk.now) c.in_ok-create.ensures.does c.in_ok-create.ensures.cause)
    (one_write g.D.Disk (append (Draft c.args.height) c.args.text.now) _ (is_of c.args.height) _ _ within (g.met.D.Disk.reads_as_image c.create.new.self) c.append.ensures.does c.append.ensures.cause))

pub returns-in_err-seal-clause-writes : goal.returns-in_err-seal-clause-writes
returns-in_err-seal-clause-writes g c =
    write_failed g.D.Disk c.seal.result _ _ _ (length c.args.text.now) _ _ _ c.from_residual-in_err-seal.ensures.1 c.in_err-seal.was (omega arith)
    (draft_sealed g.D.Disk c.args.height c.args.text.now _ _ _ _ _ (g.met.D.Disk.reads_as_image) c.in_ok-create.ensures.does c.in_ok-create.ensures.cause c.in_ok-append.ensures.does c.in_ok-append.ensures.cause c.seal.ensures.does c.seal.ensures.cause)

pub returns-clause-writes : goal.returns-clause-writes
returns-clause-writes g c =
    write_then g.D.Disk (Ok tt) _ _ (length c.args.text.now) 0 _ _ _ _ refl (omega arith)
    (draft_sealed g.D.Disk c.args.height c.args.text.now (Ok tt) _ _ _ _ (g.met.D.Disk.reads_as_image) c.in_ok-create.ensures.does c.in_ok-create.ensures.cause c.in_ok-append.ensures.does c.in_ok-append.ensures.cause c.in_ok-seal.ensures.does c.in_ok-seal.ensures.cause)
    (one_write g.D.Disk (rename (Draft c.args.height) (Mark c.args.height)) _ (is_of c.args.height) _ _ (λ q apart. apart) (g.met.D.Disk.reads_as_image c.seal.new.self) c.rename.ensures.does c.rename.ensures.cause)
