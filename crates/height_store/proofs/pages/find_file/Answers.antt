use Rattle.std.proofs.Common.{rules}
use Rattle.std.proofs.lemmas.Fn.{always_returns_same}
use Rattle.height_store.proofs.FilesFound.{one_found, none_found}
use Rattle.height_store.proofs.pages.find_file.Goals as goal

pub returns-in-Ok : goal.returns-in-Ok
returns-in-Ok c =
    one_found c.args.files.now c.args.number c.in-Ok.i c.index-files-i.result c.requires c.in-Ok.ensures.bound
    (c.in-Ok.ensures.position (λ file. file.number) (always_returns_same _ _ _ (λ a r f' called. search rules))) c.index-files-i.is

pub returns-in-Err : goal.returns-in-Err
returns-in-Err c =
    none_found c.args.files.now c.args.number c.in-Err.field-0 c.requires c.in-Err.ensures.bound
    (c.in-Err.ensures.position (λ file. file.number) (always_returns_same _ _ _ (λ a r f' called. search rules)))
