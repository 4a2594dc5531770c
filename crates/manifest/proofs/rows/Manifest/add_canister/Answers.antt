use Rattle.std.proofs.lemmas.Result.{on_ok_weaker}
use Rattle.manifest.proofs.Memories.{added_canister}
use Rattle.manifest.proofs.rows.Manifest.add_canister.Goals as goal

pub returns : goal.returns
returns c =
    on_ok_weaker c.add_file-2.result (λ adds version fs is.
    added_canister version c.args.self.now c.add_file.new.self c.add_file-2.new.self fs c.args.id.now c.args.canister.now c.args.heap.now c.args.stable.now
    c.in_ok-name.name c.in_ok-name-2.name c.size_of_pages.result c.size_of_pages-2.result
    c.in_ok-name.ensures.value c.in_ok-name-2.ensures.value c.size_of_pages.ensures.value c.size_of_pages-2.ensures.value c.in_ok-add_file.ensures adds is) c.add_file-2.ensures
