use Rattle.slot_links.proofs.Paths.{absent-mapped}
use Rattle.slot_links.proofs.links.Links.move_to.Goals as goal

pub push_back-requires-clause-unlinked : goal.push_back-requires-clause-unlinked
push_back-requires-clause-unlinked c = rw c.unlink.ensures (λ k is. absent-mapped c.args.item c.args.self.now.members k is.1)
