use Rattle.std.proofs.Common.{sym, ap, ◌∙◌}
use Rattle.hash_tree.proofs.Hashing.{first_hash, first_is}
use Rattle.hash_tree.proofs.hashes.TreeHashes.hash.Goals as goal

pub returns-in-Alone : goal.returns-in-Alone
returns-in-Alone c = λ t h. sym (ap first_hash c.in-Alone.is) ∙ first_is c.args.self.now t h

pub returns-in-Fork : goal.returns-in-Fork
returns-in-Fork c = λ t h. sym (ap first_hash c.in-Fork.is) ∙ first_is c.args.self.now t h

pub returns-in-Labeled : goal.returns-in-Labeled
returns-in-Labeled c = λ t h. sym (ap first_hash c.in-Labeled.is) ∙ first_is c.args.self.now t h
