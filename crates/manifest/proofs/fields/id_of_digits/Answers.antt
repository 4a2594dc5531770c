use Rattle.std.proofs.Common.{sym}
use Rattle.manifest.proofs.Fielding.{too_long}
use Rattle.manifest.proofs.fields.id_of_digits.Goals as goal

pub returns-then-count-gt-MAX_ID : goal.returns-then-count-gt-MAX_ID
returns-then-count-gt-MAX_ID c = sym (too_long c.args.digits.now c.if-count-gt-MAX_ID.true)
