use Rattle.std.proofs.Common.{◌∙◌, ◌-◌, length, sym}
use Rattle.mark_file.proofs.Wholes.{too_short, rest_at, hash_agrees, hash_differs}
use Rattle.mark_file.proofs.fields.hashed_body.Goals as goal

pub returns-then-text-lt-HASH_SIZE : goal.returns-then-text-lt-HASH_SIZE
returns-then-text-lt-HASH_SIZE c = too_short c.args.text.now c.if-text-lt-HASH_SIZE.true

pub returns-then-is_same : goal.returns-then-is_same
returns-then-is_same c =
    hash_agrees c.args.text.now c.bytes.result.now _ (c.bytes.ensures.value ∙ c.plain_hash.ensures) (rest_at c.args.text.now (length c.args.text.now - 32)) (sym c.is_same.ensures ∙ c.if-is_same.true)

pub returns-else-is_same : goal.returns-else-is_same
returns-else-is_same c =
    hash_differs c.args.text.now c.bytes.result.now _ (c.bytes.ensures.value ∙ c.plain_hash.ensures) (rest_at c.args.text.now (length c.args.text.now - 32)) (sym c.is_same.ensures ∙ c.if-is_same.false)
