use Rattle.std.proofs.Common.{◌*◌, ◌∙◌, Some, sym, ap}
use Rattle.format_spec.specs.Bytes.{Bytes}
use Rattle.sync_spec.proofs.PartAt.{part_there, part_past}
use Rattle.sync_serve.proofs.ChunkPlaces.{cut_least}
use Rattle.sync_serve.proofs.items.part_at.Goals as goal

pub returns-then-begin-bytes : goal.returns-then-begin-bytes
returns-then-begin-bytes c = sym (part_past c.args.size c.args.bytes.now c.args.index c.requires c.if-begin-bytes.true)

pub returns : goal.returns
returns c =
    ap (λ (bytes : Bytes). Some bytes) (cut_least (c.args.index * c.args.size) c.args.size c.min-end.result c.args.bytes.now c.min-end.ensures)
    ∙ sym (part_there c.args.size c.args.bytes.now c.args.index c.requires c.if-begin-bytes.false)
