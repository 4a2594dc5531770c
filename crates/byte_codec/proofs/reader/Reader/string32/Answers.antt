use Rattle.byte_codec.proofs.Strings.{string_there}
use Rattle.byte_codec.proofs.reader.Reader.string32.Goals as goal

pub returns-clause-read : goal.returns-clause-read
returns-clause-read c = rw (← c.self.view_is, c.part_of-string.ensures.value) (string_there c.self.inside.bytes.now c.self.inside.at c.from_be_bytes-n.result c.copy_from_slice.new.self c.from_be_bytes-n.ensures c.copy_from_slice.ensures.after c.if-left-lt4.false c.if-left-n.false)
