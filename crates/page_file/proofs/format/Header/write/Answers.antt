use Rattle.page_file.proofs.Texts.{header_written}
use Rattle.page_file.proofs.format.Header.write.Goals as goal

pub returns : goal.returns
returns c = header_written c.args.out.now c.bytes.new.self c.be32.new.self c.be32-2.new.self c.be32-3.new.self c.be32-4.new.self c.be32-5.new.self c.be64.new.self
    c.kind.result c.args.self.now.memory c.args.self.now.ranges c.args.self.now.pages c.file_length.result
    c.in_ok-bytes.ensures c.in_ok-be32.ensures c.in_ok-be32-2.ensures c.in_ok-be32-3.ensures c.in_ok-be32-4.ensures c.in_ok-be32-5.ensures c.in_ok-be64.ensures c.kind.ensures c.file_length.ensures
