use Rattle.std.proofs.Common.{◌++◌}
use Rattle.format_spec.specs.Bytes.{be32}
use Rattle.page_file.proofs.Steps.{behind}
use Rattle.page_file.proofs.range.write_range.Goals as goal

pub returns : goal.returns
returns c =
    let r = c.args.range in
    behind c.args.out.now _ _ (be32 r.first ++ be32 r.length) (be32 r.place) (behind c.args.out.now _ _ (be32 r.first) (be32 r.length) c.in_ok-be32.ensures c.in_ok-be32-2.ensures) c.in_ok-be32-3.ensures
