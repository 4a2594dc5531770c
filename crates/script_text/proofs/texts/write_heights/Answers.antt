use Rattle.std.proofs.Common.{codes}
use Rattle.std.specs.Fmt.{decimal}
use Rattle.script_text.specs.Texts.{numbers_text}
use Rattle.script_text.proofs.Joined.{in_three}
use Rattle.script_text.proofs.texts.write_heights.Goals as goal

pub returns : goal.returns
returns c = in_three c.args.out.now.items (codes "heights live ") (decimal c.args.live) (codes " memory ") (numbers_text c.args.memory.now) (codes " published ")
    (numbers_text c.args.published.now) c.write_count.new.out.items c.write_list.new.out.items c.write_list-2.new.out.items c.in_ok-write_count.ensures c.in_ok-write_list.ensures c.in_ok-write_list-2.ensures
