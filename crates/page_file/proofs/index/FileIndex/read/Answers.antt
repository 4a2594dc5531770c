use Rattle.std.proofs.Common.{◌∙◌, refl}
use Rattle.page_file.proofs.Spelled.{is_read, has_read, no_index}
use Rattle.page_file.proofs.index.FileIndex.read.Goals as goal

pub returns-then-ne : goal.returns-then-ne
returns-then-ne c = λ i has.
    no_index c.args.header.memory c.args.header.ranges c.args.header.pages c.args.bytes.now c.deref.result.now c.pages_in.result i has c.requires.size
    (c.deref.ensures.value ∙ c.in_ok-ranges.ensures.value) c.pages_in.ensures c.if-ne.ensures

pub invariant_of-result : goal.invariant_of-result
invariant_of-result c = is_read (record { ranges = c.in_ok-ranges.ranges; memory = c.args.header.memory; count = c.args.header.pages }) c.args.header.ranges c.args.header.pages c.args.bytes.now c.deref.result.now c.pages_in.result
    c.requires.possible c.requires.size c.in_ok-ranges.ensures.text c.deref.ensures.value refl c.pages_in.ensures c.if-ne.ensures

pub returns : goal.returns
returns c =
    let a = is_read (record { ranges = c.in_ok-ranges.ranges; memory = c.args.header.memory; count = c.args.header.pages }) c.args.header.ranges c.args.header.pages c.args.bytes.now c.deref.result.now c.pages_in.result
    c.requires.possible c.requires.size c.in_ok-ranges.ensures.text c.deref.ensures.value refl c.pages_in.ensures c.if-ne.ensures in
    has_read (record { ranges = c.in_ok-ranges.ranges; memory = c.args.header.memory; count = c.args.header.pages }) c.args.header.pages c.args.bytes.now a c.in_ok-ranges.ensures.text refl
