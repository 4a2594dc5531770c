use Rattle.std.proofs.Common.{arith, ◌∙◌, ap, ◌++◌, sym, length}
use Rattle.format_spec.specs.Bytes.{Bytes}
use Rattle.page_spec.specs.PageFile.{index_text}
use Rattle.page_file.specs.Ranges.{text_of}
use Rattle.page_file.proofs.Kept.{counts, text_written}
use Rattle.page_file.proofs.index.FileIndex.text_with.Goals as goal

pub overflow_cast-header : goal.overflow_cast-header
overflow_cast-header c = omega (arith, counts c.self.inside c.self.invariant)

pub overflow_mul-size : goal.overflow_mul-size
overflow_mul-size c = omega (arith, counts c.self.inside c.self.invariant)

pub overflow_add-size : goal.overflow_add-size
overflow_add-size c = omega (arith, counts c.self.inside c.self.invariant)

pub overflow_add-size-2 : goal.overflow_add-size-2
overflow_add-size-2 c = omega (arith, counts c.self.inside c.self.invariant)

pub returns : goal.returns
returns c =
    let front = text_written c.self.inside c.args.self.now c.len-ranges.result c.in_ok-text.text c.write.new.out c.write_ranges.new.out c.self.invariant c.self.view_is
    (c.len-ranges.ensures ∙ sym c.deref.ensures.len ∙ ap length c.deref.ensures.value) c.in_ok-write.ensures
    (c.in_ok-write_ranges.ensures ∙ ap (λ rs. c.write.new.out ++ text_of rs) c.deref.ensures.value)
    ∙ ap (λ (l : Bytes). l ++ index_text c.args.self.now) c.in_ok-text.ensures in
    c.into_blob.ensures ∙ c.in_ok-bytes.ensures ∙ ap (λ (l : Bytes). l ++ c.args.pages.now) front
