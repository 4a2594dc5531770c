use Rattle.std.proofs.Common.{◌∙◌, sym, ap, ◌++◌}
use Rattle.format_spec.specs.Bytes.{Bytes}
use Rattle.page_file.proofs.Texts.{header_fields, may_begin, is_written}
use Rattle.page_file.proofs.format.Header.read.Goals as goal

pub returns-then-not-may_begin : goal.returns-then-not-may_begin
returns-then-not-may_begin c = λ m r p is.
    let same = header_fields c.args.bytes.now c.args.size m r p _ _ _ is c.number_at.ensures.value c.number_at-2.ensures.value c.number_at-3.ensures.value in
    may_begin c.args.bytes.now c.args.size _ _ _ c.may_begin.result same c.may_begin.ensures c.if-not-may_begin.true

pub returns-else-is_written_so : goal.returns-else-is_written_so
returns-else-is_written_so c = λ m r p is.
    let same = header_fields c.args.bytes.now c.args.size m r p _ _ _ is c.number_at.ensures.value c.number_at-2.ensures.value c.number_at-3.ensures.value in
    is_written c.in_ok-text.text c.bytes-2.result.now c.args.bytes.now c.eq-is_written_so.result c.eq-is_written_so.ensures c.if-is_written_so.false c.in_ok-text.ensures
    (c.bytes-2.ensures.value ∙ c.into_blob.ensures ∙ c.in_ok-write.ensures ∙ ap (λ (l : Bytes). c.in_ok-text.text ++ l) (sym same.text))
