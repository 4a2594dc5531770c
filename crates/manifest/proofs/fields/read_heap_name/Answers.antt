use Rattle.std.proofs.Common.{◌≡◌, ◌∙◌, ◌&&◌, ℕ, true, Err, ap, sym}
use Rattle.std.proofs.lemmas.Bool.{and_parts}
use Rattle.format_spec.specs.Bytes.{Bytes, same_bytes, is_after, bytes_cmp}
use Rattle.format_spec.specs.Fields.{string8}
use Rattle.state_spec.specs.ManifestText.{is_next_heap, id_in}
use Rattle.byte_codec.proofs.Judged.{field_breaks}
use Rattle.manifest.proofs.Fielding.{name_is, heap_judged}
use Rattle.manifest.proofs.fields.read_heap_name.Goals as goal

pub returns-else-is_heap-clause-name : goal.returns-else-is_heap-clause-name
returns-else-is_heap-clause-name c =
    let name = c.in-Ok.name.now in
    let last = c.args.last.now in
    let rule = heap_judged last name c.in-Some.id c.in_ok-heap.heap c.bytes.result.now c.is_heap.result c.in-Some.ensures c.in_ok-heap.ensures.value c.bytes.ensures.value c.is_heap.ensures in
    field_breaks string8 (λ (n : Bytes). is_next_heap last (id_in n) n) c.args.reader.now name c.string8.new.self c.in-Ok.ensures.read (rule ∙ c.if-is_heap.false)
    ∙ ap (λ (at : ℕ). Err at) (sym c.at-at.ensures)

pub returns-then-is_heap-clause-name : goal.returns-then-is_heap-clause-name
returns-then-is_heap-clause-name c =
    let name = c.in-Ok.name.now in
    let last = c.args.last.now in
    let heap = c.in_ok-heap.heap in
    let rule = heap_judged last name c.in-Some.id heap c.bytes.result.now c.is_heap.result c.in-Some.ensures c.in_ok-heap.ensures.value c.bytes.ensures.value c.is_heap.ensures in
    let both : same_bytes name heap && is_after bytes_cmp last c.in-Some.id ≡ true =
    ap (λ (w : Bytes). same_bytes name w && is_after bytes_cmp last c.in-Some.id) (sym c.bytes.ensures.value) ∙ sym c.is_heap.ensures ∙ c.if-is_heap.true in
    name_is (λ (n : Bytes). is_next_heap last (id_in n) n) c.args.reader.now name heap c.string8.new.self c.in-Ok.ensures.read
    (and_parts (same_bytes name heap) (is_after bytes_cmp last c.in-Some.id) both).0 (rule ∙ c.if-is_heap.true)
