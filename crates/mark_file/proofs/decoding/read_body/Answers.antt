use Rattle.std.proofs.Common.{◌∙◌, ◌++◌, List, Option, map, sym, ap, subst, arith}
use Rattle.std.proofs.lemmas.Result.{err_from_is_err_and}
use Rattle.format_spec.specs.Bytes.{Bytes}
use Rattle.manifest.specs.Fits.{FitSums}
use Rattle.state_spec.specs.SystemText.{read_system}
use Rattle.state_spec.specs.Files.{memories_in}
use Rattle.store_spec.specs.Mark.{MarkMemory, hashes_text}
use Rattle.sys_state.specs.System.{part_of}
use Rattle.mark_file.specs.Reading.{head_fields}
use Rattle.mark_file.specs.Spells.{IsBody, IsBothBody, SpellsBody, root_from}
use Rattle.mark_file.proofs.Bodies.{refused, read_memories, head_must, system_must, system_is, memories_must, memories_fit, ends_differ, ends_agree}
use Rattle.mark_file.proofs.MemoryLaws.{sums_fit}
use Rattle.mark_file.proofs.decoding.read_body.Goals as goal

pub returns-in_err-head : goal.returns-in_err-head
returns-in_err-head c =
    let p = err_from_is_err_and c.from_residual.result c.from_residual.ensures.1 in
    rw (p.1, p.2)
    (refused (IsBothBody c.args.height c.args.body.now) (SpellsBody c.args.height c.args.body.now) c.in_err-head.field-0.0 (head_fields c.args.height c.new-reader.result) c.in_err-head.ensures.head
    (head_must c.args.height c.args.body.now c.requires.at_most c.new-reader.result c.new-reader.ensures))

pub returns-in_err-sys : goal.returns-in_err-sys
returns-in_err-sys c =
    let h = c.in_ok-head.head in
    let p = err_from_is_err_and c.from_residual-in_err-sys.result c.from_residual-in_err-sys.ensures.1 in
    rw (p.1, p.2)
    (refused (IsBothBody c.args.height c.args.body.now) (SpellsBody c.args.height c.args.body.now) c.in_err-sys.field-0.0 (read_system h.0 h.1.now) c.in_err-sys.ensures.gives
    (system_must c.args.height c.args.body.now c.requires.at_most c.new-reader.result c.new-reader.ensures h.0 h.1.now c.read_head.new.reader c.in_ok-head.ensures.head))

pub returns-in_err-mems : goal.returns-in_err-mems
returns-in_err-mems c =
    let h = c.in_ok-head.head in
    let p = err_from_is_err_and c.from_residual-in_err-mems.result c.from_residual-in_err-mems.ensures.1 in
    rw (p.1, p.2)
    (refused (IsBothBody c.args.height c.args.body.now) (SpellsBody c.args.height c.args.body.now) c.in_err-mems.field-0.0 (read_memories h.0 c.deref.result.now c.read_head.new.reader) c.in_err-mems.ensures
    (memories_must c.args.height c.args.body.now c.requires.at_most c.new-reader.result c.new-reader.ensures h.0 h.1.now c.read_head.new.reader c.in_ok-head.ensures.head
    (part_of c.in_ok-sys.sys) c.in_ok-sys.ensures.gives c.in_ok-head.ensures.version c.deref.result.now (c.deref.ensures.value ∙ c.in_ok-pages.ensures.pages)))

pub root_hash-requires-clause-text : goal.root_hash-requires-clause-text
root_hash-requires-clause-text c =
    let h = c.in_ok-head.head in
    (system_is c.args.height c.args.body.now c.requires.at_most c.new-reader.result c.new-reader.ensures h.0 h.1.now c.read_head.new.reader c.in_ok-head.ensures.head
    (part_of c.in_ok-sys.sys) c.in_ok-sys.ensures.gives (λ i. omega (arith, c.type_inv.body i))).0

pub root_hash-requires-clause-fit : goal.root_hash-requires-clause-fit
root_hash-requires-clause-fit c =
    let h = c.in_ok-head.head in
    let s = part_of c.in_ok-sys.sys in
    subst (λ (ms : List MarkMemory). FitSums s (map (λ (m : MarkMemory). m.sums) ms)) (sym c.deref-2.ensures.value)
    (sums_fit h.0 c.in_ok-mems.mems.items (memories_in s)
    (memories_fit c.args.height c.args.body.now c.requires.at_most c.new-reader.result c.new-reader.ensures h.0 h.1.now c.read_head.new.reader c.in_ok-head.ensures.head
    s c.in_ok-sys.ensures.gives c.in_ok-head.ensures.version c.deref.result.now (c.deref.ensures.value ∙ c.in_ok-pages.ensures.pages) c.in_ok-mems.mems.items c.read_mems.new.reader c.in_ok-mems.ensures
    (λ i. omega (arith, c.type_inv.body i))))

pub returns-then-not-is_same : goal.returns-then-not-is_same
returns-then-not-is_same c =
    let h = c.in_ok-head.head in
    ends_differ c.args.height c.args.body.now c.requires.at_most c.new-reader.result c.new-reader.ensures h.0 h.1.now c.read_head.new.reader c.in_ok-head.ensures.head
    (part_of c.in_ok-sys.sys) c.in_ok-sys.ensures.gives c.in_ok-head.ensures.version c.deref.result.now (c.deref.ensures.value ∙ c.in_ok-pages.ensures.pages) c.in_ok-mems.mems.items c.read_mems.new.reader c.in_ok-mems.ensures
    c.rest.result.now c.deref-4.result.now c.in_ok-system_sums.system_sums.items c.in_ok-root.root c.rest.ensures.value
    (c.deref-4.ensures.value ∙ c.in_ok-end.ensures ∙ ap (λ (hs : List Bytes). hashes_text hs ++ c.in_ok-root.root) c.deref-3.ensures.value)
    c.in_ok-system_sums.ensures (c.in_ok-root.ensures ∙ ap (root_from h.0 (part_of c.in_ok-sys.sys)) c.deref-2.ensures.value)
    (sym c.is_same.ensures ∙ c.if-not-is_same.true)

pub returns : goal.returns
returns c =
    let h = c.in_ok-head.head in
    let mark = ends_agree c.args.height c.args.body.now c.requires.at_most c.new-reader.result c.new-reader.ensures h.0 h.1.now c.read_head.new.reader c.in_ok-head.ensures.head
    (part_of c.in_ok-sys.sys) c.in_ok-sys.ensures.gives c.in_ok-head.ensures.version c.deref.result.now (c.deref.ensures.value ∙ c.in_ok-pages.ensures.pages) c.in_ok-mems.mems.items c.read_mems.new.reader c.in_ok-mems.ensures
    c.rest.result.now c.deref-4.result.now c.in_ok-system_sums.system_sums.items c.in_ok-root.root c.rest.ensures.value
    (c.deref-4.ensures.value ∙ c.in_ok-end.ensures ∙ ap (λ (hs : List Bytes). hashes_text hs ++ c.in_ok-root.root) c.deref-3.ensures.value)
    c.in_ok-system_sums.ensures (c.in_ok-root.ensures ∙ ap (root_from h.0 (part_of c.in_ok-sys.sys)) c.deref-2.ensures.value)
    (λ i. omega (arith, c.type_inv.body i)) c.requires.from_one (sym c.is_same.ensures ∙ c.if-not-is_same.false) in
    record {
      mark = subst (λ (s : Bytes). IsBody c.args.height c.args.body.now
          (record { height = c.args.height; version = h.0; system = s; memories = c.in_ok-mems.mems.items; system_sums = c.in_ok-system_sums.system_sums.items; root = c.in_ok-root.root }) (part_of c.in_ok-sys.sys)) (sym c.in_ok-from_slice.ensures.value) mark;
      births = c.in_ok-sys.ensures.births;
    }
