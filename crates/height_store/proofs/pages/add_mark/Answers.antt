use Rattle.std.proofs.Common.{◌∙◌, ap, map, ℕ}
use Rattle.format_spec.specs.Bytes.{Bytes}
use Rattle.state_spec.specs.Files.{memories_in}
use Rattle.height_store.specs.declared.marks.OpenedMark.TheInside.{Inside}
use Rattle.sys_state.specs.System.{part_of}
use Rattle.height_store.specs.Bad.{mark_namings}
use Rattle.height_store.specs.Opened.{ReadMark, parts_of}
use Rattle.height_store.proofs.Namings.{as_many, rows_of_mark, ok_behind}
use Rattle.height_store.proofs.pages.add_mark.Goals as goal

pub add_mems-requires : goal.add_mems-requires
add_mems-requires c =
    as_many c.mark.inside.mark (part_of c.mark.inside.sys) c.deref.result.now c.deref-2.result.now c.mark.invariant.good
    (c.deref.ensures.value ∙ ap (λ (m : Inside). m.mark.memories) c.mark-inside.view_is) (c.deref-2.ensures.value ∙ c.in_ok-pages.ensures.pages ∙ ap (λ (m : Inside). map (λ (f : Bytes × ℕ). f.1) (memories_in (part_of m.sys))) c.mark-inside.view_is)

pub returns : goal.returns
returns c =
    ok_behind c.add_mems.result c.add_mems.new.all.items c.args.all.now.items _ _
    (rows_of_mark c.mark.inside.mark (part_of c.mark.inside.sys) c.deref.result.now c.deref-2.result.now
    (c.deref.ensures.value ∙ ap (λ (m : Inside). m.mark.memories) c.mark-inside.view_is) (c.deref-2.ensures.value ∙ c.in_ok-pages.ensures.pages ∙ ap (λ (m : Inside). map (λ (f : Bytes × ℕ). f.1) (memories_in (part_of m.sys))) c.mark-inside.view_is)
    ∙ ap (λ (m : ReadMark). mark_namings (parts_of m)) c.mark.view_is) c.add_mems.ensures
