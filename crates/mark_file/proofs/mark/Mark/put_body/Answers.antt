use Rattle.std.proofs.Common.{◌∙◌, ◌++◌, List, length, codes, ap}
use Rattle.std.specs.List.{flat_map}
use Rattle.format_spec.specs.Bytes.{Bytes, be32, be64}
use Rattle.store_spec.specs.Mark.{Mark, MarkMemory, mark_memory_text, hashes_text}
use Rattle.mark_file.proofs.Wholes.{written}
use Rattle.mark_file.proofs.mark.Mark.put_body.Goals as goal

pub returns : goal.returns
returns c =
    let v = c.self.view_is in
    let m = c.args.self.now in
    let a = c.extend_from_slice.new.self.items in
    let b = c.extend_from_slice-2.new.self.items in
    let d = c.extend_from_slice-3.new.self.items in
    let e = c.extend_from_slice-4.new.self.items in
    let f = c.extend_from_slice-5.new.self.items in
    let g = c.put_mems.new.text.items in
    let h = c.put_hashes.new.text.items in
    written c.args.text.now.items a b d e f g h c.extend_from_slice-6.new.self.items
    (codes "ICMK") (be32 m.version) (be64 m.height) (be32 (length m.system)) m.system (flat_map (mark_memory_text m.version) m.memories) (hashes_text m.system_sums) m.root
    c.in_ok-extend_from_slice.ensures.items
    (c.in_ok-extend_from_slice-2.ensures.items ∙ ap (λ (s : Bytes). a ++ s) (c.to_be_bytes.ensures ∙ ap (λ (x : Mark). be32 x.version) v))
    (c.in_ok-extend_from_slice-3.ensures.items ∙ ap (λ (s : Bytes). b ++ s) (c.to_be_bytes-2.ensures ∙ ap (λ (x : Mark). be64 x.height) v))
    (c.in_ok-extend_from_slice-4.ensures.items ∙ ap (λ (s : Bytes). d ++ s) (c.to_be_bytes-3.ensures ∙ ap (λ (s : Bytes). be32 (length s)) c.bytes-system.ensures.value ∙ ap (λ (x : Mark). be32 (length x.system)) v))
    (c.in_ok-extend_from_slice-5.ensures.items ∙ ap (λ (s : Bytes). e ++ s) (c.bytes-system.ensures.value ∙ ap (λ (x : Mark). x.system) v))
    (c.in_ok-put_mems.ensures ∙ ap (λ (ms : List MarkMemory). f ++ flat_map (mark_memory_text c.self.inside.version) ms) (c.deref.ensures.value ∙ ap (λ (x : Mark). x.memories) v)
    ∙ ap (λ (x : Mark). f ++ flat_map (mark_memory_text x.version) m.memories) v)
    (c.in_ok-put_hashes.ensures ∙ ap (λ (hs : List Bytes). g ++ hashes_text hs) (c.deref-2.ensures.value ∙ ap (λ (x : Mark). x.system_sums) v))
    (c.in_ok-extend_from_slice-6.ensures.items ∙ ap (λ (s : Bytes). h ++ s) (c.bytes.ensures.value ∙ ap (λ (x : Mark). x.root) v))
