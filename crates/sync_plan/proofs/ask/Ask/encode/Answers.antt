use Rattle.std.proofs.Common.{◌≡◌, ℕ, ◌∷◌, ◌∙◌, refl, ap, sym, length, replicate}
use Rattle.format_spec.specs.Bytes.{Bytes, be32}
use Rattle.sync_spec.specs.Messages.{item_text}
use Rattle.sync_plan.specs.declared.item.Item.{Item}
use Rattle.sync_plan.specs.Views.{ask_of, item_of}
use Rattle.sync_plan.proofs.Spelling.{ask_put, ask_spelled}
use Rattle.sync_plan.proofs.ask.Ask.encode.Goals as goal
use Rattle.sync_plan.proofs.ask.Ask.encode.Goals.{in-Meta, in-Piece, in-Chunk}

spelled_by : {put kind : ℕ × ℕ} {item variant : Item} → put ≡ kind → item ≡ variant → kind.0 ∷ be32 kind.1 ≡ item_text (item_of variant) → put.0 ∷ be32 put.1 ≡ item_text (item_of item)
spelled_by p i e = ap (λ (k : ℕ × ℕ). k.0 ∷ be32 k.1) p ∙ e ∙ sym (ap (λ (x : Item). item_text (item_of x)) i)

pub returns : goal.returns
returns c =
    let height = c.copy_from_slice.new.self in
    let root = c.copy_from_slice-2.new.self in
    let index = c.copy_from_slice-3.new.self in
    let kind = c.match-self.kind.0 in
    let root_is = c.copy_from_slice-2.ensures.after ∙ c.bytes.ensures.value in
    let index_is : index ≡ be32 c.match-self.kind.1 = c.copy_from_slice-3.ensures.after ∙ c.to_be_bytes-2.ensures in
    let item : kind ∷ index ≡ item_text (item_of c.args.self.now.item) =
    ap (λ (s : Bytes). kind ∷ s) index_is
    ∙ elim c.match-self.branch [
      | in-Meta w ↦ spelled_by w.kind-is w.in-Meta.is refl
      | in-Piece w ↦ spelled_by w.kind-is w.in-Piece.is refl
      | in-Chunk w ↦ spelled_by w.kind-is w.in-Chunk.is refl
    ] in
    ask_put height root index (replicate 32 0) kind c.copy_from_slice.ensures.len (ap length c.copy_from_slice-2.ensures.after ∙ c.bytes.ensures.size) (ap length index_is) refl
    ∙ ask_spelled (ask_of c.args.self.now) height root index kind (c.copy_from_slice.ensures.after ∙ c.to_be_bytes.ensures) root_is item
