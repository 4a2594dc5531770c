-- The bytes of an ask, written into their places.
use Rattle.std.proofs.Common.{◌≡◌, ℕ, ◌+◌, ◌≤◌, Bool, true, false, [], ◌∷◌, ◌++◌, length, take, drop, set, Option, Some, None, Ok, refl, sym, ap, ◌∙◌, append_assoc, arith}
use Rattle.std.specs.Prelude.{nat_lt, option_map, IfSome}
use Rattle.std.proofs.lemmas.List.{take_at, drop_at, set_at, length-append, length-take, append-nil}
use borrow.Rule.Slice.PartMut.{put_mid}
use Rattle.format_spec.specs.Bytes.{Bytes, IsBytes, be64}
use Rattle.sync_spec.specs.Messages.{Ask, IsAsk, ask_text, item_text, read_ask}
use Rattle.sync_spec.proofs.Asks.{ask_found}
use Rattle.sync_plan.specs.declared.ask.Ask as code
use Rattle.sync_plan.specs.Views.{ask_of}

-- bytes of a part between two others
mid_put : (front old behind new : Bytes) (a k : ℕ) → length front ≡ a → length old ≡ k → put_mid a k (front ++ (old ++ behind)) new ≡ front ++ (new ++ behind)
mid_put front old behind new a k f o =
    rw (take_at front (old ++ behind) a f, drop_at front (old ++ behind) a f, drop_at old behind k o) refl

-- a height, a root hash, a byte and a number, put in this order over zeros
pub ask_put : (height root index old : Bytes) (kind : ℕ) → length height ≡ 8 → length root ≡ 32 → length index ≡ 4 → length old ≡ 32
    → put_mid 41 4 (set (put_mid 8 32 (height ++ (old ++ 0 ∷ 0 ∷ 0 ∷ 0 ∷ 0 ∷ [])) root) 40 kind) index ≡ height ++ (root ++ (kind ∷ index))
ask_put height root index old kind h r i o =
    let four : Bytes = 0 ∷ 0 ∷ 0 ∷ 0 ∷ [] in
    let front = height ++ root in
    let front_length : length front ≡ 40 = omega (arith, length-append height root, h, r) in
    let kept = front ++ kind ∷ [] in
    let kept_length : length kept ≡ 41 = omega (arith, length-append front (kind ∷ []), front_length) in
    let one : put_mid 8 32 (height ++ (old ++ 0 ∷ four)) root ≡ front ++ 0 ∷ four = mid_put height old (0 ∷ four) root 8 32 h o ∙ sym (append_assoc height root (0 ∷ four)) in
    let two : set (front ++ 0 ∷ four) 40 kind ≡ kept ++ (four ++ []) = set_at front 0 four kind 40 front_length ∙ sym (append_assoc front (kind ∷ []) four) in
    let three : put_mid 41 4 (kept ++ (four ++ [])) index ≡ kept ++ (index ++ []) = mid_put kept four [] index 41 4 kept_length refl in
    ap (λ (s : Bytes). put_mid 41 4 (set s 40 kind) index) one ∙ ap (λ (s : Bytes). put_mid 41 4 s index) two ∙ three ∙ joined
  where
    joined : ((height ++ root) ++ kind ∷ []) ++ (index ++ []) ≡ height ++ (root ++ (kind ∷ index))
    joined = simp (append_assoc, append-nil)

-- the fields of an ask in their order
pub ask_spelled : (a : Ask) (height root index : Bytes) (kind : ℕ) → height ≡ be64 a.height → root ≡ a.root → kind ∷ index ≡ item_text a.item → height ++ (root ++ (kind ∷ index)) ≡ ask_text a
unfolding ask_text
ask_spelled a height root index kind h r i = rw (h, r, i) refl

-- an ask that was read is one, and the text is its spelling
pub ask_in : (s : Bytes) → IsBytes s → (o : Option code.Ask) → option_map ask_of o ≡ read_ask s → IfSome o (λ a. (s ≡ ask_text (ask_of a)) × IsAsk (ask_of a))
unfolding read_ask
ask_in s bytes None e = tt
ask_in s bytes (Some a) e = ask_found s (ask_of a) bytes (sym e)
