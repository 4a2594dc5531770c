-- Bytes are decoded in one way only.
use Rattle.std.proofs.Common.{◌≡◌, ℕ, List, [], ◌∷◌, Result, Ok, Err, refl, sym, ◌∙◌, ap}
use Rattle.std.specs.List.{AllByRecursion}
use Rattle.format_spec.specs.Bytes.{Bytes}
use Rattle.format_spec.proofs.Cuts.{heads}
use Rattle.state_spec.specs.State.{CanisterPart}
use Rattle.sys_state.specs.declared.record.CanisterRecord.{CanisterRecord}
use Rattle.sys_state.specs.System.{System, part_of, part_of_record, parts}
use Rattle.store_spec.specs.Mark.{Mark}
use Rattle.store_spec.proofs.Marks.{mark_once}
use Rattle.mark_file.specs.declared.error.MarkError.{MarkError}
use Rattle.mark_file.specs.declared.error.MarkError.TheVariants as errors
use Rattle.mark_file.specs.Spells.{SpellsBoth, Decodes, DecodesBoth, IsAnswered}

-- ---- the same parts, of canisters that were born at one height

abbrev part_in : Bytes × CanisterRecord → Bytes × CanisterPart
part_in c = (c.0, part_of_record c.1)

module _ (height : ℕ) where
  abbrev pub BornThere : List (Bytes × CanisterRecord) → Type 0
  BornThere cs = AllByRecursion (λ c. c.1.birth ≡ height) cs

  one_canister : (c d : Bytes × CanisterRecord) → part_in c ≡ part_in d → c.1.birth ≡ height → d.1.birth ≡ height → c ≡ d
  one_canister c d same birth other =
      λ i. ((same i).0, record { «module» = (same i).1.wasm; certified = (same i).1.certified; heap = (same i).1.heap; stable = (same i).1.stable; birth = (birth ∙ sym other) i })

  one_list : (cs ds : List (Bytes × CanisterRecord)) → parts cs ≡ parts ds → BornThere cs → BornThere ds → cs ≡ ds
  one_list [] [] same born other = refl
  one_list [] (d ∷ ds) same born other = absurd cc
  one_list (c ∷ cs) [] same born other = absurd cc
  one_list (c ∷ cs) (d ∷ ds) same born other =
      let first = heads (part_in c) (part_in d) (parts cs) (parts ds) same in
      λ i. one_canister c d first.0 born.0 other.0 i ∷ one_list cs ds first.1 born.1 other.1 i

  pub one_system : (s t : System) → part_of s ≡ part_of t → BornThere s.canisters → BornThere t.canisters → s ≡ t
  one_system s t same born other =
      let canisters = one_list s.canisters t.canisters (ap (λ p. p.canisters) same) born other in
      λ i. record { time = (same i).time; canisters = canisters i; entries = (same i).entries }

-- ---- one answer

module _ (height : ℕ) (text : Bytes) where
  pub decoded_once : (one other : Result Mark MarkError) → Decodes height text one → Decodes height text other → IsAnswered one → IsAnswered other → one ≡ other
  decoded_once (Ok m) (Ok n) a b _ _ = ap Ok (mark_once height height text m n a.0 b.0 a.1 b.1).0
  decoded_once (Ok m) (Err (errors.BadMark k)) a b _ _ = absurd (b.1 m a)
  decoded_once (Err (errors.BadMark k)) (Ok n) a b _ _ = absurd (a.1 n b)
  decoded_once (Err (errors.BadMark k)) (Err (errors.BadMark l)) a b _ _ = ap (λ (h : ℕ). Err (errors.BadMark h)) (a.0 ∙ sym b.0)
  decoded_once (Err errors.Memory) other a b told _ = absurd told
  decoded_once (Ok m) (Err errors.Memory) a b _ told = absurd told
  decoded_once (Err (errors.BadMark k)) (Err errors.Memory) a b _ told = absurd told

  one_both : (x y : Mark × System) → SpellsBoth height text x → SpellsBoth height text y → x ≡ y
  one_both x y a b =
      let same = mark_once height height text x.0 y.0 (part_of x.1) (part_of y.1) a.mark b.mark in
      let system = one_system height x.1 y.1 same.1 a.births b.births in
      λ i. (same.0 i, system i)

  pub both_decoded_once : (one other : Result (Mark × System) MarkError) → DecodesBoth height text one → DecodesBoth height text other → IsAnswered one → IsAnswered other → one ≡ other
  both_decoded_once (Ok x) (Ok y) a b _ _ = ap Ok (one_both x y a b)
  both_decoded_once (Ok x) (Err (errors.BadMark k)) a b _ _ = absurd (b.1 x.0 (part_of x.1, a.mark))
  both_decoded_once (Err (errors.BadMark k)) (Ok y) a b _ _ = absurd (a.1 y.0 (part_of y.1, b.mark))
  both_decoded_once (Err (errors.BadMark k)) (Err (errors.BadMark l)) a b _ _ = ap (λ (h : ℕ). Err (errors.BadMark h)) (a.0 ∙ sym b.0)
  both_decoded_once (Err errors.Memory) other a b told _ = absurd told
  both_decoded_once (Ok x) (Err errors.Memory) a b _ told = absurd told
  both_decoded_once (Err (errors.BadMark k)) (Err errors.Memory) a b _ told = absurd told
