-- Bytes of a range, page by page.
use Rattle.std.proofs.Common.{◌≡◌, ◌≢◌, ◌⊎◌, inl, inr, ℕ, zero, suc, ◌+◌, ◌-◌, ◌*◌, ◌/◌, ◌<◌, ◌≤◌, ◌==◌, ◌&&◌, ◌||◌, nat_lt, min, Bool, true, false, not, is_some, cond, List, [], ◌∷◌, ◌++◌, length, take, drop, Option, refl, sym, ◌∙◌, ap, subst, arith}
use Rattle.std.proofs.lemmas.Bool.{cases_eq, eq-eqb, lt-ltb, le-ltb}
use Rattle.std.proofs.Math.Seq.{take-add}
use Rattle.std.proofs.lemmas.List.{map-id, drop-drop, length-append, length-take, length-drop}
use Rattle.std.proofs.lemmas.List.FromFn.{filter_of_map_range_with_len_more}
use Rattle.std.proofs.lemmas.Slice.{take-put_mid}
use borrow.Rule.Slice.PartMut.{put_mid}
use Rattle.std.specs.Int.{div_ceil}
use Rattle.std.specs.List.{filter, range_with_len}
use Rattle.format_spec.specs.Bytes.{Bytes}
use Rattle.format_spec.specs.declared.limits.TheConstants.{PAGE_SIZE}
use Rattle.state_spec.specs.Memory.{with_bytes_at, pages_between}
use Rattle.page_spec.specs.Layers.{has_page}
use Rattle.disk_model.specs.View.{DiskView}
use Rattle.disk_model.specs.OnlyReads.{OnlyReads, reads_only_then, reads_only_more}
use Rattle.page_map.specs.Maps.{OwnPage, Maps, own_at}
use Rattle.page_map.specs.Pieces.{touched_pages, is_filled_in_part, is_foreign, IsPiece}
use Rattle.page_map.proofs.Whole.{overwritten_more}

-- how many of n bytes from a place on stand before a page
abbrev pub before : ℕ → ℕ → ℕ → ℕ
before at n page = min (page * PAGE_SIZE - at) n

le_or_lt : (a b : ℕ) → (a ≤ b) ⊎ (b < a)
le_or_lt a b = go (b - a) refl
  where
    go : (k : ℕ) → b - a ≡ k → (a ≤ b) ⊎ (b < a)
    go zero e = elim (cases_eq a b) [ inl is ↦ inl (omega arith) | inr ne ↦ inr (omega arith) ]
    go (suc k) e = inl (omega arith)

pub touched_are : (at n behind : ℕ) → n ≢ 0 → behind ≡ div_ceil (at + n) PAGE_SIZE → touched_pages at n ≡ range_with_len (at / PAGE_SIZE) (behind - at / PAGE_SIZE)
unfolding pages_between
touched_are at n behind some is =
    let e : (n == 0) ≡ false = grind arith in
    ap (λ (b : Bool). cond b [] (pages_between at n)) e ∙ ap (λ (m : ℕ). range_with_len (at / PAGE_SIZE) (m - at / PAGE_SIZE)) (sym is)

-- ---- what is read of a disk

module _ (p : ℕ → Bool) where
  filter_next : (first n page : ℕ) → first + n ≡ page → filter p (range_with_len first (n + 1)) ≡ filter p (range_with_len first n) ++ cond (p page) (page ∷ []) []
  filter_next first n page is =
      ap (filter p) (sym (map-id (range_with_len first (n + 1))))
      ∙ filter_of_map_range_with_len_more p (λ (x : ℕ). x) first n page is
      ∙ ap (λ (l : List ℕ). filter p l ++ cond (p page) (page ∷ []) []) (map-id (range_with_len first n))

  one_long : (b : Bool) (page : ℕ) → length (cond b (page ∷ []) []) ≡ cond b 1 0
  one_long true page = refl
  one_long false page = refl

  count_next : (first n page : ℕ) → first + n ≡ page → length (filter p (range_with_len first (n + 1))) ≡ length (filter p (range_with_len first n)) + cond (p page) 1 0
  count_next first n page is =
      ap length (filter_next first n page is) ∙ length-append (filter p (range_with_len first n)) (cond (p page) (page ∷ []) []) ∙ ap (λ (k : ℕ). length (filter p (range_with_len first n)) + k) (one_long (p page) page)

  count_more : (first n k : ℕ) → length (filter p (range_with_len first n)) ≤ length (filter p (range_with_len first (n + k)))
  count_more first n zero = let e : n ≡ n + 0 = omega arith in let same = ap (λ (m : ℕ). length (filter p (range_with_len first m))) e in omega (arith, same)
  count_more first n (suc k) =
      let e : n + suc k ≡ n + k + 1 = omega arith in
      let same = ap (λ (m : ℕ). length (filter p (range_with_len first m))) e in
      omega (arith, same, count_next first (n + k) (first + (n + k)) refl, count_more first n k)

  pub reads_only_next : (first page most : ℕ) (old mid new : DiskView) → first ≤ page → most ≡ PAGE_SIZE * cond (p page) 1 0 → OnlyReads (PAGE_SIZE * length (filter p (range_with_len first (page - first)))) old mid → OnlyReads most mid new
      → OnlyReads (PAGE_SIZE * length (filter p (range_with_len first (page + 1 - first)))) old new
  reads_only_next first page most old mid new le is so_far here =
      let n : ℕ = page - first in
      let e : page + 1 - first ≡ n + 1 = omega (arith, le) in
      let f : first + n ≡ page = omega (arith, le) in
      let counted = ap (λ (m : ℕ). length (filter p (range_with_len first m))) e ∙ count_next first n page f in
      let total : PAGE_SIZE * length (filter p (range_with_len first n)) + most ≡ PAGE_SIZE * length (filter p (range_with_len first (page + 1 - first))) = omega (arith, counted, is) in
      subst (λ (m : ℕ). OnlyReads m old new) total (reads_only_then (PAGE_SIZE * length (filter p (range_with_len first n))) most old mid new so_far here)

  pub reads_only_all : (first page behind : ℕ) (pages : List ℕ) (old new : DiskView) → first ≤ page → page ≤ behind → pages ≡ range_with_len first (behind - first) → OnlyReads (PAGE_SIZE * length (filter p (range_with_len first (page - first)))) old new
      → OnlyReads (PAGE_SIZE * length (filter p pages)) old new
  reads_only_all first page behind pages old new le le2 are reads_only =
      let e : behind - first ≡ page - first + (behind - page) = omega (arith, le, le2) in
      let same = ap (λ (l : List ℕ). length (filter p l)) are ∙ ap (λ (m : ℕ). length (filter p (range_with_len first m))) e in
      reads_only_more (PAGE_SIZE * length (filter p (range_with_len first (page - first)))) (PAGE_SIZE * length (filter p pages)) old new (omega (arith, same, count_more first (page - first) (behind - page))) reads_only

pub amount_read : (b : Bool) → cond b 0 PAGE_SIZE ≡ PAGE_SIZE * cond (not b) 1 0
amount_read true = refl
amount_read false = refl

pub amount_write : (b : Bool) → cond b PAGE_SIZE 0 ≡ PAGE_SIZE * cond b 1 0
amount_write true = refl
amount_write false = refl

-- ---- pieces

module _ (at n page from to start : ℕ) (is : IsPiece at n page from to start) (soon : at < page * PAGE_SIZE + PAGE_SIZE) (reached : page * PAGE_SIZE < at + n) where
  pub before_is : before at n page ≡ from
  before_is = omega (arith, is.from_is, soon, reached)

  pub after_is : before at n (page + 1) ≡ to
  after_is = omega (arith, is.to_is, soon, reached)

  pub ordered : from ≤ to
  ordered = omega (arith, is.from_is, is.to_is, soon, reached)

  pub ends : to ≤ n
  ends = omega (arith, is.to_is)

  pub fits : start + (to - from) ≤ PAGE_SIZE
  fits = omega (arith, is.from_is, is.to_is, is.start_is, soon, reached)

  pub starts : page * PAGE_SIZE + start ≡ at + from
  starts = omega (arith, is.from_is, is.start_is)

  pub part_long : (w : Bytes) → length w ≡ n → length (take (to - from) (drop from w)) ≡ to - from
  part_long w long = omega (arith, length-take (to - from) (drop from w), length-drop from w, long, ends, ordered)

  -- bytes of one page more
  pub read_more : (s old new room : Bytes) → length old ≡ n → take (before at n page) old ≡ take (before at n page) (drop at s) → new ≡ put_mid from (to - from) old room → room ≡ take (to - from) (drop (page * PAGE_SIZE + start) s) → length room ≡ to - from
      → take (before at n (page + 1)) new ≡ take (before at n (page + 1)) (drop at s)
  read_more s old new room long was put read room_long =
      let k : ℕ = to - from in
      let sum : to ≡ from + k = omega (arith, ordered) in
      let old_part : take from old ≡ take from (drop at s) = ap (λ (m : ℕ). take m old) (sym before_is) ∙ was ∙ ap (λ (m : ℕ). take m (drop at s)) before_is in
      let new_part : take k (drop (page * PAGE_SIZE + start) s) ≡ take k (drop from (drop at s)) = ap (λ (m : ℕ). take k (drop m s)) starts ∙ ap (take k) (sym (drop-drop from at s)) in
      ap (λ (m : ℕ). take m new) after_is
      ∙ ap (take to) put
      ∙ take-put_mid from k old room to (omega (arith, sum, room_long)) (omega (arith, long, ordered, ends))
      ∙ ap (λ (l : Bytes). l ++ room) old_part
      ∙ ap (λ (l : Bytes). take from (drop at s) ++ l) (read ∙ new_part)
      ∙ sym (take-add from k (drop at s))
      ∙ ap (λ (m : ℕ). take m (drop at s)) (sym sum ∙ sym after_is)

  pub write_more : (s mid new w : Bytes) → length w ≡ n → at + n ≤ length s → mid ≡ with_bytes_at s at (take (before at n page) w) → new ≡ with_bytes_at mid (page * PAGE_SIZE + start) (take (to - from) (drop from w)) → new ≡ with_bytes_at s at (take (before at n (page + 1)) w)
  write_more s mid new w long within was is_now =
      let k : ℕ = to - from in
      let a : Bytes = take from w in
      let c : Bytes = take k (drop from w) in
      let sum : to ≡ from + k = omega (arith, ordered) in
      let a_long : length a ≡ from = omega (arith, length-take from w, long, ordered, ends) in
      let place : page * PAGE_SIZE + start ≡ at + length a = starts ∙ ap (λ (m : ℕ). at + m) (sym a_long) in
      let mid_is : mid ≡ with_bytes_at s at a = was ∙ ap (λ (m : ℕ). with_bytes_at s at (take m w)) before_is in
      is_now
      ∙ ap (λ (l : Bytes). with_bytes_at l (page * PAGE_SIZE + start) c) mid_is
      ∙ ap (λ (m : ℕ). with_bytes_at (with_bytes_at s at a) m c) place
      ∙ overwritten_more s a c at (omega (arith, a_long, within, ordered, ends))
      ∙ ap (λ (l : Bytes). with_bytes_at s at l) (sym (take-add from k w))
      ∙ ap (λ (m : ℕ). with_bytes_at s at (take m w)) (sym sum ∙ sym after_is)

  pub partly_is : nat_lt (to - from) PAGE_SIZE ≡ is_filled_in_part at n page
  partly_is = go (le_or_lt at (page * PAGE_SIZE)) (le_or_lt (page * PAGE_SIZE + PAGE_SIZE) (at + n))
    where
      go : (at ≤ page * PAGE_SIZE) ⊎ (page * PAGE_SIZE < at) → (page * PAGE_SIZE + PAGE_SIZE ≤ at + n) ⊎ (at + n < page * PAGE_SIZE + PAGE_SIZE) → nat_lt (to - from) PAGE_SIZE ≡ is_filled_in_part at n page
      go (inr low) high =
          lt-ltb (to - from) PAGE_SIZE (omega (arith, is.from_is, is.to_is, low, soon, reached))
          ∙ sym (ap (λ (b : Bool). b || nat_lt (at + n) (page * PAGE_SIZE + PAGE_SIZE)) (lt-ltb (page * PAGE_SIZE) at low))
      go (inl low) (inr high) =
          lt-ltb (to - from) PAGE_SIZE (omega (arith, is.from_is, is.to_is, low, high))
          ∙ sym (ap (λ (b : Bool). b || nat_lt (at + n) (page * PAGE_SIZE + PAGE_SIZE)) (le-ltb (page * PAGE_SIZE) at low) ∙ lt-ltb (at + n) (page * PAGE_SIZE + PAGE_SIZE) high)
      go (inl low) (inl high) =
          le-ltb (to - from) PAGE_SIZE (omega (arith, is.from_is, is.to_is, low, high))
          ∙ sym (ap (λ (b : Bool). b || nat_lt (at + n) (page * PAGE_SIZE + PAGE_SIZE)) (le-ltb (page * PAGE_SIZE) at low) ∙ le-ltb (at + n) (page * PAGE_SIZE + PAGE_SIZE) high)

-- ---- pages of a range

pub has_in : (n s page : ℕ) → s ≤ page → page < s + n → has_page page (range_with_len s n) ≡ true
has_in zero s page low high = absurd (omega arith)
has_in (suc n) s page low high = go (has_in n (s + 1) page) (cases_eq s page)
  where
    go : (s + 1 ≤ page → page < s + 1 + n → has_page page (range_with_len (s + 1) n) ≡ true) → (s ≡ page) ⊎ (s ≢ page) → has_page page (range_with_len s (suc n)) ≡ true
    go later (inl is) = ap (λ (b : Bool). b || has_page page (range_with_len (s + 1) n)) (eq-eqb s page is)
    go later (inr ne) = let e : (s == page) ≡ false = grind arith in ap (λ (b : Bool). b || has_page page (range_with_len (s + 1) n)) e ∙ later (omega arith) (omega arith)

pub has_out : (n s page : ℕ) → (page < s) ⊎ (s + n ≤ page) → has_page page (range_with_len s n) ≡ false
has_out zero s page out = refl
has_out (suc n) s page out = go (has_out n (s + 1) page) out
  where
    go : ((page < s + 1) ⊎ (s + 1 + n ≤ page) → has_page page (range_with_len (s + 1) n) ≡ false) → (page < s) ⊎ (s + suc n ≤ page) → has_page page (range_with_len s (suc n)) ≡ false
    go later (inl low) = let e : (s == page) ≡ false = grind arith in ap (λ (b : Bool). b || has_page page (range_with_len (s + 1) n)) e ∙ later (inl (omega arith))
    go later (inr high) = let e : (s == page) ≡ false = grind arith in ap (λ (b : Bool). b || has_page page (range_with_len (s + 1) n)) e ∙ later (inr (omega arith))

-- the pages of the layers that a write of one page reads
pub write_amount : (at n page from to start : ℕ) (is : IsPiece at n page from to start) → at < page * PAGE_SIZE + PAGE_SIZE → page * PAGE_SIZE < at + n → (w : Bytes) → length w ≡ n → (old mid : Maps) (id : ℕ) → own_at mid id page ≡ own_at old id page
    → cond (nat_lt (length (take (to - from) (drop from w))) PAGE_SIZE && is_foreign mid id page) PAGE_SIZE 0 ≡ PAGE_SIZE * cond (is_filled_in_part at n page && is_foreign old id page) 1 0
write_amount at n page from to start is soon reached w long old mid id same =
    let part : ℕ = length (take (to - from) (drop from w)) in
    amount_write (nat_lt part PAGE_SIZE && is_foreign mid id page)
    ∙ ap (λ (k : ℕ). PAGE_SIZE * cond (nat_lt k PAGE_SIZE && is_foreign mid id page) 1 0) (part_long at n page from to start is soon reached w long)
    ∙ ap (λ (b : Bool). PAGE_SIZE * cond (b && is_foreign mid id page) 1 0) (partly_is at n page from to start is soon reached)
    ∙ ap (λ (o : Option OwnPage). PAGE_SIZE * cond (is_filled_in_part at n page && not (is_some o)) 1 0) same

pub all_before : (at n behind : ℕ) → n ≤ behind * PAGE_SIZE - at → before at n behind ≡ n
all_before at n behind covers = omega (arith, covers)

-- nothing stands before the first page
pub none_before : (at n first : ℕ) → first * PAGE_SIZE ≤ at → before at n first ≡ 0
none_before at n first begins = omega (arith, begins)
