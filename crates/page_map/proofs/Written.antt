-- What a write, a growth or another stack makes of a map.
use Rattle.std.proofs.Common.{◌≡◌, ◌≢◌, ◌⊎◌, inl, inr, ℕ, zero, suc, ◌+◌, ◌-◌, ◌*◌, ◌<◌, ◌≤◌, ◌==◌, nat_lt, Bool, true, false, not, cond, List, [], ◌∷◌}
use Rattle.std.proofs.Common.{◌++◌, length, reverse, replicate, take, drop, position, Option, Some, None, IsSome, is_some, Result, Ok, Err, IfOk, Vec, Global, refl, sym, ◌∙◌, ap, subst, arith}
use Rattle.std.proofs.lemmas.Bool.{cases_eq, le-ltb}
use Rattle.std.proofs.lemmas.List.{append-nil, drop_all, reverse-append, replicate-append-replicate}
use Rattle.std.proofs.lemmas.Option.{same_Some}
use Rattle.std.specs.List.{AllByRecursion, filter, flat_map, range_with_len, prefix_len}
use Rattle.byte_codec.specs.declared.error.NoMemory.{NoMemory}
use Rattle.format_spec.specs.Bytes.{Bytes}
use Rattle.format_spec.proofs.Lists.{all_reversed}
use Rattle.format_spec.specs.declared.limits.TheConstants.{PAGE_SIZE, MAX_MEMORY_PAGES}
use Rattle.state_spec.specs.Memory.{with_bytes_at, zeros}
use Rattle.page_spec.specs.Layers.{Layer, page_from, memory_from}
use Rattle.page_spec.specs.Layers.{has_page}
use Rattle.disk_model.specs.Files.{Files}
use Rattle.page_file.specs.Files.{NumberedFile}
use Rattle.layer_stack.specs.Stacks.{AreLayers, EndBy}
use Rattle.page_map.specs.Maps.{OwnPage, Maps, Map, owns_at, own_at, stamp_of, is_after, if_after}
use Rattle.page_map.specs.Reads.{page_of, bytes_with, bytes_of, dirty_of, AreWhole, IsLive}
use Rattle.page_map.specs.Changes.{ChangesOnly, Adds, Puts, Drops, Writes}
use Rattle.page_map.specs.Calls.{HaveRest}
use Rattle.page_map.specs.Pieces.{touched_pages}
use Rattle.page_map.proofs.Ranges.{has_in, has_out}
use Rattle.page_map.proofs.Whole.{page_of_long, same_pages, split, pages_long, page_bytes, page_written}

le_or_lt : (a b : ℕ) → (a ≤ b) ⊎ (b < a)
le_or_lt a b = go (b - a) refl
  where
    go : (k : ℕ) → b - a ≡ k → (a ≤ b) ⊎ (b < a)
    go zero e = elim (cases_eq a b) [ inl is ↦ inl (omega arith) | inr ne ↦ inr (omega arith) ]
    go (suc k) e = inl (omega arith)

-- ---- bytes

pub bytes_long : (files : Files) (stack : List NumberedFile) (layers : List Layer) → AreLayers files stack layers → (own : ℕ → Option OwnPage) → AreWhole own → (count : ℕ) → length (bytes_with layers own count) ≡ count * PAGE_SIZE
unfolding bytes_with
bytes_long files stack layers are own whole count = pages_long (λ page. page_of layers (own page) page) (page_of_long files stack layers are own whole) count

pub bytes_piece : (files : Files) (stack : List NumberedFile) (layers : List Layer) → AreLayers files stack layers → (own : ℕ → Option OwnPage) → AreWhole own → (page count start m : ℕ) → page < count → start + m ≤ PAGE_SIZE
    → take m (drop (page * PAGE_SIZE + start) (bytes_with layers own count)) ≡ take m (drop start (page_of layers (own page) page))
unfolding bytes_with
bytes_piece files stack layers are own whole = page_bytes (λ page. page_of layers (own page) page) (page_of_long files stack layers are own whole)

pub bytes_put : (files : Files) (stack : List NumberedFile) (layers : List Layer) → AreLayers files stack layers → (old new : ℕ → Option OwnPage) → AreWhole old → (page count start : ℕ) (w : Bytes) → ((q : ℕ) → q ≢ page → new q ≡ old q)
    → page_of layers (new page) page ≡ with_bytes_at (page_of layers (old page) page) start w → page < count → start + length w ≤ PAGE_SIZE → bytes_with layers new count ≡ with_bytes_at (bytes_with layers old count) (page * PAGE_SIZE + start) w
unfolding bytes_with
bytes_put files stack layers are old new whole page count start w same here lt le =
    page_written (λ page. page_of layers (old page) page) (page_of_long files stack layers are old whole) (λ page. page_of layers (new page) page) page count start w
    (λ q ne. ap (λ (o : Option OwnPage). page_of layers o q) (same q ne)) here lt le

pub overwritten_whole : (x w : Bytes) (start : ℕ) → length x ≡ PAGE_SIZE → length w ≡ PAGE_SIZE → start + length w ≤ PAGE_SIZE → with_bytes_at x start w ≡ w
overwritten_whole x w start x_long w_long le =
    let z : start ≡ 0 = omega (arith, w_long, le) in
    ap (λ (n : ℕ). take n x ++ w ++ drop (start + length w) x) z
    ∙ ap (λ (l : Bytes). w ++ l) (drop_all (start + length w) x (omega (arith, x_long, w_long)))
    ∙ append-nil w

-- ---- pages that are written

pub writes_none : (own : ℕ → Option OwnPage) (stamp first : ℕ) → Writes own own stamp first first
writes_none own stamp first = record {
  done = λ page low high. absurd (omega arith);
  before = λ page low. refl;
  rest = λ page high. refl;
}

pub writes_more : (old : ℕ → Option OwnPage) (mid new : Maps) (id stamp first page : ℕ) (bytes : Bytes) → first ≤ page → length bytes ≡ PAGE_SIZE → Writes old (own_at mid id) stamp first page → Puts mid new id page (record { bytes = bytes; stamp = stamp })
    → Writes old (own_at new id) stamp first (page + 1)
writes_more old mid new id stamp first page bytes le long was puts = record {
  done = λ q low high. go q low high (cases_eq q page);
  before = λ q low. puts.rest q (λ e. absurd (omega arith)) ∙ was.before q low;
  rest = λ q high. puts.rest q (λ e. absurd (omega arith)) ∙ was.rest q (omega arith);
}
  where
    go : (q : ℕ) → first ≤ q → q < page + 1 → (q ≡ page) ⊎ (q ≢ page) → (o : OwnPage) × (own_at new id q ≡ Some o) × (o.stamp ≡ stamp) × (length o.bytes ≡ PAGE_SIZE)
    go q low high (inl is) = (record { bytes = bytes; stamp = stamp }, ap (own_at new id) is ∙ puts.here, refl, long)
    go q low high (inr ne) = let before = was.done q low (omega arith) in (before.0, puts.rest q ne ∙ before.1, before.2, before.3)

pub writes_one : (old new : Maps) (id stamp page : ℕ) (bytes : Bytes) → length bytes ≡ PAGE_SIZE → Puts old new id page (record { bytes = bytes; stamp = stamp }) → Writes (own_at old id) (own_at new id) stamp page (page + 1)
writes_one old new id stamp page bytes long puts = writes_more (own_at old id) old new id stamp page page bytes (omega arith) long (writes_none (own_at old id) stamp page) puts

pub writes_along : (f g f1 g1 : ℕ → Option OwnPage) (stamp first behind : ℕ) → ((q : ℕ) → f1 q ≡ f q) → ((q : ℕ) → g1 q ≡ g q) → Writes f g stamp first behind → Writes f1 g1 stamp first behind
writes_along f g f1 g1 stamp first behind fs gs w = record {
  done = λ q low high. let d = w.done q low high in (d.0, gs q ∙ d.1, d.2, d.3);
  before = λ q low. gs q ∙ w.before q low ∙ sym (fs q);
  rest = λ q high. gs q ∙ w.rest q high ∙ sym (fs q);
}

module _ (old new : ℕ → Option OwnPage) (stamp first behind : ℕ) (w : Writes old new stamp first behind) where
  -- a page is written or as before
  at_page : (q : ℕ) → ((first ≤ q) × (q < behind)) ⊎ (((q < first) ⊎ (behind ≤ q)) × (new q ≡ old q))
  at_page q = elim (le_or_lt first q) [
    | inl low ↦ elim (le_or_lt behind q) [ inl high ↦ inr (inr high, w.rest q high) | inr lt ↦ inl (low, lt) ]
    | inr lt ↦ inr (inl lt, w.before q lt)
  ]

  pub written_whole : AreWhole old → AreWhole new
  written_whole whole q o is = elim (at_page q) [
    | inl there ↦ let d = w.done q there.0 there.1 in ap (λ (p : OwnPage). length p.bytes) (same_Some o d.0 (sym is ∙ d.1)) ∙ d.3
    | inr same ↦ whole q o (sym same.1 ∙ is)
  ]

  pub written_within : (count : ℕ) → behind ≤ count → ((q : ℕ) (o : OwnPage) → old q ≡ Some o → q < count) → (q : ℕ) (o : OwnPage) → new q ≡ Some o → q < count
  written_within count le within q o is = elim (at_page q) [
    | inl there ↦ let lt = there.1 in omega (arith, lt, le)
    | inr same ↦ within q o (sym same.1 ∙ is)
  ]

  pub written_stamps : (at n : ℕ) → first ≤ behind → touched_pages at n ≡ range_with_len first (behind - first) → (q : ℕ) → stamp_of (new q) ≡ cond (has_page q (touched_pages at n)) (Some stamp) (stamp_of (old q))
  written_stamps at n le are q =
      let e : first + (behind - first) ≡ behind = omega (arith, le) in
      elim (at_page q) [
        | inl there ↦
            let d = w.done q there.0 there.1 in
            let lt = there.1 in
            ap (λ (o : Option OwnPage). stamp_of o) d.1 ∙ ap (λ (s : ℕ). Some s) d.2
            ∙ ap (λ (b : Bool). cond b (Some stamp) (stamp_of (old q))) (sym (ap (has_page q) are ∙ has_in (behind - first) first q there.0 (omega (arith, lt, e))))
        | inr same ↦
            ap (λ (o : Option OwnPage). stamp_of o) same.1
            ∙ ap (λ (b : Bool). cond b (Some stamp) (stamp_of (old q))) (sym (ap (has_page q) are ∙ has_out (behind - first) first q (out q same.0)))
      ]
    where
      out : (q : ℕ) → (q < first) ⊎ (behind ≤ q) → (q < first) ⊎ (first + (behind - first) ≤ q)
      out q (inl low) = inl low
      out q (inr high) = inr (omega (arith, high, le))

pub written_live : (old new : Maps) (m n : Map) (stamp first behind : ℕ) → IsLive old m → Writes (own_at old m.id) (own_at new n.id) stamp first behind → behind ≤ m.length → IsSome (owns_at new n.id) → n.stack ≡ m.stack → n.length ≡ m.length → IsLive new n
written_live old new m n stamp first behind is w le live stack len = record {
  live = live;
  whole = written_whole (own_at old m.id) (own_at new n.id) stamp first behind w is.whole;
  within = λ page o own. subst (λ (k : ℕ). page < k) (sym len) (written_within (own_at old m.id) (own_at new n.id) stamp first behind w m.length le is.within page o own);
  layers_within = rw (stack, len) is.layers_within;
  few = rw len is.few;
}

pub only_then : (old mid new : Maps) (id : ℕ) → ChangesOnly old mid id → ChangesOnly mid new id → ChangesOnly old new id
only_then old mid new id first second = record {
  live = λ other ne. second.live other ne ∙ first.live other ne;
  own = λ other page ne. second.own other page ne ∙ first.own other page ne;
}

pub apart : (maps : Maps) (id other : ℕ) → owns_at maps other ≡ None → IsSome (owns_at maps id) → other ≢ id
apart maps id other dead live e = contra (sym live ∙ ap (λ (n : ℕ). is_some (owns_at maps n)) (sym e) ∙ ap (λ o. is_some o) dead)
  where
    contra : true ≡ false → ⊥
    contra x = cc

-- ---- growth

end_later : (a b : ℕ) (stack : List NumberedFile) → a ≤ b → EndBy a stack → EndBy b stack
end_later a b [] le ends = tt
end_later a b (file ∷ stack) le ends = (pages file.index.numbers ends.0, end_later a b stack le ends.1)
  where
    pages : (ps : List ℕ) → AllByRecursion (λ page. page < a) ps → AllByRecursion (λ page. page < b) ps
    pages [] all = tt
    pages (p ∷ ps) all = (let lt : p < a = all.0 in omega arith, pages ps all.1)

pub grown_live : (maps : Maps) (m : Map) (n : ℕ) → IsLive maps m → m.length + n ≤ MAX_MEMORY_PAGES → IsLive maps (record m { length = m.length + n })
grown_live maps m n is few = record {
  live = is.live;
  whole = is.whole;
  within = λ page o own. let lt = is.within page o own in omega (arith, lt);
  layers_within = end_later m.length (m.length + n) m.stack (omega arith) is.layers_within;
  few = few;
}

no_prefix : (end q : ℕ) (ps : List ℕ) → AllByRecursion (λ page. page < end) ps → end ≤ q → prefix_len (λ x. not (x == q)) ps ≡ length ps
no_prefix end q [] all le = refl
no_prefix end q (p ∷ ps) all le =
    let lt : p < end = all.0 in
    let e : (p == q) ≡ false = grind arith in
    let rest = no_prefix end q ps all.1 le in
    let one : 1 + length ps ≡ suc (length ps) = omega arith in
    ap (λ (b : Bool). cond (not b) (1 + prefix_len (λ x. not (x == q)) ps) 0) e ∙ ap (λ (n : ℕ). 1 + n) rest ∙ one

no_place : (end q : ℕ) (ps : List ℕ) → AllByRecursion (λ page. page < end) ps → end ≤ q → position (λ p. p == q) ps ≡ None
no_place end q ps all le =
    ap (λ (n : ℕ). cond (nat_lt n (length ps)) (Some n) None) (no_prefix end q ps all le)
    ∙ ap (λ (b : Bool). cond b (Some (length ps)) None) (le-ltb (length ps) (length ps) (omega arith))

abbrev LayersEnd : ℕ → List Layer → Type 0
LayersEnd end layers = AllByRecursion (λ l. AllByRecursion (λ page. page < end) l.index.numbers) layers

layers_end : (files : Files) (end : ℕ) (stack : List NumberedFile) (layers : List Layer) → AreLayers files stack layers → EndBy end stack → LayersEnd end layers
layers_end files end [] [] are ends = tt
layers_end files end [] (l ∷ layers) are ends = absurd are
layers_end files end (file ∷ stack) [] are ends = absurd are
layers_end files end (file ∷ stack) (l ∷ layers) are ends =
    (rw are.0.index ends.0, layers_end files end stack layers are.1 ends.1)

past_layers : (end q : ℕ) (layers : List Layer) → LayersEnd end layers → end ≤ q → page_from layers q ≡ replicate PAGE_SIZE 0
past_layers end q [] ends le = refl
past_layers end q (l ∷ layers) ends le = let e = no_place end q l.index.numbers ends.0 le in rw e (past_layers end q layers ends.1 le)

all_zeros : (f : ℕ → Bytes) (n s : ℕ) → ((q : ℕ) → s ≤ q → f q ≡ zeros PAGE_SIZE) → flat_map f (range_with_len s n) ≡ zeros (n * PAGE_SIZE)
all_zeros f zero s each = refl
all_zeros f (suc n) s each =
    let e : PAGE_SIZE + n * PAGE_SIZE ≡ suc n * PAGE_SIZE = omega arith in
    ap (λ (l : Bytes). l ++ flat_map f (range_with_len (s + 1) n)) (each s (omega arith))
    ∙ ap (λ (l : Bytes). zeros PAGE_SIZE ++ l) (all_zeros f n (s + 1) (λ q le. each q (omega arith)))
    ∙ replicate-append-replicate PAGE_SIZE (n * PAGE_SIZE) 0
    ∙ ap zeros e

pub grown_bytes : (maps : Maps) (m : Map) (n : ℕ) → IsLive maps m → (files : Files) (layers : List Layer) → AreLayers files m.stack layers → bytes_of layers maps (record m { length = m.length + n }) ≡ bytes_of layers maps m ++ zeros (n * PAGE_SIZE)
unfolding bytes_with
grown_bytes maps m n is files layers are =
    let f : ℕ → Bytes = λ page. page_of layers (own_at maps m.id page) page in
    let z : 0 + m.length ≡ m.length = omega arith in
    split f m.length n 0
    ∙ ap (λ (k : ℕ). flat_map f (range_with_len 0 m.length) ++ flat_map f (range_with_len k n)) z
    ∙ ap (λ (l : Bytes). flat_map f (range_with_len 0 m.length) ++ l) (all_zeros f n m.length (λ q le. go q le (own_at maps m.id q) refl))
  where
    go : (q : ℕ) → m.length ≤ q → (o : Option OwnPage) → own_at maps m.id q ≡ o → page_of layers o q ≡ zeros PAGE_SIZE
    go q le None e = past_layers m.length q (reverse layers) (all_reversed (λ l. AllByRecursion (λ page. page < m.length) l.index.numbers) layers (layers_end files m.length m.stack layers are is.layers_within)) le
    go q le (Some o) e = absurd (let lt = is.within q o e in omega (arith, lt, le))

-- ---- other layers

pub rebased : (old mid new : Maps) (m : Map) (kept b : ℕ) → IsLive old m → Adds old mid kept (λ page. if_after b (own_at old m.id page)) → Drops mid new m.id
    → (old_layers new_layers : List Layer) → HaveRest old_layers new_layers old m b → bytes_with new_layers (own_at new kept) m.length ≡ bytes_of old_layers old m
unfolding bytes_with
rebased old mid new m kept b is adds drops old_layers new_layers have =
    same_pages (λ page. page_of new_layers (own_at new kept page) page) (λ page. page_of old_layers (own_at old m.id page) page) m.length
    (λ page lt. ap (λ (o : Option OwnPage). page_of new_layers o page) (drops.others.own kept page (apart old m.id kept adds.fresh is.live) ∙ adds.here page) ∙ go page lt (own_at old m.id page) refl)
  where
    go : (page : ℕ) → page < m.length → (o : Option OwnPage) → own_at old m.id page ≡ o → page_of new_layers (if_after b o) page ≡ page_of old_layers o page
    go page lt None e = have page lt (ap (is_after b) e) ∙ ap (λ (o : Option OwnPage). page_of old_layers o page) e
    go page lt (Some o) e = by (nat_lt b o.stamp) refl
      where
        by : (t : Bool) → nat_lt b o.stamp ≡ t → page_of new_layers (cond t (Some o) None) page ≡ o.bytes
        by true is_true = refl
        by false is_false = have page lt (ap (is_after b) e ∙ is_false) ∙ ap (λ (o : Option OwnPage). page_of old_layers o page) e

pub dirty_is : (own maps : Maps) (id : ℕ) (m : Map) (b : ℕ) (r : Result (Vec ℕ Global) NoMemory) → own ≡ maps → id ≡ m.id → IsLive maps m
    → IfOk r (λ pages. (count : ℕ) → ((page : ℕ) (o : OwnPage) → own_at own id page ≡ Some o → page < count) → pages.items ≡ filter (λ page. is_after b (own_at own id page)) (range_with_len 0 count))
    → IfOk r (λ pages. pages.items ≡ dirty_of maps m b)
unfolding dirty_of
dirty_is own maps id m b (Err e) same id_is is h = tt
dirty_is own maps id m b (Ok v) same id_is is h =
    h m.length (λ page o at. is.within page o (sym (ap (λ (s : Maps). own_at s m.id page) same) ∙ ap (λ (n : ℕ). own_at own n page) (sym id_is) ∙ at))
    ∙ ap (λ (n : ℕ). filter (λ page. is_after b (own_at own n page)) (range_with_len 0 m.length)) id_is
    ∙ ap (λ (s : Maps). filter (λ page. is_after b (own_at s m.id page)) (range_with_len 0 m.length)) same

pub live_long : (maps : Maps) (m : Map) (files : Files) (layers : List Layer) → IsLive maps m → AreLayers files m.stack layers → length (bytes_of layers maps m) ≡ m.length * PAGE_SIZE
live_long maps m files layers is are = bytes_long files m.stack layers are (own_at maps m.id) is.whole m.length

pub of_layers : (maps : Maps) (m : Map) (layers : List Layer) → ((page : ℕ) → own_at maps m.id page ≡ None) → bytes_of layers maps m ≡ memory_from m.length layers
unfolding bytes_with memory_from
of_layers maps m layers none = same_pages (λ page. page_of layers (own_at maps m.id page) page) (page_from (reverse layers)) m.length (λ page lt. ap (λ (o : Option OwnPage). page_of layers o page) (none page))
