-- What each call makes of the memory that a map is.
use Rattle.std.proofs.Common.{◌≡◌, ◌≢◌, ℕ, ◌+◌, ◌*◌, ◌<◌, ◌≤◌, ◌==◌, nat_lt, nat_eq, Bool, true, false, cond, List, [], ◌∷◌, ◌++◌, length, take, drop, Option, Some, None, inl, inr, refl, sym, ◌∙◌, ap, subst, arith}
use Rattle.std.proofs.lemmas.Bool.{cases_Bool, cases_eq, ne_eqb, eq-eqb, lt-ltb, ltb-false}
use Rattle.std.proofs.lemmas.Grind.{div_ceil_times}
use Rattle.std.specs.List.{list_any}
use Rattle.format_spec.specs.Bytes.{Bytes}
use Rattle.format_spec.specs.declared.limits.TheConstants.{PAGE_SIZE}
use Rattle.state_spec.specs.State.{Memory}
use Rattle.state_spec.specs.Memory.{grow, read, write, pages_between, with_bytes_at, zeros}
use Rattle.state_spec.proofs.Edits.{extended_enough, overwritten_none}
use Rattle.state_spec.proofs.Memories.{write_none, write_bytes, write_rounds, end_of}
use Rattle.state_spec.proofs.Rounds.{stamped_find}
use Rattle.page_spec.specs.Layers.{Layer, has_page}
use Rattle.disk_model.specs.Files.{Files}
use Rattle.page_file.specs.Files.{NumberedFile}
use Rattle.layer_stack.specs.Stacks.{AreLayers}
use Rattle.page_map.specs.Maps.{OwnPage, Maps, Map, own_at, stamp_of, if_after}
use Rattle.page_map.specs.Reads.{IsLive}
use Rattle.page_map.specs.Changes.{SameMaps, KeepsOthers}
use Rattle.page_map.specs.Pieces.{touched_pages}
use Rattle.page_map.specs.Calls.{ReadsFrom, SameShape, Overwrites, Stamps, Grows, Rebases, HaveRest, ReadAlike}
use Rattle.page_map.specs.Plain.{plain}
use Rattle.page_map.specs.Memories.{IsMemoryOf, if_above, round_above}
use Rattle.page_map.specs.Laws.{memory_of_same}
use Rattle.page_map.proofs.Lives.{agree}
use Rattle.page_map.proofs.Written.{live_long}

-- ---- rounds

same_test : (q p : ℕ) → nat_eq q p ≡ (p == q)
same_test q p = elim (cases_eq p q) [
  | inl is ↦ eq-eqb q p (sym is) ∙ sym (eq-eqb p q is)
  | inr ne ↦ ne_eqb q p (λ e. ne (sym e)) ∙ sym (ne_eqb p q ne)
]

same_pages : (q : ℕ) (pages : List ℕ) → list_any (nat_eq q) pages ≡ has_page q pages
same_pages q [] = refl
same_pages q (p ∷ pages) = rw (same_test q p, same_pages q pages) refl

touched_some : (at n : ℕ) → 0 < n → touched_pages at n ≡ pages_between at n
touched_some at n some = let none : (n == 0) ≡ false = ne_eqb n 0 (λ e. omega (arith, e)) in rw none refl

above_stamped : (b stamp : ℕ) (is : Bool) (o : Option ℕ) → b < stamp → cond is (Some stamp) (if_above b o) ≡ if_above b (cond is (Some stamp) o)
above_stamped b stamp true o lt = let e : nat_lt b stamp ≡ true = lt-ltb b stamp lt in rw e refl
above_stamped b stamp false o lt = refl

round_written : (b stamp at : ℕ) (w : Bytes) (memory : Memory) (page : ℕ) → b < stamp → cond (has_page page (touched_pages at (length w))) (Some stamp) (round_above b memory page) ≡ round_above b (write stamp memory at w) page
round_written b stamp at [] memory page lt = ap (λ (m : Memory). round_above b m page) (sym (write_none stamp memory at))
round_written b stamp at (byte ∷ w) memory page lt =
    let some : 0 < length (byte ∷ w) = omega arith in
    let pages = pages_between at (length (byte ∷ w)) in
    ap (λ (l : List ℕ). cond (has_page page l) (Some stamp) (round_above b memory page)) (touched_some at (length (byte ∷ w)) some)
    ∙ ap (λ (is : Bool). cond is (Some stamp) (round_above b memory page)) (sym (same_pages page pages))
    ∙ above_stamped b stamp (list_any (nat_eq page) pages) _ lt
    ∙ ap (if_above b) (sym (stamped_find stamp pages memory.rounds page))
    ∙ sym (ap (λ rounds. round_above b (record { bytes = []; rounds = rounds }) page) (write_rounds stamp memory at (byte ∷ w) some))

stamp_after : (c : ℕ) (o : Option OwnPage) → stamp_of (if_after c o) ≡ if_above c (stamp_of o)
stamp_after c None = refl
stamp_after c (Some own) = elim (cases_Bool (nat_lt c own.stamp)) [ inl is ↦ rw is refl | inr not ↦ rw not refl ]

above_both : (b c : ℕ) (o : Option ℕ) → b ≤ c → if_above c (if_above b o) ≡ if_above c o
above_both b c None le = refl
above_both b c (Some round) le = elim (cases_Bool (nat_lt b round)) [
  | inl is ↦ rw is refl
  | inr not ↦ let e : nat_lt c round ≡ false = grind (arith, ltb-false b round not) in rw (not, e) refl
]

-- ---- bytes

write_within : (stamp : ℕ) (memory : Memory) (count at : ℕ) (w : Bytes) → length memory.bytes ≡ count * PAGE_SIZE → at + length w ≤ count * PAGE_SIZE → (write stamp memory at w).bytes ≡ with_bytes_at memory.bytes at w
write_within stamp memory count at [] long within = ap (λ (m : Memory). m.bytes) (write_none stamp memory at) ∙ sym (overwritten_none memory.bytes at)
write_within stamp memory count at (byte ∷ w) long within =
    let ends = div_ceil_times (at + length (byte ∷ w)) 4096 (omega arith) in
    write_bytes stamp memory at (byte ∷ w) (omega arith) ∙ ap (λ (s : Bytes). with_bytes_at s at (byte ∷ w)) (extended_enough memory.bytes (end_of at (byte ∷ w)) (omega (arith, long, within, ends.1)))

-- ---- calls

pub read_memory : (files : Files) (maps : Maps) (m : Map) (b : ℕ) (memory : Memory) → IsMemoryOf files b (plain maps m) memory → (at count : ℕ) (bytes : Bytes) → ReadsFrom files maps m at count bytes → bytes ≡ read memory at count
read_memory files maps m b memory is at count bytes reads = reads is.reads.layers is.reads.there ∙ ap (λ (s : Bytes). take count (drop at s)) (sym is.reads.same)

module _ (files : Files) (old new : Maps) (m n : Map) (b : ℕ) (memory : Memory) (is : IsMemoryOf files b (plain old m) memory) where
  pub written_memory : (stamp at : ℕ) (w : Bytes) → IsLive old m → at + length w ≤ m.length * PAGE_SIZE → b < stamp → Overwrites files old new m n at w → Stamps old new m n at (length w) stamp → SameShape m n
      → IsMemoryOf files b (plain new n) (write stamp memory at w)
  written_memory stamp at w live within lt bytes stamps shape = record {
    reads = record {
      layers = is.reads.layers;
      there = subst (λ (stack : List NumberedFile). AreLayers files stack is.reads.layers) (sym shape.0) is.reads.there;
      same = write_within stamp memory m.length at w (ap (λ (s : Bytes). length s) is.reads.same ∙ live_long old m files is.reads.layers live is.reads.there) within
          ∙ ap (λ (s : Bytes). with_bytes_at s at w) is.reads.same ∙ sym (bytes is.reads.layers is.reads.there);
    };
    rounds = λ page. stamps page ∙ ap (λ (o : Option ℕ). cond (has_page page (touched_pages at (length w))) (Some stamp) o) (is.rounds page) ∙ round_written b stamp at w memory page lt;
  }

  pub rebased_memory : (c : ℕ) (after : List Layer) → b ≤ c → AreLayers files n.stack after → ((before : List Layer) → AreLayers files m.stack before → HaveRest before after old m c) → Rebases old new m n c
      → ((page : ℕ) → own_at new n.id page ≡ if_after c (own_at old m.id page)) → IsMemoryOf files c (plain new n) memory
  rebased_memory c after le there rest bytes own = record {
    reads = record { layers = after; there = there; same = is.reads.same ∙ sym (bytes is.reads.layers after (rest is.reads.layers is.reads.there)) };
    rounds = λ page. ap stamp_of (own page) ∙ stamp_after c (own_at old m.id page) ∙ ap (if_above c) (is.rounds page) ∙ above_both b c _ le;
  }

  pub other_memory : (id : ℕ) → KeepsOthers old new id → m.id ≢ id → IsLive old m → IsMemoryOf files b (plain new m) memory
  other_memory id keeps ne live = memory_of_same files b (plain old m) (plain new m) memory (record { stack = refl; length = refl; own = λ page. keeps.own m.id page ne live.live }) is

  pub refused_memory : SameMaps old new → IsMemoryOf files b (plain new m) memory
  refused_memory same = memory_of_same files b (plain old m) (plain new m) memory (record { stack = refl; length = refl; own = λ page. same.own m.id page }) is

  pub forked_memory : SameShape m n → ((page : ℕ) → own_at new n.id page ≡ own_at old m.id page) → IsMemoryOf files b (plain new n) memory
  forked_memory shape own = memory_of_same files b (plain old m) (plain new n) memory (record { stack = shape.0; length = shape.1; own = own }) is

module _ (files : Files) (maps : Maps) (m : Map) (b : ℕ) (memory : Memory) (is : IsMemoryOf files b (plain maps m) memory) where
  pub grown_memory : (count : ℕ) → Grows maps m (record m { length = m.length + count }) count → IsMemoryOf files b (plain maps (record m { length = m.length + count })) (grow memory count)
  unfolding grow
  grown_memory count bytes = record {
    reads = record {
      layers = is.reads.layers;
      there = is.reads.there;
      same = ap (λ (s : Bytes). s ++ zeros (count * PAGE_SIZE)) is.reads.same ∙ sym (bytes files is.reads.layers is.reads.there);
    };
    rounds = is.rounds;
  }

  pub restacked_memory : (stack : List NumberedFile) (after : List Layer) → AreLayers files stack after → ((before : List Layer) → AreLayers files m.stack before → ReadAlike m.length after before) → IsMemoryOf files b (plain maps (record m { stack = stack })) memory
  restacked_memory stack after there alike = record {
    reads = record { layers = after; there = there; same = is.reads.same ∙ sym (agree maps m after is.reads.layers (alike is.reads.layers is.reads.there)) };
    rounds = is.rounds;
  }
