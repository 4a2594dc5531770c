-- Numbers that are given to page files, and what stays of the others.
use Rattle.std.proofs.Common.{◌≡◌, ℕ, zero, suc, length, take, map, sum_by, get_or, ◌+◌, ◌≤◌, ◌<◌, ◌==◌, Bool, true, false, ◌&&◌, ◌||◌, not, nat_eq, nat_lt, List, [], ◌∷◌, ◌++◌, is_some, Result, Ok, inl, inr, refl, sym, ap, subst, ◌∙◌, arith}
use Rattle.std.specs.List.{list_any, AllByRecursion, AllZip}
use Rattle.std.specs.Prelude.{IsOk}
use Rattle.std.proofs.lemmas.Bool.{cases_Bool, false≢true, or_from}
use Rattle.std.proofs.lemmas.Bool.Decides.{nat_tests}
use Rattle.format_spec.specs.Bytes.{Bytes}
use Rattle.disk_model.specs.declared.name.Kind.TheVariants as kind
use Rattle.disk_model.specs.declared.name.Name.{Name}
use Rattle.disk_model.specs.declared.name.Name.TheVariants as name
use Rattle.disk_model.specs.Files.{Files, IsListing, same_name}
use Rattle.disk_model.specs.declared.disk.Disk.{Ghosts}
use Rattle.disk_model.specs.declared.disk.DiskError.{DiskError}
use Rattle.disk_model.specs.View.{DiskView}
use Rattle.disk_model.specs.Laws.{same_name_eq}
use Rattle.disk_model.specs.Frame.{TouchesOnly}
use Rattle.disk_model.specs.Writing.{Writes, Wrote, write_then, write_wider}
use Rattle.page_file.specs.Files.{NumberedFile, IsAsKnown, IsFinished}
use Rattle.height_store.specs.Store.{Store, StoredHeight, IsNextFree, heights_in, is_used}
use Rattle.height_store.specs.Kept.{IsReadable, HasRoom, HasMark, HasStacks}
use Rattle.height_store.specs.Shown.{or_right, listing_apart}
use Rattle.height_store.specs.Written.{is_of}
use Rattle.std.proofs.lemmas.List.{take_more, map_push, take-map}
use Rattle.std.proofs.lemmas.List.Sums.{sum_by_push, sum_by-take-le}
use Rattle.store_spec.specs.Whole.{file_bytes}
use Rattle.whole_state.specs.Written.{GivesNumbers, IsWholeStack, is_given_for, is_given_since, AreFinished, AreUsed}
use Rattle.format_spec.proofs.Lists.{all_push, all_weaker, none_or_some}

-- ---- tests

apart_used : (new old : Bool) → old ≡ true → (new && not old) ≡ false
apart_used true true h = refl
apart_used false true h = refl
apart_used new false h = absurd (false≢true h)

apart_unused : (new old : Bool) → new ≡ false → (new && not old) ≡ false
apart_unused false old h = refl
apart_unused true old h = absurd (false≢true (sym h))

given_then : (new old : Bool) → new ≡ true → old ≡ false → (new && not old) ≡ true
given_then true false h k = refl
given_then true true h k = absurd (false≢true (sym k))
given_then false old h k = absurd (false≢true h)

parts_of : (new old : Bool) → (new && not old) ≡ false → (old ≡ false → new ≡ false)
parts_of true true h k = absurd (false≢true (sym k))
parts_of true false h k = absurd (false≢true (sym h))
parts_of false old h k = refl

back : (a b : Bool) → (a ≡ true → b ≡ true) → b ≡ false → a ≡ false
back true b step h = absurd (false≢true (sym h ∙ step refl))
back false b step h = refl

or_lt : (a : Bool) (n m k : ℕ) → m ≤ k → (a || nat_lt n m) ≡ true → (a || nat_lt n k) ≡ true
or_lt true n m k le h = refl
or_lt false n m k le h = grind (arith, nat_tests)

lt_next : (n : ℕ) → nat_lt n (n + 1) ≡ true
lt_next n = grind (arith, nat_tests)

not_below : (n m : ℕ) → m ≤ n → nat_lt n m ≡ false
not_below n m le = grind (arith, nat_tests)

-- ---- numbers that are used

pub used_more : (most : ℕ) (old new : Store) (n : ℕ) → GivesNumbers most old new → is_used old n ≡ true → is_used new n ≡ true
used_more most old new n gives used =
    or_lt (list_any (nat_eq n) new.named) n old.least_free new.least_free gives.next (subst (λ (ns : List ℕ). (list_any (nat_eq n) ns || nat_lt n old.least_free) ≡ true) (sym gives.named) used)

pub apart_from_used : (old new : Store) (n : ℕ) → is_used old n ≡ true → is_given_since old new (name.Page n) ≡ false
apart_from_used old new n used = apart_used (is_used new n) (is_used old n) used

-- the numbers given on the way are among those given in all
pub given_first : (most : ℕ) (old mid new : Store) (q : Name) → GivesNumbers most mid new → is_given_since old new q ≡ false → is_given_since old mid q ≡ false
given_first most old mid new (name.Page n) gives apart = elim (cases_Bool (is_used old n)) [
  | inl used ↦ apart_used (is_used mid n) (is_used old n) used
  | inr unused ↦ apart_unused (is_used mid n) (is_used old n) (back (is_used mid n) (is_used new n) (used_more most mid new n gives) (parts_of (is_used new n) (is_used old n) apart unused))
]
given_first most old mid new (name.Mark n) gives apart = refl
given_first most old mid new (name.Draft n) gives apart = refl
given_first most old mid new (name.Stage n) gives apart = refl

pub given_second : (most : ℕ) (old mid new : Store) (q : Name) → GivesNumbers most old mid → is_given_since old new q ≡ false → is_given_since mid new q ≡ false
given_second most old mid new (name.Page n) gives apart = elim (cases_Bool (is_used old n)) [
  | inl used ↦ apart_used (is_used new n) (is_used mid n) (used_more most old mid n gives used)
  | inr unused ↦ apart_unused (is_used new n) (is_used mid n) (parts_of (is_used new n) (is_used old n) apart unused)
]
given_second most old mid new (name.Mark n) gives apart = refl
given_second most old mid new (name.Draft n) gives apart = refl
given_second most old mid new (name.Stage n) gives apart = refl

pub gives_then : (most : ℕ) (old mid new : Store) → GivesNumbers most old mid → GivesNumbers 1 mid new → GivesNumbers (most + 1) old new
gives_then most old mid new first second = record {
  heights = second.heights ∙ first.heights;
  named = second.named ∙ first.named;
  next = omega (arith, first.next, second.next);
  given_least = omega (arith, first.given_least, second.given_least);
  given_most = omega (arith, first.given_most, second.given_most);
}

-- the next number
pub next_written : {D T : Type 0} (disk : Ghosts D) (result : Result T DiskError) (count : ℕ) (old new : Store) (number : ℕ) (before after : D) → IsNextFree old.named old.least_free number → new ≡ record old { numbers_given = old.numbers_given + 1; least_free = number + 1 }
    → Writes disk (same_name (name.Page number)) count before after result → Writes disk (is_given_since old new) count before after result
next_written disk result count old new number before after free is writes = write_wider disk result (same_name (name.Page number)) (is_given_since old new) count before after within writes
  where
    used : is_used new number ≡ true
    used = or_right (list_any (nat_eq number) new.named) (nat_lt number new.least_free) (subst (λ (n : ℕ). nat_lt number n ≡ true) (sym (ap (λ (s : Store). s.least_free) is)) (lt_next number))

    unused : is_used old number ≡ false
    unused = or_from (list_any (nat_eq number) old.named) (nat_lt number old.least_free) free.free (not_below number old.least_free free.not_before)

    within : (q : Name) → is_given_since old new q ≡ false → same_name (name.Page number) q ≡ false
    within q apart = elim (cases_Bool (same_name (name.Page number) q)) [
      | inl same ↦ absurd (false≢true (sym apart ∙ ap (is_given_since old new) (sym (same_name_eq (name.Page number) q same)) ∙ given_then (is_used new number) (is_used old number) used unused))
      | inr apart_name ↦ apart_name
    ]

-- ---- the store and its files

pub kept_used : (store : Store) (f : Files) (file : NumberedFile) → HasRoom store f → IsAsKnown f file → is_used store file.number ≡ true
kept_used store f file room kept = elim (cases_Bool (is_used store file.number)) [
  | inl used ↦ used
  | inr unused ↦ absurd (none_or_some kept.1.text (f (name.Page file.number)) (room file.number unused) kept.1.there)
]

module _ (most : ℕ) (old new : Store) (f g : Files) (gives : GivesNumbers most old new) (same : (q : Name) → is_given_since old new q ≡ false → g q ≡ f q) (room : HasRoom old f) where
  kept_here : (file : NumberedFile) → IsAsKnown f file → IsAsKnown g file
  kept_here file kept =
      (kept.0, record { text = kept.1.text; there = same (name.Page file.number) (apart_from_used old new file.number (kept_used old f file room kept)) ∙ kept.1.there; good = kept.1.good })

  -- what a store needs stays as page files of given numbers are written
  pub readable_kept : IsReadable old.heights f → IsReadable new.heights g
  readable_kept readable = record {
    listed = subst (λ (hs : List StoredHeight). IsListing kind.Mark g (heights_in hs)) (sym gives.heights) (listing_apart f g (heights_in old.heights) (λ n. same (name.Mark n) refl) readable.listed);
    marks = subst (AllByRecursion (HasMark g)) (sym gives.heights) (all_weaker (HasMark f) (HasMark g) (λ h mark. same (name.Mark h.mark.height) refl ∙ mark) old.heights readable.marks);
    stacks = subst (AllByRecursion (HasStacks g)) (sym gives.heights) (all_weaker (HasStacks f) (HasStacks g) (λ h stacks. all_weaker (AllByRecursion (IsAsKnown f)) (AllByRecursion (IsAsKnown g)) (all_weaker (IsAsKnown f) (IsAsKnown g) kept_here) h.stacks stacks) old.heights readable.stacks);
  }

  pub room_kept : HasRoom new g
  room_kept = λ n unused. same (name.Page n) (apart_unused (is_used new n) (is_used old n) unused) ∙ room n (back (is_used old n) (is_used new n) (used_more most old new n gives) unused)

-- ---- what a memory costs

pub empty_costs : (memory : Bytes) → true ≡ (length memory == 0) → 0 ≡ file_bytes memory
empty_costs memory is = rw (sym is) refl

pub some_costs : (memory : Bytes) → false ≡ (length memory == 0) → 32 + 12 + length memory ≡ file_bytes memory
some_costs memory is = rw (sym is) refl

pub counted_as : {D T : Type 0} (disk : Ghosts D) (result : Result T DiskError) (given : Name → Bool) (a b : ℕ) (old new : D) → a ≡ b → Writes disk given a old new result → Writes disk given b old new result
counted_as disk result given a b old new is writes = subst (λ n. Writes disk given n old new result) is writes

-- ---- memories one after another

pub record WritesSome (store : Store) (memories : List Bytes) (stacks : List (List NumberedFile)) (new : DiskView) : Type 0 where
  pub room : HasRoom store new.state.files
  pub finished : AllZip (AreFinished new.state) memories stacks

file_here : (mid store : Store) (bytes : Bytes) (old new : DiskView) → TouchesOnly (is_given_since mid store) old new → (file : NumberedFile) → is_used mid file.number ≡ true → IsFinished file bytes old.state → IsFinished file bytes new.state
file_here mid store bytes old new touches file used done =
    let apart = apart_from_used mid store file.number used in
    let reads = touches.reads (name.Page file.number) apart in
    let there = reads ∙ done.there.there in
    record {
      firm = record { there = ap is_some there; firm = touches.firm (name.Page file.number) apart done.firm.firm };
      there = record { text = done.there.text; there = there; good = done.there.good };
    }

stack_stays : (mid store : Store) (bytes : Bytes) (old new : DiskView) → TouchesOnly (is_given_since mid store) old new → (stack : List NumberedFile) → AreUsed mid stack → AreFinished old.state bytes stack → AreFinished new.state bytes stack
stack_stays mid store bytes old new touches [] used done = tt
stack_stays mid store bytes old new touches (file ∷ stack) used done = (file_here mid store bytes old new touches file used.0 done.0, stack_stays mid store bytes old new touches stack used.1 done.1)

stacks_stay : (mid store : Store) (old new : DiskView) → TouchesOnly (is_given_since mid store) old new → (memories : List Bytes) (stacks : List (List NumberedFile))
    → AllByRecursion (AreUsed mid) stacks → AllZip (AreFinished old.state) memories stacks → AllZip (AreFinished new.state) memories stacks
stacks_stay mid store old new touches [] [] used done = tt
stacks_stay mid store old new touches [] (stack ∷ stacks) used done = absurd done
stacks_stay mid store old new touches (bytes ∷ memories) [] used done = absurd done
stacks_stay mid store old new touches (bytes ∷ memories) (stack ∷ stacks) used done = (stack_stays mid store bytes old new touches stack used.0 done.0, stacks_stay mid store old new touches memories stacks used.1 done.1)

pub zip_push : {A B : Type 0} (R : A → B → Type 0) (xs : List A) (ys : List B) (x : A) (y : B) → AllZip R xs ys → R x y → AllZip R (xs ++ x ∷ []) (ys ++ y ∷ [])
zip_push R [] [] x y all last = (last, tt)
zip_push R [] (b ∷ ys) x y all last = absurd all
zip_push R (a ∷ xs) [] x y all last = absurd all
zip_push R (a ∷ xs) (b ∷ ys) x y all last = (all.0, zip_push R xs ys x y all.1 last)

used_stays : (most : ℕ) (old new : Store) (stack : List NumberedFile) → GivesNumbers most old new → AreUsed old stack → AreUsed new stack
used_stays most old new [] gives used = tt
used_stays most old new (file ∷ stack) gives used = (used_more most old new file.number gives used.0, used_stays most old new stack gives used.1)

pub all_used : (most : ℕ) (old new : Store) (stacks : List (List NumberedFile)) → GivesNumbers most old new → AllByRecursion (AreUsed old) stacks → AllByRecursion (AreUsed new) stacks
all_used most old new [] gives used = tt
all_used most old new (stack ∷ stacks) gives used = (used_stays most old new stack gives used.0, all_used most old new stacks gives used.1)

pub memory_written : {D T : Type 0} (disk : Ghosts D) (result : Result T DiskError) (i : ℕ) (first mid store : Store) (memories all : List Bytes) (bytes : Bytes) (old between new : D) → GivesNumbers i first mid → GivesNumbers 1 mid store → all ≡ memories ++ bytes ∷ []
    → Wrote disk (is_given_since first mid) (sum_by file_bytes memories) old between → Writes disk (is_given_since mid store) (file_bytes bytes) between new result → Writes disk (is_given_since first store) (sum_by file_bytes all) old new result
memory_written disk result i first mid store memories all bytes old between new before gives is so_far writes =
    write_then disk (Ok tt) result (is_given_since first store) (sum_by file_bytes memories) (file_bytes bytes) (sum_by file_bytes all) old between new refl (sym (ap (sum_by file_bytes) is ∙ sum_by_push file_bytes memories bytes))
    (write_wider disk (Ok tt) (is_given_since first mid) (is_given_since first store) (sum_by file_bytes memories) old between (λ q. given_first 1 first mid store q gives) so_far)
    (write_wider disk result (is_given_since mid store) (is_given_since first store) (file_bytes bytes) between new (λ q. given_second i first mid store q before) writes)

-- some of the memories cost no more than all
pub fewer_cost : {V : Type 0} (bytes : V → Bytes) (ms : List V) (i : ℕ) → sum_by file_bytes (map bytes (take i ms)) ≤ sum_by file_bytes (map bytes ms)
fewer_cost bytes ms i = omega (arith, sum_by-take-le file_bytes (map bytes ms) i, ap (sum_by file_bytes) (take-map bytes i ms))

-- one memory more
pub writes_more : (mid store : Store) (memories all : List Bytes) (bytes : Bytes) (stacks new_stacks : List (List NumberedFile)) (stack : List NumberedFile) (between new : DiskView)
    → GivesNumbers 1 mid store → AllByRecursion (AreUsed mid) stacks → all ≡ memories ++ bytes ∷ [] → new_stacks ≡ stacks ++ stack ∷ [] → TouchesOnly (is_given_since mid store) between new → AreFinished new.state bytes stack
    → WritesSome mid memories stacks between → WritesSome store all new_stacks new
writes_more mid store memories all bytes stacks new_stacks stack between new gives used is pushed touches done so_far = record {
  room = room_kept 1 mid store between.state.files new.state.files gives touches.reads so_far.room;
  finished = rw (is, pushed) (zip_push (AreFinished new.state) memories stacks bytes stack (stacks_stay mid store between new touches memories stacks used so_far.finished) done);
}

-- ---- one turn

pub gives_most : (n m : ℕ) (old new : Store) → n ≤ m → GivesNumbers n old new → GivesNumbers m old new
gives_most n m old new le gives = record { heights = gives.heights; named = gives.named; next = gives.next; given_least = gives.given_least; given_most = omega (arith, gives.given_most, le) }

pub taken_more : {V : Type 0} (bytes : V → Bytes) (ms : List V) (i : ℕ) (item : V) (now : Bytes) → i < length ms → item ≡ get_or ms i item → now ≡ bytes item → map bytes (take (i + 1) ms) ≡ map bytes (take i ms) ++ now ∷ []
taken_more bytes ms i item now lt is now_is =
    ap (map bytes) (take_more ms i item lt ∙ ap (λ x. take i ms ++ x ∷ []) (sym is)) ∙ map_push bytes (take i ms) item ∙ ap (λ b. map bytes (take i ms) ++ b ∷ []) (sym now_is)

pub at_place : {V : Type 0} (P : Bytes → Type 0) (bytes : V → Bytes) (ms : List V) (i : ℕ) (d : V) → i < length ms → AllByRecursion P (map bytes ms) → P (bytes (get_or ms i d))
at_place P bytes [] i d lt all = absurd (omega arith)
at_place P bytes (m ∷ ms) zero d lt all = all.0
at_place P bytes (m ∷ ms) (suc i) d lt all = at_place P bytes ms i d (omega arith) all.1

pub this_memory : {V : Type 0} (P : Bytes → Type 0) (bytes : V → Bytes) (ms : List V) (i : ℕ) (item : V) (now : Bytes) → i < length ms → item ≡ get_or ms i item → now ≡ bytes item → AllByRecursion P (map bytes ms) → P now
this_memory P bytes ms i item now lt is now_is all = subst P (sym (now_is ∙ ap bytes is)) (at_place P bytes ms i item lt all)

pub whole_more : (taken all : List Bytes) (now : Bytes) (stacks new : List (List NumberedFile)) (stack : List NumberedFile) → all ≡ taken ++ now ∷ [] → new ≡ stacks ++ stack ∷ [] → AllZip IsWholeStack taken stacks → IsWholeStack now stack → AllZip IsWholeStack all new
whole_more taken all now stacks new stack is pushed so_far here = rw (is, pushed) (zip_push IsWholeStack taken stacks now stack so_far here)

pub used_push : (old store : Store) (stacks new : List (List NumberedFile)) (stack : List NumberedFile) → new ≡ stacks ++ stack ∷ [] → GivesNumbers 1 old store → AllByRecursion (AreUsed old) stacks → AreUsed store stack → AllByRecursion (AreUsed store) new
used_push old store stacks new stack pushed gives used here = rw pushed (all_push (AreUsed store) stacks stack (all_used 1 old store stacks gives used) here)

-- ---- the names that are given in all

since_within : (old new : Store) (height : ℕ) (q : Name) → is_given_for old height q ≡ false → is_given_since old new q ≡ false
since_within old new height (name.Page n) apart = elim (cases_Bool (is_used old n)) [
  | inl used ↦ apart_used (is_used new n) (is_used old n) used
  | inr unused ↦ absurd (false≢true (sym apart ∙ ap not unused))
]
since_within old new height (name.Mark n) apart = refl
since_within old new height (name.Draft n) apart = refl
since_within old new height (name.Stage n) apart = refl

mark_within : (old : Store) (height : ℕ) (q : Name) → is_given_for old height q ≡ false → is_of height q ≡ false
mark_within old height (name.Page n) apart = refl
mark_within old height (name.Mark n) apart = apart
mark_within old height (name.Draft n) apart = apart
mark_within old height (name.Stage n) apart = apart

-- the page files
pub files_written : {D T : Type 0} (disk : Ghosts D) (result : Result T DiskError) (old mid : Store) (height count : ℕ) (before after : D) → Writes disk (is_given_since old mid) count before after result → Writes disk (is_given_for old height) count before after result
files_written disk result old mid height count before after writes = write_wider disk result (is_given_since old mid) (is_given_for old height) count before after (since_within old mid height) writes

-- and then the mark
pub mark_written : {D S T : Type 0} (disk : Ghosts D) (files : Result S DiskError) (result : Result T DiskError) (old mid : Store) (height own a b count : ℕ) (v0 v1 v2 : D) → IsOk files → own ≡ height → a + b ≡ count
    → Writes disk (is_given_since old mid) a v0 v1 files → Writes disk (is_of own) b v1 v2 result → Writes disk (is_given_for old height) count v0 v2 result
mark_written disk files result old mid height own a b count v0 v1 v2 ok is sum first second =
    write_then disk files result (is_given_for old height) a b count v0 v1 v2 ok sum (files_written disk files old mid height a v0 v1 first)
    (write_wider disk result (is_of own) (is_given_for old height) b v1 v2 (λ q apart. ap (λ n. is_of n q) is ∙ mark_within old height q apart) second)
