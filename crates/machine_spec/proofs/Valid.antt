-- A valid state of version 1 by its canisters, one by one, and its entries.
use Rattle.std.proofs.Common.{◌≡◌, ℕ, ◌+◌, ◌^◌, ◌<◌, ◌≤◌, Bool, true, false, not, cond, List, [], ◌∷◌, ◌++◌, map, filter, length, Some, refl, sym, ap, subst, ◌∙◌, arith, length-append}
use Rattle.std.proofs.lemmas.List.{length-map, map-append}
use Rattle.std.proofs.lemmas.List.Sums.{sum_by-append}
use Rattle.std.specs.FinMap.{find, put, is_sorted}
use Rattle.std.specs.FinMap.Entries.{by_order}
use Rattle.std.specs.List.{AllByRecursion}
use Rattle.std.specs.Ordering.{eq_by_cmp}
use Rattle.std.specs.declared.cmp.Ordering.{Ordering}
use Rattle.std.specs.declared.cmp.Ordering.TheVariants.{Less, Equal, Greater}
use Rattle.format_spec.specs.Bytes.{Bytes, bytes_cmp}
use Rattle.format_spec.specs.declared.limits.TheConstants.{MAX_CANISTERS}
use Rattle.format_spec.specs.Versions.{is_version, state_limit}
use Rattle.state_spec.specs.State.{State, Canister, CanisterPart, FitsCanister, IsSystem, IsMemory, IsByteCanister, AreEntries, IsState, all_pages, pages_in, part_of, system_of, without}
use Rattle.state_spec.proofs.Keys.{ids_apart, ids_total, is_sorted-over}
use Rattle.state_spec.proofs.Places.{parted, put_stands, sorted_put, sorted_without}
use Rattle.machine_spec.proofs.Canisters.{Canisters}
use Rattle.machine_spec.proofs.Keyed.{Found, found}
use Rattle.machine_spec.proofs.Lists.{of_map, to_map}
use Rattle.format_spec.proofs.Lists.{all_weaker, all_join, all_parts, all_filtered}

abbrev pub Named : Type 0
Named = Bytes × Canister

abbrev pub Entry : Type 0
Entry = List Bytes × Bytes

abbrev pub part : Named → Bytes × CanisterPart
part c = (c.0, part_of c.1)

-- what is so of each canister of a valid state of version 1
pub record IsGood (c : Named) : Type 0 where
  pub fits : FitsCanister 1 (part c)
  pub heap : IsMemory c.1.heap
  pub stable : IsMemory c.1.stable
  pub bytes : IsByteCanister c

-- the pages of all memories
abbrev pub pages : Canisters → ℕ
pages cs = all_pages (map part cs)

-- and of all of them
pub record AreGood (cs : Canisters) : Type 0 where
  pub few : length cs ≤ MAX_CANISTERS
  pub sorted : is_sorted bytes_cmp cs ≡ true
  pub each : AllByRecursion IsGood cs
  pub room : pages cs ≤ state_limit 1

-- ---- from a state, and back

goods_in : (cs : Canisters) → AllByRecursion (FitsCanister 1) (map part cs) → AllByRecursion (λ c. IsMemory c.1.heap × IsMemory c.1.stable) cs → AllByRecursion IsByteCanister cs → AllByRecursion IsGood cs
goods_in [] fits memories bytes = tt
goods_in (c ∷ cs) fits memories bytes = (record { fits = fits.0; heap = memories.0.0; stable = memories.0.1; bytes = bytes.0 }, goods_in cs fits.1 memories.1 bytes.1)

all_fit : (cs : Canisters) → AllByRecursion IsGood cs → AllByRecursion (FitsCanister 1) (map part cs)
all_fit [] all = tt
all_fit (c ∷ cs) all = (all.0.fits, all_fit cs all.1)

all_whole : (cs : Canisters) → AllByRecursion IsGood cs → AllByRecursion (λ c. IsMemory c.1.heap × IsMemory c.1.stable) cs
all_whole [] all = tt
all_whole (c ∷ cs) all = ((all.0.heap, all.0.stable), all_whole cs all.1)

all_bytes : (cs : Canisters) → AllByRecursion IsGood cs → AllByRecursion IsByteCanister cs
all_bytes [] all = tt
all_bytes (c ∷ cs) all = (all.0.bytes, all_bytes cs all.1)

of_version : (s : State) → IsState s → s.version ≡ 1 → IsSystem 1 (system_of s)
of_version s valid is = subst (λ (v : ℕ). IsSystem v (system_of s)) is valid.system

module _ (s : State) (valid : IsState s) (is : s.version ≡ 1) where
  pub time_of : s.time < 2 ^ 64
  unfolding system_of
  time_of = (of_version s valid is).time

  pub canisters_of : AreGood s.canisters
  unfolding system_of
  canisters_of =
      let all : IsSystem 1 (system_of s) = of_version s valid is in
      record {
        few = omega (arith, all.few_canisters, length-map s.canisters part);
        sorted = sym (is_sorted-over bytes_cmp part_of s.canisters) ∙ all.ids_ascend;
        each = goods_in s.canisters all.canisters_fit valid.memories valid.bytes.canisters;
        room = all.pages_fit;
      }

  pub entries_of : AreEntries s.entries
  unfolding system_of
  entries_of =
      let all : IsSystem 1 (system_of s) = of_version s valid is in
      record {
        few = all.few_entries;
        paths_ascend = all.paths_ascend;
        paths_apart = all.paths_apart;
        fit = all.entries_fit;
        bytes = valid.bytes.entries;
      }

pub valid_from : (s : State) → s.version ≡ 1 → s.time < 2 ^ 64 → AreGood s.canisters → AreEntries s.entries → IsState s
unfolding system_of
valid_from s is time good entries =
    let all : IsSystem 1 (system_of s) = record {
      time = time;
      few_canisters = omega (arith, good.few, length-map s.canisters part);
      ids_ascend = is_sorted-over bytes_cmp part_of s.canisters ∙ good.sorted;
      canisters_fit = all_fit s.canisters good.each;
      pages_fit = good.room;
      few_entries = entries.few;
      paths_ascend = entries.paths_ascend;
      paths_apart = entries.paths_apart;
      entries_fit = entries.fit;
    } in
    record {
      version = ap is_version is;
      system = subst (λ (v : ℕ). IsSystem v (system_of s)) (sym is) all;
      memories = all_whole s.canisters good.each;
      bytes = record { canisters = all_bytes s.canisters good.each; entries = entries.bytes };
    }

-- ---- pages

pub pages-join : (cs ds : Canisters) → pages (cs ++ ds) ≡ pages cs + pages ds
pages-join cs ds = ap all_pages (map-append part cs ds) ∙ sum_by-append (λ (c : Bytes × CanisterPart). pages_in c.1) (map part cs) (map part ds)

pub pages-one : (c : Named) → pages (c ∷ []) ≡ pages_in (part_of c.1)
pages-one c = omega arith

-- ---- one canister changes

pub changed : (id : Bytes) (c d : Canister) (cs : Canisters) → AreGood cs → find bytes_cmp id cs ≡ Some c → (IsGood (id, c) → IsGood (id, d)) → pages cs + pages_in (part_of d) ≤ state_limit 1 + pages_in (part_of c)
    → AreGood (put bytes_cmp id d cs)
changed id c d cs good e step bound =
    let f : Found id c cs = found bytes_cmp ids_apart id c cs e in
    let apart = parted bytes_cmp ids_total f.before (id, c) f.after (subst (λ (l : Canisters). is_sorted bytes_cmp l ≡ true) f.split good.sorted) in
    let now : put bytes_cmp id d cs ≡ f.before ++ (id, d) ∷ f.after = ap (put bytes_cmp id d) f.split ∙ put_stands bytes_cmp ids_total id f.before d c f.after apart.0 in
    let were = all_parts IsGood f.before ((id, c) ∷ f.after) (subst (AllByRecursion IsGood) f.split good.each) in
    let old_sum : pages cs ≡ pages f.before + pages ((id, c) ∷ f.after) = ap pages f.split ∙ pages-join f.before ((id, c) ∷ f.after) in
    let new_sum : pages (put bytes_cmp id d cs) ≡ pages f.before + pages ((id, d) ∷ f.after) = ap pages now ∙ pages-join f.before ((id, d) ∷ f.after) in
    let old_one : pages ((id, c) ∷ f.after) ≡ pages_in (part_of c) + pages f.after = pages-join ((id, c) ∷ []) f.after ∙ ap (λ (n : ℕ). n + pages f.after) (pages-one (id, c)) in
    let new_one : pages ((id, d) ∷ f.after) ≡ pages_in (part_of d) + pages f.after = pages-join ((id, d) ∷ []) f.after ∙ ap (λ (n : ℕ). n + pages f.after) (pages-one (id, d)) in
    record {
      few = omega (arith, good.few, ap length f.split, length-append f.before ((id, c) ∷ f.after), ap length now, length-append f.before ((id, d) ∷ f.after));
      sorted = sorted_put bytes_cmp ids_total id d cs good.sorted;
      each = subst (AllByRecursion IsGood) (sym now) (all_join IsGood f.before ((id, d) ∷ f.after) were.0 (step were.1.0, were.1.1));
      room = omega (arith, bound, old_sum, new_sum, old_one, new_one);
    }

-- ---- a canister comes

pub put_each : (P : Named → Type 0) → (id : Bytes) (c : Canister) (cs : Canisters) → AllByRecursion P cs → P (id, c) → AllByRecursion P (put bytes_cmp id c cs)
put_each P id c [] all new = (new, tt)
put_each P id c (d ∷ cs) all new = by (bytes_cmp id d.0) refl (put_each P id c cs all.1 new)
  where
    by : (o : Ordering) → bytes_cmp id d.0 ≡ o → AllByRecursion P (put bytes_cmp id c cs) → AllByRecursion P (by_order o ((id, c) ∷ d ∷ cs) ((d.0, c) ∷ cs) (d ∷ put bytes_cmp id c cs))
    by Less is rest = (new, all)
    by Equal is rest = (subst (λ (k : Bytes). P (k, c)) (ids_apart id d.0 is) new, all.1)
    by Greater is rest = (all.0, rest)

put_length : (id : Bytes) (c : Canister) (cs : Canisters) → length (put bytes_cmp id c cs) ≤ length cs + 1
put_length id c [] = omega arith
put_length id c (d ∷ cs) = by (bytes_cmp id d.0) (put_length id c cs)
  where
    by : (o : Ordering) → length (put bytes_cmp id c cs) ≤ length cs + 1 → length (by_order o ((id, c) ∷ d ∷ cs) ((d.0, c) ∷ cs) (d ∷ put bytes_cmp id c cs)) ≤ length (d ∷ cs) + 1
    by Less rest = omega arith
    by Equal rest = omega arith
    by Greater rest = omega (arith, rest)

put_pages : (id : Bytes) (c : Canister) (cs : Canisters) → pages (put bytes_cmp id c cs) ≤ pages cs + pages_in (part_of c)
put_pages id c [] = omega (arith, pages-one (id, c))
put_pages id c (d ∷ cs) = by (bytes_cmp id d.0) (put_pages id c cs)
  where
    by : (o : Ordering) → pages (put bytes_cmp id c cs) ≤ pages cs + pages_in (part_of c) → pages (by_order o ((id, c) ∷ d ∷ cs) ((d.0, c) ∷ cs) (d ∷ put bytes_cmp id c cs)) ≤ pages (d ∷ cs) + pages_in (part_of c)
    by Less rest = omega (arith, pages-join ((id, c) ∷ []) (d ∷ cs), pages-one (id, c))
    by Equal rest = omega (arith, pages-join ((d.0, c) ∷ []) cs, pages-join (d ∷ []) cs, pages-one (d.0, c))
    by Greater rest = omega (arith, rest, pages-join (d ∷ []) (put bytes_cmp id c cs), pages-join (d ∷ []) cs)

pub created : (id : Bytes) (c : Canister) (cs : Canisters) → AreGood cs → IsGood (id, c) → pages_in (part_of c) ≡ 0 → length cs < MAX_CANISTERS → AreGood (put bytes_cmp id c cs)
created id c cs good new none few = record {
  few = omega (arith, few, put_length id c cs);
  sorted = sorted_put bytes_cmp ids_total id c cs good.sorted;
  each = put_each IsGood id c cs good.each new;
  room = omega (arith, good.room, none, put_pages id c cs);
}

-- ---- a canister goes

fewer_canisters : (t : Named → Bool) (cs : Canisters) → (length (filter t cs) ≤ length cs) × (pages (filter t cs) ≤ pages cs)
fewer_canisters t [] = (omega arith, omega arith)
fewer_canisters t (c ∷ cs) = by (t c) (fewer_canisters t cs)
  where
    by : (b : Bool) → (length (filter t cs) ≤ length cs) × (pages (filter t cs) ≤ pages cs) → (length (cond b (c ∷ filter t cs) (filter t cs)) ≤ length (c ∷ cs)) × (pages (cond b (c ∷ filter t cs) (filter t cs)) ≤ pages (c ∷ cs))
    by true rest = (omega (arith, rest.0), omega (arith, rest.1, pages-join (c ∷ []) (filter t cs), pages-join (c ∷ []) cs))
    by false rest = (omega (arith, rest.0), omega (arith, rest.1, pages-join (c ∷ []) cs))

pub removed : (id : Bytes) (cs : Canisters) → AreGood cs → AreGood (without bytes_cmp id cs)
removed id cs good =
    let t : Named → Bool = λ e. not (eq_by_cmp bytes_cmp id e.0) in
    let less = fewer_canisters t cs in
    record {
      few = omega (arith, good.few, less.0);
      sorted = sorted_without bytes_cmp ids_total id cs good.sorted;
      each = all_filtered IsGood t cs good.each;
      room = omega (arith, good.room, less.1);
    }

-- ---- canisters that differ in what no valid state asks about

module _ (f : Canister → Canister) (alike : (c : Canister) → part_of (f c) ≡ part_of c) where
  abbrev over : Named → Named
  over c = (c.0, f c.1)

  parts_over : (cs : Canisters) → map part (map over cs) ≡ map part cs
  parts_over [] = refl
  parts_over (c ∷ cs) = λ i. (c.0, alike c.1 i) ∷ parts_over cs i

  pub over_good : ((c : Named) → IsGood c → IsGood (over c)) → (cs : Canisters) → AreGood cs → AreGood (map over cs)
  over_good step cs good = record {
    few = omega (arith, good.few, length-map cs over);
    sorted = is_sorted-over bytes_cmp f cs ∙ good.sorted;
    each = to_map over IsGood cs (all_weaker IsGood (λ c. IsGood (over c)) step cs good.each);
    room = omega (arith, good.room, ap all_pages (parts_over cs));
  }

  pub back_good : ((c : Named) → IsGood (over c) → IsGood c) → (cs : Canisters) → AreGood (map over cs) → AreGood cs
  back_good step cs good = record {
    few = omega (arith, good.few, length-map cs over);
    sorted = sym (is_sorted-over bytes_cmp f cs) ∙ good.sorted;
    each = all_weaker (λ c. IsGood (over c)) IsGood step cs (of_map over IsGood cs good.each);
    room = omega (arith, good.room, ap all_pages (parts_over cs));
  }
