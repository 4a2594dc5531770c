-- Changes of one canister.
use Rattle.std.proofs.Common.{◌≡◌, ℕ, ◌+◌, ◌^◌, ◌<◌, ◌≤◌, IsTrue, true, List, [], ◌∷◌, ◌++◌, length, get_or, set, sym, ap, subst, ◌∙◌, arith, length-set, length-append, refl, Option, IfSome}
use Rattle.std.specs.List.{AllByRecursion, insert, remove}
use Rattle.std.specs.FinMap.{is_sorted, put}
use Rattle.std.proofs.lemmas.List.Edits.{length-insert}
use Rattle.format_spec.specs.Bytes.{Bytes, IsBytes, bytes_cmp}
use Rattle.format_spec.specs.declared.limits.TheConstants.{MAX_CANISTERS, MAX_CERTIFIED, MAX_MODULE}
use Rattle.format_spec.specs.Versions.{memory_limit, state_limit}
use Rattle.format_spec.proofs.StateLimits.{memory_limits, state_limits, memory_limit-2, state_limit-2}
use Rattle.state_spec.specs.State.{is_id}
use Rattle.sys_state.specs.declared.mem.Mem.{Mem}
use Rattle.sys_state.specs.declared.mem.Mem.TheVariants.{Heap, Stable}
use Rattle.sys_state.specs.declared.record.CanisterRecord.{CanisterRecord}
use Rattle.sys_state.specs.Calls.{all_pages_of, pages_of, with_more_pages, newborn, with_certified, with_module, Changes, Creates, Removes}
use Rattle.state_spec.specs.Places.{Stands, IsAbsent}
use Rattle.sys_state.specs.System.{System, IsWithinLimits}
use Rattle.state_spec.proofs.Keys.{ids_total}
use Rattle.sys_state.proofs.Kept.{ids_sorted, few_canisters, Good, goods, kept_with, pages, pages-join, pages-one}
use Rattle.format_spec.proofs.Lists.{all_join, all_parts}
use Rattle.state_spec.proofs.Places.{entry_there, sorted_put, set_split, set_is_put, set_replaces, insert_split, insert_is_put, insert_replaces, remove_split, remove_is_without, remove_sorted, remove_replaces}

abbrev Named : Type 0
Named = Bytes × CanisterRecord

-- what a change of a canister leaves
pub record Changed (old new : System) (id : Bytes) (more : ℕ) (change : CanisterRecord → CanisterRecord) : Type 0 where
  pub kept : IsWithinLimits new
  pub pages : all_pages_of new ≡ all_pages_of old + more
  pub changes : Changes old new id change

pub record Removed (old new : System) (id : Bytes) (fewer : ℕ) : Type 0 where
  pub kept : IsWithinLimits new
  pub pages : all_pages_of new + fewer ≡ all_pages_of old
  pub removes : Removes old new id

module _ (s : System) (kept : IsWithinLimits s) (id : Bytes) (i : ℕ) (at : Stands bytes_cmp id s.canisters i) where
  sorted : is_sorted bytes_cmp s.canisters ≡ true
  sorted = ids_sorted s kept

  abbrev after_set : CanisterRecord → System
  after_set d = record s { canisters = set s.canisters i (id, d) }

  old_pages : pages s.canisters ≡ pages at.at.before + (at.value.heap + at.value.stable) + pages at.at.after
  old_pages = ap pages at.at.split ∙ pages-join at.at.before ((id, at.value) ∷ at.at.after) ∙ omega (arith, pages-join ((id, at.value) ∷ []) at.at.after, pages-one (id, at.value))

  new_pages : (d : CanisterRecord) → pages (set s.canisters i (id, d)) ≡ pages at.at.before + (d.heap + d.stable) + pages at.at.after
  new_pages d = ap pages (set_split bytes_cmp ids_total id s.canisters sorted i at d) ∙ pages-join at.at.before ((id, d) ∷ at.at.after) ∙ omega (arith, pages-join ((id, d) ∷ []) at.at.after, pages-one (id, d))

  parts_good : AllByRecursion Good at.at.before × AllByRecursion Good ((id, at.value) ∷ at.at.after)
  parts_good = all_parts Good at.at.before ((id, at.value) ∷ at.at.after) (subst (AllByRecursion Good) at.at.split (goods s kept))

  pub was_good : Good (id, at.value)
  was_good = parts_good.1.0

  pub changed : (change : CanisterRecord → CanisterRecord) (more : ℕ) → Good (id, change at.value) → (change at.value).heap + (change at.value).stable ≡ at.value.heap + at.value.stable + more → all_pages_of s + more ≤ state_limit 2
      → Changed s (after_set (change at.value)) id more change
  changed change more good grown bound =
      let d : CanisterRecord = change at.value in
      let sum : pages (set s.canisters i (id, d)) ≡ pages s.canisters + more = omega (arith, old_pages, new_pages d, grown) in
      let is_put : set s.canisters i (id, d) ≡ put bytes_cmp id d s.canisters = set_is_put bytes_cmp ids_total id s.canisters sorted i at d in
      let in_order : is_sorted bytes_cmp (set s.canisters i (id, d)) ≡ true = ap (is_sorted bytes_cmp) is_put ∙ sorted_put bytes_cmp ids_total id d s.canisters sorted in
      record {
        kept = kept_with s kept (set s.canisters i (id, d)) (omega (arith, length-set s.canisters i (id, d), few_canisters s kept)) in_order
            (subst (AllByRecursion Good) (sym (set_split bytes_cmp ids_total id s.canisters sorted i at d)) (all_join Good at.at.before ((id, d) ∷ at.at.after) parts_good.0 (good, parts_good.1.1)))
            (omega (arith, sum, bound));
        pages = sum;
        changes = record {
          c = at.value;
          was = at.found;
          now = ap (λ (cs : List Named). record s { canisters = cs }) is_put;
          split = set_replaces bytes_cmp ids_total id s.canisters sorted i at d;
        };
      }

  -- the same, as it is written: the entry that was read there, with its new record
  pub written : (change : CanisterRecord → CanisterRecord) (more : ℕ) (x : Named) (y : CanisterRecord) → x ≡ get_or s.canisters i x → y ≡ change x.1
      → (Good (id, x.1) → Good (id, change x.1)) → (change x.1).heap + (change x.1).stable ≡ x.1.heap + x.1.stable + more → all_pages_of s + more ≤ state_limit 2
      → Changed s (record s { canisters = set s.canisters i (x.0, y) }) id more change
  written change more x y read is good grown bound =
      let x_is : x ≡ (id, at.value) = entry_there bytes_cmp ids_total id s.canisters sorted i at x read in
      let value_is : x.1 ≡ at.value = ap (λ (e : Named). e.1) x_is in
      let id_is : id ≡ x.0 = sym (ap (λ (e : Named). e.0) x_is) in
      let y_is : change at.value ≡ y = sym (is ∙ ap change value_is) in
      let good_now : Good (id, change at.value) = subst (λ (c : CanisterRecord). Good (id, c) → Good (id, change c)) value_is good was_good in
      let grown_now = subst (λ (c : CanisterRecord). (change c).heap + (change c).stable ≡ c.heap + c.stable + more) value_is grown in
      subst (λ (e : Named). Changed s (record s { canisters = set s.canisters i e }) id more change) (λ j. (id_is j, y_is j)) (changed change more good_now grown_now bound)

  extended_good : (mem : Mem) (more : ℕ) (c : CanisterRecord) → pages_of mem c + more ≤ memory_limit 2 → Good (id, c) → Good (id, with_more_pages mem more c)
  extended_good Heap more c bound g = record { fits = record { id = g.fits.id; wasm = g.fits.wasm; certified = g.fits.certified; heap = bound; stable = g.fits.stable }; bytes = record { id = g.bytes.id; wasm = g.bytes.wasm; certified = g.bytes.certified; birth = g.bytes.birth } }
  extended_good Stable more c bound g = record { fits = record { id = g.fits.id; wasm = g.fits.wasm; certified = g.fits.certified; heap = g.fits.heap; stable = bound }; bytes = record { id = g.bytes.id; wasm = g.bytes.wasm; certified = g.bytes.certified; birth = g.bytes.birth } }

  extended_pages : (mem : Mem) (more : ℕ) (c : CanisterRecord) → (with_more_pages mem more c).heap + (with_more_pages mem more c).stable ≡ c.heap + c.stable + more
  extended_pages Heap more c = omega arith
  extended_pages Stable more c = omega arith

  pub extends : (version : ℕ) (mem : Mem) (more : ℕ) (x : Named) (y : CanisterRecord) → x ≡ get_or s.canisters i x → y ≡ with_more_pages mem more x.1 → pages_of mem x.1 + more ≤ memory_limit version → all_pages_of s + more ≤ state_limit version
      → Changed s (record s { canisters = set s.canisters i (x.0, y) }) id more (with_more_pages mem more)
  extends version mem more x y read is bound sum =
      let most = (memory_limits version).1 in
      let most_in_all = (state_limits version).1 in
      written (with_more_pages mem more) more x y read is (extended_good mem more x.1 (omega (arith, bound, most, memory_limit-2))) (extended_pages mem more x.1) (omega (arith, sum, most_in_all, state_limit-2))

  same_sum : (n : ℕ) → n ≡ n + 0
  same_sum n = omega arith

  pub certifies : (bytes : Bytes) (x : Named) → x ≡ get_or s.canisters i x → IsBytes bytes → length bytes ≤ MAX_CERTIFIED
      → Changed s (record s { canisters = set s.canisters i (x.0, with_certified bytes x.1) }) id 0 (with_certified bytes)
  certifies bytes x read are short = written (with_certified bytes) 0 x (with_certified bytes x.1) read refl
      (λ g. record {
        fits = record { id = g.fits.id; wasm = g.fits.wasm; certified = short; heap = g.fits.heap; stable = g.fits.stable };
        bytes = record { id = g.bytes.id; wasm = g.bytes.wasm; certified = are; birth = g.bytes.birth };
      }) (same_sum (x.1.heap + x.1.stable)) (omega (arith, kept.system.pages_fit))

  pub installs : (wasm : Option Bytes) (x : Named) → x ≡ get_or s.canisters i x → IfSome wasm IsBytes → IfSome wasm (λ m. length m ≤ MAX_MODULE)
      → Changed s (record s { canisters = set s.canisters i (x.0, with_module wasm x.1) }) id 0 (with_module wasm)
  installs wasm x read are short = written (with_module wasm) 0 x (with_module wasm x.1) read refl
      (λ g. record {
        fits = record { id = g.fits.id; wasm = short; certified = g.fits.certified; heap = g.fits.heap; stable = g.fits.stable };
        bytes = record { id = g.bytes.id; wasm = are; certified = g.bytes.certified; birth = g.bytes.birth };
      }) (same_sum (x.1.heap + x.1.stable)) (omega (arith, kept.system.pages_fit))

  -- ---- a canister that goes

  pub removes : (x : Named) → x ≡ get_or s.canisters i x → Removed s (record s { canisters = remove s.canisters i }) id (x.1.heap + x.1.stable)
  removes x read =
      let value_is : at.value ≡ x.1 = sym (ap (λ (e : Named). e.1) (entry_there bytes_cmp ids_total id s.canisters sorted i at x read)) in
      let split = remove_split bytes_cmp ids_total id s.canisters sorted i at in
      let left : pages (remove s.canisters i) ≡ pages at.at.before + pages at.at.after = ap pages split ∙ pages-join at.at.before at.at.after in
      let sum : pages (remove s.canisters i) + (at.value.heap + at.value.stable) ≡ pages s.canisters = omega (arith, old_pages, left) in
      let sum_here : pages (remove s.canisters i) + (x.1.heap + x.1.stable) ≡ pages s.canisters = subst (λ (c : CanisterRecord). pages (remove s.canisters i) + (c.heap + c.stable) ≡ pages s.canisters) value_is sum in
      let length_left : length s.canisters ≡ length (remove s.canisters i) + 1 =
      ap length at.at.split ∙ omega (arith, length-append at.at.before ((id, at.value) ∷ at.at.after), ap length split, length-append at.at.before at.at.after) in
      record {
        kept = kept_with s kept (remove s.canisters i) (omega (arith, length_left, few_canisters s kept)) (remove_sorted bytes_cmp ids_total id s.canisters sorted i at)
            (subst (AllByRecursion Good) (sym split) (all_join Good at.at.before at.at.after parts_good.0 parts_good.1.1)) (omega (arith, sum, kept.system.pages_fit));
        pages = sum_here;
        removes = record {
          c = at.value;
          was = at.found;
          now = ap (λ (cs : List Named). record s { canisters = cs }) (remove_is_without bytes_cmp ids_total id s.canisters sorted i at);
          split = remove_replaces bytes_cmp ids_total id s.canisters sorted i at;
        };
      }

-- ---- a new canister

pub record Created (old new : System) (id : Bytes) (birth : ℕ) : Type 0 where
  pub kept : IsWithinLimits new
  pub pages : all_pages_of new ≡ all_pages_of old
  pub creates : Creates old new id (newborn birth)

pub creates : (s : System) → IsWithinLimits s → (id : Bytes) (i : ℕ) → IsAbsent bytes_cmp id s.canisters i → (birth : ℕ) → birth < 2 ^ 64 → IsTrue (is_id id) → IsBytes id → length s.canisters < MAX_CANISTERS
    → Created s (record s { canisters = insert s.canisters i (id, newborn birth) }) id birth
creates s kept id i a birth small is bytes room =
    let d : CanisterRecord = newborn birth in
    let cs : List Named = insert s.canisters i (id, d) in
    let split : cs ≡ a.at.before ++ (id, d) ∷ a.at.after = insert_split bytes_cmp ids_total id s.canisters i a d in
    let is_put : cs ≡ put bytes_cmp id d s.canisters = insert_is_put bytes_cmp ids_total id s.canisters i a d in
    let were = all_parts Good a.at.before a.at.after (subst (AllByRecursion Good) a.at.split (goods s kept)) in
    let good : Good (id, d) = record { fits = record { id = is; wasm = tt; certified = omega arith; heap = omega arith; stable = omega arith }; bytes = record { id = bytes; wasm = tt; certified = λ j. omega arith; birth = small } } in
    let old_sum : pages s.canisters ≡ pages a.at.before + pages a.at.after = ap pages a.at.split ∙ pages-join a.at.before a.at.after in
    let new_sum : pages cs ≡ pages a.at.before + pages ((id, d) ∷ a.at.after) = ap pages split ∙ pages-join a.at.before ((id, d) ∷ a.at.after) in
    let sum : pages cs ≡ pages s.canisters = omega (arith, old_sum, new_sum, pages-join ((id, d) ∷ []) a.at.after, pages-one (id, d)) in
    record {
      kept = kept_with s kept cs (omega (arith, length-insert s.canisters i (id, d) (within i a))) (ap (is_sorted bytes_cmp) is_put ∙ sorted_put bytes_cmp ids_total id d s.canisters (ids_sorted s kept))
          (subst (AllByRecursion Good) (sym split) (all_join Good a.at.before ((id, d) ∷ a.at.after) were.0 (good, were.1)))
          (omega (arith, sum, kept.system.pages_fit));
      pages = sum;
      creates = record {
        was = a.found;
        now = ap (λ (l : List Named). record s { canisters = l }) is_put;
        split = insert_replaces bytes_cmp ids_total id s.canisters i a d;
      };
    }
  where
    within : (k : ℕ) (b : IsAbsent bytes_cmp id s.canisters k) → k ≤ length s.canisters
    within k b = omega (arith, b.at.count, ap length b.at.split, length-append b.at.before b.at.after)
