-- The memories of a state's canisters, added to a manifest one canister after another.
use Rattle.std.proofs.Common.{◌≡◌, ℕ, zero, suc, ◌+◌, ◌*◌, ◌<◌, List, [], ◌∷◌, ◌++◌, length, map, drop, get_or, Option, Some, refl, sym, ap, ◌∙◌, append_assoc, arith}
use Rattle.std.specs.Prelude.{slice_get}
use Rattle.std.proofs.lemmas.List.{length-map, length-append, length-drop, drop-drop}
use Rattle.format_spec.specs.Bytes.{Bytes, part_count}
use Rattle.format_spec.specs.declared.limits.TheConstants.{CHUNK_SIZE, PAGE_SIZE}
use Rattle.format_spec.proofs.Cuts.{heads}
use Rattle.state_spec.specs.Files.{heap_name, stable_name, memory_pages}
use Rattle.state_spec.specs.Manifest.{Manifest, FileSums, memory_sums, manifest_from, file_row}
use Rattle.sys_state.specs.declared.record.CanisterRecord.{CanisterRecord}
use Rattle.sys_state.specs.System.{parts}
use Rattle.manifest.specs.Adding.{Adds, canister_sums}
use Rattle.manifest.proofs.Growing.{added}
use Rattle.format_spec.proofs.Lists.{drop_found}

-- ---- a canister's memories

pub added_canister : (v : ℕ) (old mid new : Manifest) (fs : List FileSums) (id : Bytes) (c : CanisterRecord) (heap stable : List (Option Bytes)) (n1 n2 : Bytes) (s1 s2 : ℕ)
    → n1 ≡ heap_name id → n2 ≡ stable_name id → s1 ≡ c.heap * PAGE_SIZE → s2 ≡ c.stable * PAGE_SIZE
    → Adds old mid (record { name = n1; size = s1; hashes = heap }) → Adds mid new (record { name = n2; size = s2; hashes = stable })
    → old ≡ manifest_from v fs → new ≡ manifest_from v (fs ++ canister_sums id c heap stable)
added_canister v old mid new fs id c heap stable n1 n2 s1 s2 e1 e2 e3 e4 first second is =
    let f1 : FileSums = record { name = n1; size = s1; hashes = heap } in
    let f2 : FileSums = record { name = n2; size = s2; hashes = stable } in
    let both : f1 ∷ f2 ∷ [] ≡ canister_sums id c heap stable =
    λ i. record { name = e1 i; size = e3 i; hashes = heap } ∷ record { name = e2 i; size = e4 i; hashes = stable } ∷ [] in
    added v mid new (fs ++ f1 ∷ []) f2 second (added v old mid fs f1 first is)
    ∙ ap (manifest_from v) (append_assoc fs (f1 ∷ []) (f2 ∷ []) ∙ ap (λ (ys : List FileSums). fs ++ ys) both)

-- ---- how far the canisters are done

abbrev pub named : List (Bytes × CanisterRecord) → List (Bytes × ℕ)
named cs = memory_pages (parts cs)

abbrev pub counts : List (Bytes × ℕ) → List ℕ
counts ms = map (λ (m : Bytes × ℕ). part_count CHUNK_SIZE (m.1 * PAGE_SIZE)) ms

abbrev pub lengths : List (List (Option Bytes)) → List ℕ
lengths ls = map (λ (l : List (Option Bytes)). length l) ls

pub record Half (v : ℕ) (m : Manifest) (cs : List (Bytes × CanisterRecord)) (ls : List (List (Option Bytes))) (i : ℕ) : Type 0 where
  pub done : List FileSums
  pub m_is : m ≡ manifest_from v done
  pub count : length done ≡ 2 * i
  pub whole : done ++ memory_sums (named (drop i cs)) (drop (2 * i) ls) ≡ memory_sums (named cs) ls
  pub fit : lengths (drop (2 * i) ls) ≡ counts (named (drop i cs))

-- the two lists of a canister, and those behind them
pub record TwoLists (ls : List (List (Option Bytes))) (i p q : ℕ) (counted : List ℕ) : Type 0 where
  pub heap : List (Option Bytes)
  pub stable : List (Option Bytes)
  pub rest_is : drop (2 * i) ls ≡ heap ∷ stable ∷ drop (2 * (i + 1)) ls
  pub heap_len : length heap ≡ p
  pub stable_len : length stable ≡ q
  pub behind : lengths (drop (2 * (i + 1)) ls) ≡ counted

two_lists : (ls : List (List (Option Bytes))) (i p q : ℕ) (counted : List ℕ) → lengths (drop (2 * i) ls) ≡ p ∷ q ∷ counted → TwoLists ls i p q counted
two_lists ls i p q counted e = go (drop (2 * i) ls) refl e
  where
    go : (t : List (List (Option Bytes))) → drop (2 * i) ls ≡ t → lengths t ≡ p ∷ q ∷ counted → TwoLists ls i p q counted
    go [] is h = absurd cc
    go (a ∷ []) is h = let r = heads (length a) p [] (q ∷ counted) h in absurd (absurd_nil q counted r.1)
      where
        absurd_nil : (q : ℕ) (counted : List ℕ) → [] ≡ q ∷ counted → ⊥
        absurd_nil q counted e = cc
    go (a ∷ b ∷ t) is h =
        let r = heads (length a) p (length b ∷ lengths t) (q ∷ counted) h in
        let s = heads (length b) q (lengths t) counted r.1 in
        let next : 2 * (i + 1) ≡ 2 * i + 2 = omega arith in
        let behind : drop (2 * (i + 1)) ls ≡ t = ap (λ (k : ℕ). drop k ls) next ∙ sym (drop-drop 2 (2 * i) ls) ∙ ap (λ (x : List (List (Option Bytes))). drop 2 x) is in
        record {
          heap = a;
          stable = b;
          rest_is = is ∙ ap (λ (x : List (List (Option Bytes))). a ∷ b ∷ x) (sym behind);
          heap_len = r.0;
          stable_len = s.0;
          behind = ap lengths behind ∙ s.1;
        }

module _ (v : ℕ) (m : Manifest) (cs : List (Bytes × CanisterRecord)) (ls : List (List (Option Bytes))) (i : ℕ) (half : Half v m cs ls i) (id : Bytes) (c : CanisterRecord) (there : slice_get cs i ≡ Some (id, c)) where
  pub lists_here : TwoLists ls i (part_count CHUNK_SIZE (c.heap * PAGE_SIZE)) (part_count CHUNK_SIZE (c.stable * PAGE_SIZE)) (counts (named (drop (i + 1) cs)))
  lists_here =
      two_lists ls i (part_count CHUNK_SIZE (c.heap * PAGE_SIZE)) (part_count CHUNK_SIZE (c.stable * PAGE_SIZE)) (counts (named (drop (i + 1) cs)))
      (half.fit ∙ ap (λ (x : List (Bytes × CanisterRecord)). counts (named x)) (drop_found cs i (id, c) there))

  -- both lists are there
  pub lists_room : 2 * i + 1 < length ls
  lists_room =
      let two = lists_here in
      let len : length (drop (2 * i) ls) ≡ suc (suc (length (drop (2 * (i + 1)) ls))) = ap length two.rest_is in
      omega (arith, length-drop (2 * i) ls)

  -- one canister more
  pub half_more : (new : Manifest) → ((fs : List FileSums) → m ≡ manifest_from v fs → new ≡ manifest_from v (fs ++ canister_sums id c lists_here.heap lists_here.stable)) → Half v new cs ls (i + 1)
  half_more new adds =
      let two = lists_here in
      let here = canister_sums id c two.heap two.stable in
      record {
        done = half.done ++ here;
        m_is = adds half.done half.m_is;
        count = let n = half.count in omega (arith, length-append half.done here);
        whole = append_assoc half.done here (memory_sums (named (drop (i + 1) cs)) (drop (2 * (i + 1)) ls))
            ∙ ap (λ (x : List (Bytes × CanisterRecord)). half.done ++ memory_sums (named x) (two.heap ∷ two.stable ∷ drop (2 * (i + 1)) ls)) (sym (drop_found cs i (id, c) there))
            ∙ ap (λ (x : List (List (Option Bytes))). half.done ++ memory_sums (named (drop i cs)) x) (sym two.rest_is)
            ∙ half.whole;
        fit = two.behind;
      }

pub half_files : (v : ℕ) (m : Manifest) (cs : List (Bytes × CanisterRecord)) (ls : List (List (Option Bytes))) (i : ℕ) → Half v m cs ls i → length m.files ≡ 2 * i
unfolding manifest_from
half_files v m cs ls i half = ap (λ (x : Manifest). length x.files) half.m_is ∙ length-map half.done file_row ∙ half.count

-- ---- the lists as the code has them

module _ {V : Type 0} (items : V → List (Option Bytes)) where
  item_at : (vs : List V) (k : ℕ) (u : V) (a : List (Option Bytes)) (rest : List (List (Option Bytes))) → drop k (map items vs) ≡ a ∷ rest → u ≡ get_or vs k u → items u ≡ a
  item_at [] zero u a rest e is = absurd cc
  item_at [] (suc k) u a rest e is = absurd cc
  item_at (w ∷ vs) zero u a rest e is = ap items is ∙ (heads (items w) a (map items vs) rest e).0
  item_at (w ∷ vs) (suc k) u a rest e is = item_at vs k u a rest e is

  module _ (v : ℕ) (m : Manifest) (cs : List (Bytes × CanisterRecord)) (vs : List V) (i : ℕ) (half : Half v m cs (map items vs) i) (id : Bytes) (c : CanisterRecord) (there : slice_get cs i ≡ Some (id, c)) where
    pub room_here : 2 * i + 1 < length vs
    room_here = let h = lists_room v m cs (map items vs) i half id c there in omega (arith, length-map vs items)

    pub heap_here : (u : V) (heap : List (Option Bytes)) → u ≡ get_or vs (2 * i) u → heap ≡ items u → heap ≡ (lists_here v m cs (map items vs) i half id c there).heap
    heap_here u heap is e =
        let two = lists_here v m cs (map items vs) i half id c there in
        e ∙ item_at vs (2 * i) u two.heap (two.stable ∷ drop (2 * (i + 1)) (map items vs)) two.rest_is is

    pub stable_here : (u : V) (stable : List (Option Bytes)) → u ≡ get_or vs (2 * i + 1) u → stable ≡ items u → stable ≡ (lists_here v m cs (map items vs) i half id c there).stable
    stable_here u stable is e =
        let two = lists_here v m cs (map items vs) i half id c there in
        let behind : drop (2 * i + 1) (map items vs) ≡ two.stable ∷ drop (2 * (i + 1)) (map items vs) =
        sym (drop-drop 1 (2 * i) (map items vs)) ∙ ap (λ (x : List (List (Option Bytes))). drop 1 x) two.rest_is in
        e ∙ item_at vs (2 * i + 1) u two.stable (drop (2 * (i + 1)) (map items vs)) behind is

    -- with the lists of the code
    pub half_goes_on : (new : Manifest) (u w : V) (heap stable : List (Option Bytes)) → u ≡ get_or vs (2 * i) u → heap ≡ items u → w ≡ get_or vs (2 * i + 1) w → stable ≡ items w
        → ((fs : List FileSums) → m ≡ manifest_from v fs → new ≡ manifest_from v (fs ++ canister_sums id c heap stable)) → Half v new cs (map items vs) (i + 1)
    half_goes_on new u w heap stable iu eu iv ev adds =
        let two = lists_here v m cs (map items vs) i half id c there in
        let h = heap_here u heap iu eu in
        let s = stable_here w stable iv ev in
        half_more v m cs (map items vs) i half id c there new (λ fs is. adds fs is
        ∙ ap (λ (x : List (Option Bytes)). manifest_from v (fs ++ canister_sums id c x stable)) h
        ∙ ap (λ (x : List (Option Bytes)). manifest_from v (fs ++ canister_sums id c two.heap x)) s)
