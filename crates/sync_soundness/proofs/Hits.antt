-- Chunks that published heights have are right by the rows that they are found for.
use Rattle.std.proofs.Common.{◌≡◌, ℕ, zero, suc, ◌+◌, ◌*◌, ◌/◌, ◌==◌, ◌&&◌, ◌||◌, not, cond, if◌then◌else◌, replicate, Bool, true, false, List, [], ◌∷◌, ◌++◌, length, map, find, take, drop, slice_get, Option, Some, None, refl, sym, ap, ◌∙◌, subst, arith}
use Rattle.std.specs.List.{flat_map, AllByRecursion, list_any, range_with_len}
use Rattle.std.specs.Option.{option_map, option_map_or, option_and_then}
use Rattle.std.specs.FinMap.{is_sorted}
use Rattle.std.specs.FinMap.Entries.{below_all}
use Rattle.std.specs.Ordering.{nat_cmp, is_lt}
use Rattle.std.proofs.lemmas.Bool.{and_parts, and_from, eqb-true, eq-eqb, ne_eqb}
use Rattle.format_spec.specs.Bytes.{Bytes, IsBytes, AreByteStrings, parts, part_count, same_bytes}
use Rattle.format_spec.specs.Hashes.{ChunkSum, chunk_hash, chunk_string}
use Rattle.format_spec.specs.declared.limits.TheConstants.{CHUNK_SIZE}
use Rattle.format_spec.proofs.ByteStrings.{cut_bytes}
use Rattle.format_spec.proofs.Readings.{same_bytes_is, bytes_same}
use Rattle.state_spec.specs.State.{State, IsState}
use Rattle.state_spec.specs.Files.{File, files}
use Rattle.state_spec.specs.Manifest.{Manifest, ChunkRow, manifest_of, manifest_from, chunk_rows, chunk_sums, sums_of, is_zeros, has_row, row_chunks, chunk_size_at}
use Rattle.state_spec.specs.Root.{hashed_strings}
use Rattle.soundness.proofs.StateBytes.{state_strings}
use Rattle.sync_spec.specs.Messages.{Item, chunk}
use Rattle.sync_spec.specs.Rows.{row_version}
use Rattle.sync_spec.specs.Serving.{is_chunk, rows}
use Rattle.sync_spec.specs.Local.{Source, Hit, sources_in, same_chunk, first_source, has_source, source_for, hits_with, hits_from, local_hits, manifests_of, chunk_in, bytes_at}
use Rattle.sync_spec.specs.SyncLaws.{ArePublished}
use Rattle.sync_soundness.specs.Held.{Holds}
use Rattle.sync_soundness.proofs.Failing.{holds_new, holds_still}
use Rattle.soundness.proofs.Texts.{numbered, rows_from, with_rows}
use Rattle.sync_soundness.proofs.Slots.{sum_at, zeros_are, sums_cons}
use Rattle.sync_soundness.proofs.Files.{cut_size}
use Rattle.format_spec.proofs.Lists.{all_parts, all_join, below_is}
use Rattle.sync_spec.proofs.Lasting.{all_map, found}

-- ---- each published height is found by its number

abbrev Height : Type 0
Height = ℕ × State

abbrev IsFound : List Height → Height → Type 0
IsFound heights p = find (λ q. q.0 == p.0) heights ≡ Some p

found_later : (p : Height) (ps qs : List Height) → below_all nat_cmp p.0 qs ≡ true → AllByRecursion (IsFound ps) qs → AllByRecursion (IsFound (p ∷ ps)) qs
found_later p ps [] below all = tt
found_later p ps (q ∷ qs) below all =
    let b = and_parts (is_lt (nat_cmp p.0 q.0)) (below_all nat_cmp p.0 qs) below in
    (ap (λ c. cond c (Some p) (find (λ (r : Height). r.0 == q.0) ps)) (ne_eqb p.0 q.0 (λ e. omega (arith, e, below_is p.0 q.0 b.0))) ∙ all.0, found_later p ps qs b.1 all.1)

each_found : (heights : List Height) → is_sorted nat_cmp heights ≡ true → AllByRecursion (IsFound heights) heights
each_found [] h = tt
each_found (p ∷ ps) h =
    let b = and_parts (below_all nat_cmp p.0 ps) (is_sorted nat_cmp ps) h in
    (ap (λ c. cond c (Some p) (find (λ (r : Height). r.0 == p.0) ps)) (eq-eqb p.0 p.0 refl), found_later p ps ps b.0 (each_found ps b.1))

-- ---- each row of a state's manifest tells where its chunk is

-- bytes with the size and hash
pub record Fits (sum : ChunkSum) (bytes : Bytes) : Type 0 where
  pub size : length bytes ≡ sum.size
  pub hash : chunk_hash bytes ≡ sum.hash
  pub string : IsBytes bytes

abbrev part_in : List File → ℕ → ℕ → Option Bytes
part_in fs file from = option_and_then (λ (f : File). slice_get (parts CHUNK_SIZE f.bytes) from) (slice_get fs file)

abbrev Leads : List File → ChunkRow → Type 0
Leads fs r = (bytes : Bytes) × (part_in fs r.file (r.sum.offset / CHUNK_SIZE) ≡ Some bytes) × Fits r.sum bytes

module _ (fs : List File) (n : ℕ) (f : File) (at : slice_get fs n ≡ Some f) where
  abbrev cut_at : ℕ → Bytes
  cut_at i = take CHUNK_SIZE (drop (i * CHUNK_SIZE) f.bytes)

  one_leads : (a : ℕ) (part : Bytes) → slice_get (parts CHUNK_SIZE f.bytes) a ≡ Some part → part ≡ cut_at a → IsBytes part → Leads fs (numbered n (sum_at (length f.bytes) a (chunk_hash part)))
  one_leads a part there is string =
      let back : (a * CHUNK_SIZE) / CHUNK_SIZE ≡ a = omega arith in
      let size : length part ≡ chunk_size_at (length f.bytes) a = ap length is ∙ cut_size CHUNK_SIZE a f.bytes in (
        part,
        ap (part_in fs n) back ∙ ap (option_and_then (λ (g : File). slice_get (parts CHUNK_SIZE g.bytes) a)) at ∙ there,
        record { size = size; hash = refl; string = string },
      )

  abbrev sums : ℕ → ℕ → List ChunkSum
  sums a k = rows_from f.version (length f.bytes) a (map cut_at (range_with_len a k))

  parts_lead : (k a : ℕ) → ((j : ℕ) → slice_get (parts CHUNK_SIZE f.bytes) (a + j) ≡ slice_get (map cut_at (range_with_len a k)) j) → AreByteStrings (with_rows f.version (map cut_at (range_with_len a k)))
      → AllByRecursion (Leads fs) (map (numbered n) (sums a k))
  parts_lead zero a same strings = tt
  parts_lead (suc k) a same strings =
      subst (λ (xs : List ChunkSum). AllByRecursion (Leads fs) (map (numbered n) xs)) (sym (sums_cons f.version (length f.bytes) a (cut_at a) (map cut_at (range_with_len (a + 1) k))))
      (by (has_row f.version (cut_at a)) strings (parts_lead k (a + 1) (λ j. let e : a + 1 + j ≡ a + suc j = omega arith in ap (slice_get (parts CHUNK_SIZE f.bytes)) e ∙ same (suc j))))
    where
      here : a + 0 ≡ a
      here = omega arith

      by : (b : Bool) → AreByteStrings (cond b (cut_at a ∷ with_rows f.version (map cut_at (range_with_len (a + 1) k))) (with_rows f.version (map cut_at (range_with_len (a + 1) k))))
          → (AreByteStrings (with_rows f.version (map cut_at (range_with_len (a + 1) k))) → AllByRecursion (Leads fs) (map (numbered n) (sums (a + 1) k)))
          → AllByRecursion (Leads fs) (map (numbered n) (cond b (sum_at (length f.bytes) a (chunk_hash (cut_at a)) ∷ sums (a + 1) k) (sums (a + 1) k)))
      by true h rest = (one_leads a (cut_at a) (ap (slice_get (parts CHUNK_SIZE f.bytes)) (sym here) ∙ same 0) refl h.0, rest h.1)
      by false h rest = rest h

  file_leads : AreByteStrings (row_chunks f) → AllByRecursion (Leads fs) (map (numbered n) (chunk_sums (sums_of f)))
  unfolding parts
  file_leads strings = parts_lead (part_count CHUNK_SIZE (length f.bytes)) 0 (λ j. let e : 0 + j ≡ j = omega arith in ap (slice_get (parts CHUNK_SIZE f.bytes)) e) strings

-- the strings that are hashed are of bytes where the chunks are
uncovered : (xs : List Bytes) → AreByteStrings (map chunk_string xs) → AreByteStrings xs
uncovered [] h = tt
uncovered (x ∷ xs) h = ((cut_bytes (chunk_string []) x h.0).1, uncovered xs h.1)

files_lead : (all fs : List File) (n : ℕ) → ((k : ℕ) → slice_get all (n + k) ≡ slice_get fs k) → AreByteStrings (flat_map (λ f. map chunk_string (row_chunks f)) fs) → AllByRecursion (Leads all) (chunk_rows n (map sums_of fs))
files_lead all [] n same strings = tt
files_lead all (f ∷ fs) n same strings =
    let here : n + 0 ≡ n = omega arith in
    let s = all_parts IsBytes (map chunk_string (row_chunks f)) (flat_map (λ g. map chunk_string (row_chunks g)) fs) strings in
    all_join (Leads all) (map (numbered n) (chunk_sums (sums_of f))) (chunk_rows (suc n) (map sums_of fs))
    (file_leads all n f (ap (slice_get all) (sym here) ∙ same 0) (uncovered (row_chunks f) s.0))
    (files_lead all fs (suc n) (λ k. let e : suc n + k ≡ n + suc k = omega arith in ap (slice_get all) e ∙ same (suc k)) s.1)

rows_lead : (s : State) → IsState s → AllByRecursion (Leads (files s)) (manifest_of s).chunks
unfolding manifest_of manifest_from hashed_strings
rows_lead s valid =
    files_lead (files s) (files s) 0 (λ k. let e : 0 + k ≡ k = omega arith in ap (slice_get (files s)) e)
    (all_parts IsBytes (flat_map (λ f. map chunk_string (row_chunks f)) (files s)) _ (all_parts IsBytes _ _ (all_parts IsBytes _ _ (state_strings s valid)).0).0).0

-- ---- sources

abbrev IsSource : List Height → ChunkSum × Source → Type 0
IsSource heights x = Fits x.0 (bytes_at heights x.1)

in_height : (heights : List Height) (p : Height) → IsFound heights p → IsState p.1 → AllByRecursion (IsSource heights) (sources_in (p.0, manifest_of p.1))
in_height heights p there valid =
    all_map (Leads (files p.1)) (IsSource heights) (λ (r : ChunkRow). (r.sum, record { height = p.0; file = r.file; from = r.sum.offset / CHUNK_SIZE })) one (manifest_of p.1).chunks (rows_lead p.1 valid)
  where
    one : (r : ChunkRow) → Leads (files p.1) r → IsSource heights (r.sum, record { height = p.0; file = r.file; from = r.sum.offset / CHUNK_SIZE })
    one r l =
        let bytes : bytes_at heights (record { height = p.0; file = r.file; from = r.sum.offset / CHUNK_SIZE }) ≡ l.0 =
        ap (λ (o : Option Height). option_map_or (λ (b : Bytes). b) (option_and_then (λ (q : Height). chunk_in (record { height = p.0; file = r.file; from = r.sum.offset / CHUNK_SIZE }) q.1) o) []) there
        ∙ ap (λ (o : Option Bytes). option_map_or (λ (b : Bytes). b) o []) l.1 in
        subst (Fits r.sum) (sym bytes) l.2

in_heights : (heights ps : List Height) → AllByRecursion (IsFound heights) ps → AllByRecursion (λ p. IsState p.1) ps → AllByRecursion (IsSource heights) (flat_map sources_in (manifests_of ps))
in_heights heights [] there valid = tt
in_heights heights (p ∷ ps) there valid =
    all_join (IsSource heights) (sources_in (p.0, manifest_of p.1)) (flat_map sources_in (manifests_of ps)) (in_height heights p there.0 valid.0) (in_heights heights ps there.1 valid.1)

-- ---- hits

-- its bytes are right by the row that it is a hit for
pub record IsHit (heights : List Height) (m : Manifest) (h : Hit) : Type 0 where
  pub right : is_chunk m (bytes_at heights h.source) (slice_get m.chunks h.chunk) ≡ true
  pub string : IsBytes (bytes_at heights h.source)

source_fits : (heights : List Height) (sources : List (ChunkSum × Source)) (sum : ChunkSum) (source : Source) → AllByRecursion (IsSource heights) sources → first_source sources sum ≡ Some source → Fits sum (bytes_at heights source)
source_fits heights sources sum source all e = by (find (same_chunk sum) sources) refl e
  where
    one : (x : ChunkSum × Source) → (same_chunk sum x ≡ true) × IsSource heights x → Fits sum (bytes_at heights x.1)
    one x h =
        let b = and_parts (x.0.size == sum.size) (same_bytes x.0.hash sum.hash) h.0 in
        record { size = h.1.size ∙ eqb-true x.0.size sum.size b.0; hash = h.1.hash ∙ same_bytes_is x.0.hash sum.hash b.1; string = h.1.string }

    same : (x : ChunkSum × Source) → Some x.1 ≡ Some source → x.1 ≡ source
    same x f = cc

    by : (o : Option (ChunkSum × Source)) → find (same_chunk sum) sources ≡ o → option_map (λ (x : ChunkSum × Source). x.1) o ≡ Some source → Fits sum (bytes_at heights source)
    by None is f = absurd cc
    by (Some x) is f = subst (λ (z : Source). Fits sum (bytes_at heights z)) (same x f) (one x (found (IsSource heights) (same_chunk sum) sources x all is))

-- where a row has a source, bytes that fit it have a row
has_one : (m : Manifest) (row : ChunkRow) (bytes : Bytes) → has_source m row ≡ true → Fits row.sum bytes → has_row (row_version m row) bytes ≡ true
has_one m row bytes source fits = by (row_version m row == 1) (is_zeros bytes) refl source
  where
    hash : is_zeros bytes ≡ true → same_bytes row.sum.hash (chunk_hash (replicate row.sum.size 0)) ≡ true
    hash zeros =
        let is : bytes ≡ replicate row.sum.size 0 = zeros_are bytes zeros ∙ ap (λ (k : ℕ). replicate k 0) fits.size in
        subst (λ (x : Bytes). same_bytes row.sum.hash x ≡ true) (sym fits.hash ∙ ap chunk_hash is) (bytes_same row.sum.hash)

    never : (b : Bool) → b ≡ true → not b ≡ true → ⊥
    never true e f = absurd cc
    never false e f = absurd cc

    by : (a b : Bool) → is_zeros bytes ≡ b → (a || not (same_bytes row.sum.hash (chunk_hash (replicate row.sum.size 0)))) ≡ true → (a || not b) ≡ true
    by true b e f = refl
    by false false e f = refl
    by false true e f = absurd (never (same_bytes row.sum.hash (chunk_hash (replicate row.sum.size 0))) (hash e) f)

hit_right : (heights : List Height) (m : Manifest) (sources : List (ChunkSum × Source)) (row : ChunkRow) (source : Source) → AllByRecursion (IsSource heights) sources → source_for m sources row ≡ Some source
    → (is_chunk m (bytes_at heights source) (Some row) ≡ true) × IsBytes (bytes_at heights source)
hit_right heights m sources row source good is =
    let o = sought (has_source m row) refl is in
    let bytes : Bytes = bytes_at heights source in
    let f = source_fits heights sources row.sum source good o.1 in
    let same_hash : same_bytes (chunk_hash bytes) row.sum.hash ≡ true = subst (λ (x : Bytes). same_bytes (chunk_hash bytes) x ≡ true) f.hash (bytes_same (chunk_hash bytes)) in
    let sized : Bool = length bytes == row.sum.size in
    let hashed : Bool = same_bytes (chunk_hash bytes) row.sum.hash in
    (and_from (sized && hashed) (has_row (row_version m row) bytes) (and_from sized hashed (eq-eqb (length bytes) row.sum.size f.size) same_hash) (has_one m row bytes o.0 f), f.string)
  where
    sought : (b : Bool) → has_source m row ≡ b → (if b then first_source sources row.sum else None) ≡ Some source → (has_source m row ≡ true) × (first_source sources row.sum ≡ Some source)
    sought true e f = (e, f)
    sought false e f = absurd cc

hits_right : (heights : List Height) (m : Manifest) (sources : List (ChunkSum × Source)) (i : ℕ) (rs : List ChunkRow) → AllByRecursion (IsSource heights) sources → ((k : ℕ) → slice_get m.chunks (i + k) ≡ slice_get rs k) → AllByRecursion (IsHit heights m) (hits_from m i sources rs)
hits_right heights m sources i [] good same = tt
hits_right heights m sources i (r ∷ rs) good same =
    by (source_for m sources r) refl (hits_right heights m sources (suc i) rs good (λ k. let e : suc i + k ≡ i + suc k = omega arith in ap (slice_get m.chunks) e ∙ same (suc k)))
  where
    at : slice_get m.chunks i ≡ Some r
    at = let here : i ≡ i + 0 = omega arith in ap (slice_get m.chunks) here ∙ same 0

    by : (o : Option Source) → source_for m sources r ≡ o → AllByRecursion (IsHit heights m) (hits_from m (suc i) sources rs) → AllByRecursion (IsHit heights m) (hits_with i o (hits_from m (suc i) sources rs))
    by None is rest = rest
    by (Some source) is rest =
        let h = hit_right heights m sources r source good is in
        (record { right = ap (is_chunk m (bytes_at heights source)) at ∙ h.0; string = h.1 }, rest)

pub local_right : (heights : List Height) (m : Manifest) → ArePublished heights → AllByRecursion (IsHit heights m) (local_hits (manifests_of heights) m)
unfolding local_hits
local_right heights m published =
    hits_right heights m (flat_map sources_in (manifests_of heights)) 0 m.chunks (in_heights heights heights (each_found heights published.ascend) published.valid) (λ k. let e : 0 + k ≡ k = omega arith in ap (slice_get m.chunks) e)

-- ---- what is had then

abbrev pub bytes_of_hits : List Height → List Hit → List (Item × Bytes)
bytes_of_hits heights hits = map (λ h. (chunk h.chunk, bytes_at heights h.source)) hits

-- a chunk that has a hit is held
pub hit_held : (heights : List Height) (m : Manifest) (had : List (Item × Bytes)) (i : ℕ) (hits : List Hit) → AllByRecursion (IsHit heights m) hits → list_any (λ j. j == i) (map (λ (h : Hit). h.chunk) hits) ≡ true → Holds (rows m) (bytes_of_hits heights hits ++ had) (chunk i)
hit_held heights m had i [] good there = absurd cc
hit_held heights m had i (h ∷ hits) good there = by (h.chunk == i) refl there (λ e. hit_held heights m had i hits good.1 e)
  where
    rest : List (Item × Bytes)
    rest = bytes_of_hits heights hits ++ had

    by : (b : Bool) → (h.chunk == i) ≡ b → (b || list_any (λ j. j == i) (map (λ (g : Hit). g.chunk) hits)) ≡ true
        → (list_any (λ j. j == i) (map (λ (g : Hit). g.chunk) hits) ≡ true → Holds (rows m) (bytes_of_hits heights hits ++ had) (chunk i))
        → Holds (rows m) ((chunk h.chunk, bytes_at heights h.source) ∷ (bytes_of_hits heights hits ++ had)) (chunk i)
    by true e f ih =
        let same : h.chunk ≡ i = eqb-true h.chunk i e in
        subst (λ (j : ℕ). Holds (rows m) ((chunk h.chunk, bytes_at heights h.source) ∷ (bytes_of_hits heights hits ++ had)) (chunk j)) same
        (holds_new (rows m) (chunk h.chunk) (bytes_at heights h.source) (bytes_of_hits heights hits ++ had) good.0.right good.0.string)
    by false e f ih = holds_still (rows m) (chunk h.chunk) (chunk i) (bytes_at heights h.source) (bytes_of_hits heights hits ++ had) e (ih f)
