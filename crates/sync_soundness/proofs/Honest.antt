-- What a store that has the state answers is right.
use Rattle.std.proofs.Common.{◌≡◌, ℕ, zero, suc, ◌+◌, ◌-◌, ◌*◌, ◌<◌, ◌≤◌, ◌==◌, ◌&&◌, min, nat_lt, nat_le, cond, Bool, true, false, List, [], ◌∷◌, ◌++◌, length, map, take, drop, slice_get, ◌⊎◌, ◌≢◌, if◌then◌else◌, inl, inr, Option, Some, refl, sym, ap, ◌∙◌, subst, arith}
use Rattle.std.specs.List.{flat_map, AllByRecursion, range_with_len}
use Rattle.std.specs.Int.{div_ceil}
use Rattle.std.specs.Option.{option_map}
use Rattle.std.proofs.lemmas.Bool.{and_parts, and_from, eq-eqb, lt-ltb, le-leb}
use Rattle.std.proofs.lemmas.Bool.Decides.{eqb_tells}
use Rattle.std.proofs.lemmas.Grind.{div_ceil_times}
use Rattle.std.proofs.lemmas.List.{length-append, length-take, length-map}
use Rattle.std.proofs.lemmas.Option.{slice_get-map}
use Rattle.format_spec.specs.Bytes.{Bytes, be32, be64, parts, part_count, same_bytes}
use Rattle.format_spec.specs.Hashes.{ChunkSum, chunk_hash, piece_hash}
use Rattle.format_spec.specs.declared.limits.TheConstants.{CHUNK_SIZE, PIECE_SIZE, HASH_SIZE, MAX_ANSWER}
use Rattle.format_spec.proofs.Cuts.{length-be32, length-be64}
use Rattle.format_spec.proofs.Lists.{all_join, all_filtered}
use Rattle.format_spec.proofs.Parts.{parts_length}
use Rattle.format_spec.proofs.Readings.{same_bytes_is, bytes_same}
use Rattle.state_spec.specs.State.{State, Canister, IsState, system_of}
use Rattle.state_spec.specs.Files.{File, files, memory_files, system_file}
use Rattle.state_spec.specs.Manifest.{Manifest, ChunkRow, manifest_of, manifest_from, file_row, chunk_rows, chunk_sums, sums_of, has_row, row_chunks}
use Rattle.state_spec.specs.ManifestText.{manifest_text}
use Rattle.state_spec.specs.Root.{MetaManifest, IsMeta, meta_of, meta_text, pieces_of, read_meta, root_of, root_of_meta}
use Rattle.state_spec.proofs.BothWays.{meta_again}
use Rattle.soundness.proofs.StatePieces.{meta_good}
use Rattle.sync_spec.specs.Messages.{Item, meta, piece, chunk, Content, Ask, Answer, IsAsk, here, gone, item_text, content_text, ask_text, answer_text}
use Rattle.sync_spec.specs.Rows.{system_number, file_version, row_version}
use Rattle.sync_spec.specs.Serving.{Known, is_taken, has_root, is_piece, is_chunk, here_if, chunks_of, content_of, content_at, serve}
use Rattle.sync_spec.specs.Sync.{Heights, Sync, is_for, is_right_at}
use Rattle.sync_spec.specs.Core.{same_item}
use Rattle.sync_spec.specs.SyncLaws.{message_brings}
use Rattle.sync_spec.proofs.Answers.{answer_only}
use Rattle.sync_spec.proofs.PartAt.{part_there}
use Rattle.soundness.proofs.Texts.{numbered, rows_from, with_rows}
use Rattle.sync_soundness.proofs.Slots.{sum_at, sums_cons, Sized}
use Rattle.sync_soundness.proofs.Files.{cut_size, parts_sized}
use Rattle.sync_soundness.proofs.Filled.{Fit, memory_version, system_version}
use Rattle.sync_spec.proofs.Lasting.{found}
use Rattle.sync_soundness.specs.Honest.{known_of, IsItemOf, ServesRight, BringsServed}

-- ---- the meta-manifest

root_had : (s : State) (m : MetaManifest) (o : Option MetaManifest) → o ≡ Some m → m ≡ meta_of (manifest_of s) → is_taken m.version ≡ true → has_root (root_of s) o ≡ true
unfolding root_of
root_had s m o is of taken =
    ap (has_root (root_of s)) is
    ∙ and_from (is_taken m.version) (same_bytes (root_of_meta m) (root_of s)) taken
    (ap (λ (x : MetaManifest). same_bytes (root_of_meta x) (root_of s)) of ∙ bytes_same (root_of s))

meta_right : (s : State) → IsState s → is_taken s.version ≡ true → is_right_at (Some (known_of s meta)) meta (content_of s meta) ≡ true
unfolding meta_of manifest_of manifest_from
meta_right s valid taken = root_had s (meta_of (manifest_of s)) (read_meta (meta_text (meta_of (manifest_of s)))) (meta_again (meta_of (manifest_of s)) (meta_good s valid)) refl taken

-- ---- pieces

-- the size of the piece of this number, of so many
abbrev sized : ℕ → ℕ → Bytes → Bool
sized i count part = if suc i == count then nat_lt 0 (length part) && nat_le (length part) PIECE_SIZE else length part == PIECE_SIZE

piece_fits : (len i count : ℕ) (part : Bytes) → length part ≡ min PIECE_SIZE (len - i * PIECE_SIZE) → len ≤ count * PIECE_SIZE → count * PIECE_SIZE < len + PIECE_SIZE → i < count → sized i count part ≡ true
piece_fits len i count part size low high within = by (eqb_tells (suc i) count)
  where
    by : ((suc i == count) ≡ true) × (suc i ≡ count) ⊎ ((suc i == count) ≡ false) × (suc i ≢ count) → sized i count part ≡ true
    by (inl last) = rw last.0 (and_from (nat_lt 0 (length part)) (nat_le (length part) PIECE_SIZE) (lt-ltb 0 (length part) (omega (arith, size, low, high, last.1))) (le-leb (length part) PIECE_SIZE (omega (arith, size))))
    by (inr early) = rw early.0 (eq-eqb (length part) PIECE_SIZE (omega (arith, size, low, high, within, early.1)))

begins_within : (i count len : ℕ) → count * PIECE_SIZE < len + PIECE_SIZE → i < count → i * PIECE_SIZE < len
begins_within i count len high within = omega (arith, high, within)

piece_right : (s : State) (i : ℕ) → i < length (meta_of (manifest_of s)).pieces → is_right_at (Some (known_of s (piece i))) (piece i) (content_of s (piece i)) ≡ true
unfolding meta_of
piece_right s i within =
    let text = manifest_text (manifest_of s) in
    let all = parts PIECE_SIZE text in
    let part = take PIECE_SIZE (drop (i * PIECE_SIZE) text) in
    let count = length (map piece_hash all) in
    let many : count ≡ div_ceil (length text) PIECE_SIZE = length-map all piece_hash ∙ parts_length PIECE_SIZE text in
    let bounds = div_ceil_times (length text) PIECE_SIZE (omega arith) in
    let low : length text ≤ count * PIECE_SIZE = subst (λ (n : ℕ). length text ≤ n * PIECE_SIZE) (sym many) bounds.0 in
    let high : count * PIECE_SIZE < length text + PIECE_SIZE = subst (λ (n : ℕ). n * PIECE_SIZE < length text + PIECE_SIZE) (sym many) bounds.1 in
    let there : slice_get all i ≡ Some part = part_there PIECE_SIZE text i (omega arith) (begins_within i count (length text) high within) in
    let hash : slice_get (map piece_hash all) i ≡ Some (piece_hash part) = slice_get-map piece_hash all i ∙ ap (option_map piece_hash) there in
    ap (λ (o : Option Bytes). is_right_at (Some (known_of s (piece i))) (piece i) (here_if o)) there
    ∙ ap (is_piece (suc i == count) part) hash
    ∙ and_from (same_bytes (piece_hash part) (piece_hash part)) (sized i count part) (bytes_same (piece_hash part)) (piece_fits (length text) i count part (cut_size PIECE_SIZE i text) low high within)

-- ---- chunks

fit_append : (v : ℕ → ℕ) (xs ys : List ChunkRow) (ps qs : List Bytes) → Fit v xs ps → Fit v ys qs → Fit v (xs ++ ys) (ps ++ qs)
fit_append v [] ys [] qs first second = second
fit_append v [] ys (p ∷ ps) qs first second = absurd first
fit_append v (x ∷ xs) ys [] qs first second = absurd first
fit_append v (x ∷ xs) ys (p ∷ ps) qs first second = (first.0, first.1, first.2, fit_append v xs ys ps qs first.3 second)

-- the version of each file is this
abbrev HaveVersions : (ℕ → ℕ) → ℕ → List File → Type 0
HaveVersions v n [] = Unit {0}
HaveVersions v n (f ∷ fs) = (f.version ≡ v n) × HaveVersions v (suc n) fs

sums_fit : (v : ℕ → ℕ) (w n size a : ℕ) (cs : List Bytes) → w ≡ v n → Sized size a cs → Fit v (map (numbered n) (rows_from w size a cs)) (with_rows w cs)
sums_fit v w n size a [] is sized = tt
sums_fit v w n size a (c ∷ cs) is sized = subst (λ (xs : List ChunkSum). Fit v (map (numbered n) xs) (with_rows w (c ∷ cs))) (sym (sums_cons w size a c cs)) (by (has_row w c) refl (sums_fit v w n size (a + 1) cs is sized.1))
  where
    by : (b : Bool) → has_row w c ≡ b → Fit v (map (numbered n) (rows_from w size (a + 1) cs)) (with_rows w cs)
        → Fit v (map (numbered n) (cond b (sum_at size a (chunk_hash c) ∷ rows_from w size (a + 1) cs) (rows_from w size (a + 1) cs))) (cond b (c ∷ with_rows w cs) (with_rows w cs))
    by true e rest = (sized.0, refl, ap (λ (k : ℕ). has_row k c) (sym is) ∙ e, rest)
    by false e rest = rest

-- each row of a manifest has the size and the hash of its chunk
files_fit : (v : ℕ → ℕ) (n : ℕ) (fs : List File) → HaveVersions v n fs → Fit v (chunk_rows n (map sums_of fs)) (flat_map row_chunks fs)
files_fit v n [] h = tt
files_fit v n (f ∷ fs) h =
    fit_append v (map (numbered n) (chunk_sums (sums_of f))) (chunk_rows (suc n) (map sums_of fs)) (row_chunks f) (flat_map row_chunks fs)
    (sums_fit v f.version n (length f.bytes) 0 (parts CHUNK_SIZE f.bytes) h.0 (parts_sized f.bytes)) (files_fit v (suc n) fs h.1)

have_append : (v : ℕ → ℕ) (w n : ℕ) (fs ends : List File) → AllByRecursion (λ f. f.version ≡ w) fs → ((i : ℕ) → n ≤ i → i < n + length fs → v i ≡ w) → HaveVersions v (n + length fs) ends → HaveVersions v n (fs ++ ends)
have_append v w n [] ends all is rest = let here : n + 0 ≡ n = omega arith in subst (λ (k : ℕ). HaveVersions v k ends) here rest
have_append v w n (f ∷ fs) ends all is rest =
    let next : n + suc (length fs) ≡ suc n + length fs = omega arith in (
      all.0 ∙ sym (is n (omega arith) (omega arith)),
      have_append v w (suc n) fs ends all.1 (λ i low high. is i (omega (arith, low)) (omega (arith, high))) (subst (λ (k : ℕ). HaveVersions v k ends) next rest),
    )

one_version : (w : ℕ) (cs : List (Bytes × Canister)) → AllByRecursion (λ f. f.version ≡ w) (memory_files w cs)
one_version w [] = tt
one_version w (c ∷ cs) = (refl, (refl, one_version w cs))

file_versions : (s : State) → HaveVersions (file_version (manifest_of s)) 0 (files s)
unfolding manifest_of manifest_from files
file_versions s =
    let m : Manifest = manifest_of s in
    let mems : List File = memory_files s.version s.canisters in
    let ends : List File = system_file (system_of s) ∷ [] in
    let rows : length (map file_row (map sums_of (mems ++ ends))) ≡ length (mems ++ ends) = length-map (map sums_of (mems ++ ends)) file_row ∙ length-map (mems ++ ends) sums_of in
    let many : system_number m ≡ length mems = omega (arith, rows, length-append mems ends) in
    let last : 1 ≡ file_version m (0 + length mems) = sym (ap (file_version m) (let e : 0 + length mems ≡ system_number m = omega (arith, many) in e) ∙ system_version m) in
    have_append (file_version m) s.version 0 mems ends (one_version s.version s.canisters) (λ i low high. memory_version m i (omega (arith, high, many))) (last, tt)

right_at : (m : Manifest) (rs : List ChunkRow) (cs : List Bytes) (i : ℕ) → Fit (file_version m) rs cs → i < length rs → (bytes : Bytes) × (slice_get cs i ≡ Some bytes) × (is_chunk m bytes (slice_get rs i) ≡ true)
right_at m [] cs i fit within = absurd (omega (arith, within))
right_at m (r ∷ rs) [] i fit within = absurd fit
right_at m (r ∷ rs) (c ∷ cs) zero fit within =
    let sized : Bool = length c == r.sum.size in
    let hashed : Bool = same_bytes (chunk_hash c) r.sum.hash in
    let both = and_from sized hashed (eq-eqb (length c) r.sum.size fit.0) (subst (λ (h : Bytes). same_bytes (chunk_hash c) h ≡ true) fit.1 (bytes_same (chunk_hash c))) in
    (c, refl, and_from (sized && hashed) (has_row (row_version m r) c) both fit.2)
right_at m (r ∷ rs) (c ∷ cs) (suc i) fit within = right_at m rs cs i fit.3 (omega (arith, within))

chunks_fit : (s : State) → Fit (file_version (manifest_of s)) (manifest_of s).chunks (chunks_of s)
unfolding manifest_of manifest_from
chunks_fit s = files_fit (file_version (manifest_of s)) 0 (files s) (file_versions s)

chunk_right : (s : State) (i : ℕ) → i < length (manifest_of s).chunks → is_right_at (Some (known_of s (chunk i))) (chunk i) (content_of s (chunk i)) ≡ true
chunk_right s i within =
    let r = right_at (manifest_of s) (manifest_of s).chunks (chunks_of s) i (chunks_fit s) within in
    ap (λ (o : Option Bytes). is_right_at (Some (known_of s (chunk i))) (chunk i) (here_if o)) r.1 ∙ r.2

-- ---- what is served

pub item_right : (s : State) (item : Item) → IsState s → IsItemOf s item → is_right_at (Some (known_of s item)) item (content_of s item) ≡ true
item_right s meta valid of = meta_right s valid of
item_right s (piece i) valid of = piece_right s i of
item_right s (chunk i) valid of = chunk_right s i of

pub served_right : (heights : Heights) (ask : Ask) (p : ℕ × State) → ServesRight heights ask p
unfolding serve
served_right heights ask p valid is of =
    let has = found (λ (q : ℕ × State). IsState q.1) (λ (q : ℕ × State). q.0 == ask.height && same_bytes (root_of q.1) ask.root) heights p valid is in
    let same = (and_parts (p.0 == ask.height) (same_bytes (root_of p.1) ask.root) has.0).1 in (
      same_bytes_is (root_of p.1) ask.root same,
      ap (λ (o : Option (ℕ × State)). is_right_at (Some (known_of p.1 ask.item)) ask.item (content_at o ask.item)) is ∙ item_right p.1 ask.item has.1 of,
    )

-- ---- its message is short enough

abbrev IsShort : Bytes → Type 0
IsShort bytes = length bytes ≤ CHUNK_SIZE

abbrev FitsChunk : Content → Type 0
FitsChunk gone = Unit {0}
FitsChunk (here bytes) = IsShort bytes

hashes_long : (hs : List Bytes) → AllByRecursion (λ hash. length hash ≡ HASH_SIZE) hs → length (flat_map (λ hash. hash) hs) ≡ 32 * length hs
hashes_long [] each = refl
hashes_long (h ∷ hs) each = omega (arith, length-append h (flat_map (λ hash. hash) hs), each.0, hashes_long hs each.1)

meta_short : (m : MetaManifest) → IsMeta m → IsShort (meta_text m)
meta_short m good =
    let rest = flat_map (λ hash. hash) m.pieces in
    omega (arith, length-append (be32 m.version) (be32 (length m.pieces) ++ rest), length-append (be32 (length m.pieces)) rest, length-be32 m.version, length-be32 (length m.pieces), hashes_long m.pieces good.hashes, good.few_pieces)

parts_short : (n : ℕ) (s : Bytes) → n ≤ CHUNK_SIZE → AllByRecursion IsShort (parts n s)
unfolding parts
parts_short n s le = each (part_count n (length s)) 0
  where
    each : (k a : ℕ) → AllByRecursion IsShort (map (λ i. take n (drop (i * n) s)) (range_with_len a k))
    each zero a = tt
    each (suc k) a = (omega (arith, length-take n (drop (a * n) s), le), each k (a + 1))

chunks_short : (fs : List File) → AllByRecursion IsShort (flat_map row_chunks fs)
chunks_short [] = tt
chunks_short (f ∷ fs) = all_join IsShort (row_chunks f) (flat_map row_chunks fs) (all_filtered IsShort (has_row f.version) (parts CHUNK_SIZE f.bytes) (parts_short CHUNK_SIZE f.bytes (omega arith))) (chunks_short fs)

one_short : (xs : List Bytes) (i : ℕ) → AllByRecursion IsShort xs → FitsChunk (here_if (slice_get xs i))
one_short [] i each = tt
one_short (x ∷ xs) zero each = each.0
one_short (x ∷ xs) (suc i) each = one_short xs i each.1

content_short : (s : State) (item : Item) → IsState s → FitsChunk (content_of s item)
content_short s meta valid = meta_short (meta_of (manifest_of s)) (meta_good s valid)
content_short s (piece i) valid = one_short (pieces_of (manifest_of s)) i (parts_short PIECE_SIZE (manifest_text (manifest_of s)) (omega arith))
content_short s (chunk i) valid = one_short (chunks_of s) i (chunks_short (files s))

item_long : (item : Item) → length (item_text item) ≡ 5
item_long meta = ap suc (length-be32 0)
item_long (piece i) = ap suc (length-be32 i)
item_long (chunk i) = ap suc (length-be32 i)

content_long : (c : Content) → FitsChunk c → length (content_text c) ≤ 1 + CHUNK_SIZE
content_long gone fits = omega arith
content_long (here bytes) fits = omega (arith, fits)

answer_long : (a : Answer) → IsAsk a.ask → FitsChunk a.content → length (answer_text a) ≤ MAX_ANSWER
unfolding answer_text ask_text
answer_long a is fits =
    let item = item_text a.ask.item in
    omega (arith, length-append (be64 a.ask.height ++ a.ask.root ++ item) (content_text a.content), length-append (be64 a.ask.height) (a.ask.root ++ item), length-append a.ask.root item, length-be64 a.ask.height, is.root, item_long a.ask.item, content_long a.content fits)

-- ---- a sync takes it

same_self : (item : Item) → same_item item item ≡ true
same_self meta = refl
same_self (piece i) = eq-eqb i i refl
same_self (chunk i) = eq-eqb i i refl

pub served_brings : (heights : Heights) (ask : Ask) (p : ℕ × State) (s : Sync) → BringsServed heights ask p s
unfolding serve
served_brings heights ask p s valid is of good height hash known =
    let a = serve heights ask in
    let has = found (λ (q : ℕ × State). IsState q.1) (λ (q : ℕ × State). q.0 == ask.height && same_bytes (root_of q.1) ask.root) heights p valid is in
    let right = (served_right heights ask p valid is of).1 in
    let short : FitsChunk a.content = subst (λ (o : Option (ℕ × State)). FitsChunk (content_at o ask.item)) (sym is) (content_short p.1 ask.item has.1) in
    let read = answer_only a (record { ask = good; fits = answer_long a good short }) in
    ap (λ (o : Option Answer). message_brings s o ask.item) read
    ∙ and_from (is_for s ask) _ (and_from (ask.height == s.height) (same_bytes ask.root s.root) (eq-eqb ask.height s.height height) (subst (λ (r : Bytes). same_bytes ask.root r ≡ true) hash (bytes_same ask.root)))
    (and_from (same_item ask.item ask.item) _ (same_self ask.item) (ap (λ (k : Option Known). is_right_at k ask.item a.content) known ∙ right))
