-- The hashes of files against their chunk rows, file by file.
use Rattle.std.proofs.Common.{take-add, ◌≡◌, ℕ, zero, suc, ◌+◌, ◌-◌, ◌*◌, ◌<◌, ◌≤◌, Bool, true, false, cond, List, [], ◌∷◌, ◌++◌, length, map, take, drop, get_or, Some, None, refl, sym, ap, subst, ◌∙◌, eq-eqb, ne_eqb, inl, inr, arith}
use Rattle.std.specs.Prelude.{◌==◌, filter}
use Rattle.std.specs.List.{AllByRecursion, prefix_len}
use Rattle.std.proofs.lemmas.List.{length-append, take_all, length-drop, take-append-drop, drop-drop, drop_more, drop_all, append-nil}
use Rattle.format_spec.specs.Bytes.{Bytes, be64, same_bytes, short_string}
use Rattle.format_spec.proofs.Lists.{cases_eqb}
use Rattle.format_spec.specs.Hashes.{ChunkSum, file_hash}
use Rattle.state_spec.specs.Manifest.{FileRow, ChunkRow, sums_in}
use Rattle.state_spec.specs.ManifestText.{wrong_hash, file_row_text}
use Rattle.manifest.specs.Reading.{InOrder}

-- ---- the rows of one file

-- by the numbers of their files
none_of : (n : ℕ) (rows : List ChunkRow) → AllByRecursion (λ r. (r.file ≡ n) → ⊥) rows → filter (λ (r : ChunkRow). r.file == n) rows ≡ []
none_of n [] other = refl
none_of n (r ∷ rows) other = rw (ne_eqb r.file n other.0) (none_of n rows other.1)

all_of : (n : ℕ) (rows : List ChunkRow) → AllByRecursion (λ r. r.file ≡ n) rows → filter (λ (r : ChunkRow). r.file == n) rows ≡ rows
all_of n [] own = refl
all_of n (r ∷ rows) own = rw (eq-eqb r.file n own.0) (ap (λ (rs : List ChunkRow). r ∷ rs) (all_of n rows own.1))

filter_join : (n : ℕ) (xs ys : List ChunkRow) → filter (λ (r : ChunkRow). r.file == n) (xs ++ ys) ≡ filter (λ (r : ChunkRow). r.file == n) xs ++ filter (λ (r : ChunkRow). r.file == n) ys
filter_join n [] ys = refl
filter_join n (x ∷ xs) ys = go (x.file == n) (filter_join n xs ys)
  where
    go : (b : Bool) → filter (λ (r : ChunkRow). r.file == n) (xs ++ ys) ≡ filter (λ (r : ChunkRow). r.file == n) xs ++ filter (λ (r : ChunkRow). r.file == n) ys
        → cond b (x ∷ filter (λ (r : ChunkRow). r.file == n) (xs ++ ys)) (filter (λ (r : ChunkRow). r.file == n) (xs ++ ys)) ≡ cond b (x ∷ filter (λ (r : ChunkRow). r.file == n) xs) (filter (λ (r : ChunkRow). r.file == n) xs) ++ filter (λ (r : ChunkRow). r.file == n) ys
    go true rest = ap (λ (rs : List ChunkRow). x ∷ rs) rest
    go false rest = rest

own_sums : (n : ℕ) (before own after : List ChunkRow) → AllByRecursion (λ r. (r.file ≡ n) → ⊥) before → AllByRecursion (λ r. r.file ≡ n) own → AllByRecursion (λ r. (r.file ≡ n) → ⊥) after
    → sums_in n (before ++ (own ++ after)) ≡ map (λ (r : ChunkRow). r.sum) own
own_sums n before own after low here high =
    ap (map (λ (r : ChunkRow). r.sum))
    (filter_join n before (own ++ after) ∙ ap (λ (rs : List ChunkRow). rs ++ filter (λ (r : ChunkRow). r.file == n) (own ++ after)) (none_of n before low)
    ∙ filter_join n own after ∙ ap (λ (rs : List ChunkRow). filter (λ (r : ChunkRow). r.file == n) own ++ rs) (none_of n after high)
    ∙ append-nil (filter (λ (r : ChunkRow). r.file == n) own) ∙ all_of n own here)

-- ---- rows in order

-- how many at the front are of this file
abbrev pub own_count : ℕ → List ChunkRow → ℕ
own_count n rows = prefix_len (λ (r : ChunkRow). r.file == n) rows

record Split (n end k : ℕ) (rows : List ChunkRow) : Type 0 where
  own : AllByRecursion (λ r. r.file ≡ n) (take k rows)
  behind : InOrder (suc n) end (drop k rows)
  fits : k ≤ length rows

split : (n end : ℕ) (rows : List ChunkRow) → InOrder n end rows → Split n end (own_count n rows) rows
split n end [] h = record { own = tt; behind = tt; fits = omega arith }
split n end (r ∷ rows) h = elim (cases_eqb r.file n) [
  | inl same ↦
      let more = split n end rows (subst (λ (k : ℕ). InOrder k end rows) same.0 h.2) in
      let fits = more.fits in
      let one : 1 + own_count n rows ≡ suc (own_count n rows) = omega arith in
      subst (λ (k : ℕ). Split n end k (r ∷ rows)) (sym (ap (λ (b : Bool). cond b (1 + own_count n rows) 0) same.1 ∙ one))
      (record { own = (same.0, more.own); behind = more.behind; fits = omega (arith, fits) })
  | inr other ↦
      let low : n ≤ r.file = h.0 in
      let apart = other.0 in
      subst (λ (k : ℕ). Split n end k (r ∷ rows)) (sym (ap (λ (b : Bool). cond b (1 + own_count n rows) 0) other.1))
      (record { own = tt; behind = (omega (arith, low, apart), h.1, h.2); fits = omega arith })
]

rows_high : (n m end : ℕ) (rows : List ChunkRow) → n < m → InOrder m end rows → AllByRecursion (λ r. (r.file ≡ n) → ⊥) rows
rows_high n m end [] lt h = tt
rows_high n m end (r ∷ rows) lt h =
    let low : m ≤ r.file = h.0 in
    ((λ same. omega (arith, low, same, lt)), rows_high n r.file end rows (omega (arith, low, lt)) h.2)

-- ---- how far the files are judged

weaker : (n : ℕ) (rows : List ChunkRow) → AllByRecursion (λ r. r.file < n) rows → AllByRecursion (λ r. r.file < n + 1) rows
weaker n [] h = tt
weaker n (r ∷ rows) h = ((let lt : r.file < n = h.0 in omega arith), weaker n rows h.1)

other : (n : ℕ) (rows : List ChunkRow) → AllByRecursion (λ r. r.file < n) rows → AllByRecursion (λ r. (r.file ≡ n) → ⊥) rows
other n [] h = tt
other n (r ∷ rows) h = ((λ same. let lt : r.file < n = h.0 in omega arith), other n rows h.1)

low : (n : ℕ) (rows : List ChunkRow) → AllByRecursion (λ r. r.file ≡ n) rows → AllByRecursion (λ r. r.file < n + 1) rows
low n [] h = tt
low n (r ∷ rows) h = ((let same : r.file ≡ n = h.0 in omega arith), low n rows h.1)

join_low : (n : ℕ) (xs ys : List ChunkRow) → AllByRecursion (λ r. r.file < n) xs → AllByRecursion (λ r. r.file < n) ys → AllByRecursion (λ r. r.file < n) (xs ++ ys)
join_low n [] ys h k = k
join_low n (x ∷ xs) ys h k = (h.0, join_low n xs ys h.1 k)

pub record Judged (files : List FileRow) (chunks : List ChunkRow) (n at begin : ℕ) : Type 0 where
  pub so_far : wrong_hash n at (drop n files) chunks ≡ wrong_hash 0 12 files chunks
  pub rest : InOrder n (length files) (drop begin chunks)
  pub before : AllByRecursion (λ r. r.file < n) (take begin chunks)
  pub at_small : at ≤ 12 + 300 * n
  pub within : begin ≤ length chunks

module _ (files : List FileRow) (chunks : List ChunkRow) (n at begin : ℕ) (judged : Judged files chunks n at begin) (row : FileRow) (more : n < length files) (here : row ≡ get_or files n row) where
  left_is : drop n files ≡ row ∷ drop (n + 1) files
  left_is = drop_more files n row more ∙ ap (λ (r : FileRow). r ∷ drop (n + 1) files) (sym here)

  abbrev k : ℕ
  k = own_count n (drop begin chunks)

  split_here : Split n (length files) k (drop begin chunks)
  split_here = split n (length files) (drop begin chunks) judged.rest

  -- the rows are there
  pub rows_room : begin + k ≤ length chunks
  rows_room = let c = split_here.fits in let w = judged.within in omega (arith, length-drop begin chunks)

  whole_is : chunks ≡ take begin chunks ++ (take k (drop begin chunks) ++ drop k (drop begin chunks))
  whole_is = sym (take-append-drop begin chunks) ∙ ap (λ (rs : List ChunkRow). take begin chunks ++ rs) (sym (take-append-drop k (drop begin chunks)))

  -- they are all that the file has
  pub sums_here : sums_in n chunks ≡ map (λ (r : ChunkRow). r.sum) (take k (drop begin chunks))
  sums_here =
      ap (sums_in n) whole_is
      ∙ own_sums n (take begin chunks) (take k (drop begin chunks)) (drop k (drop begin chunks)) (other n (take begin chunks) judged.before) split_here.own
      (rows_high n (suc n) (length files) (drop k (drop begin chunks)) (omega arith) split_here.behind)

  module _ (own : List ChunkSum) (shown : own ≡ map (λ (r : ChunkRow). r.sum) (take k (drop begin chunks))) where
    judged_by : (b : Bool) → same_bytes row.hash (file_hash own) ≡ b → same_bytes row.hash (file_hash (sums_in n chunks)) ≡ b
    judged_by b e = ap (λ (ss : List ChunkSum). same_bytes row.hash (file_hash ss)) (sums_here ∙ sym shown) ∙ e

    pub judged_wrong : same_bytes row.hash (file_hash own) ≡ false → Some (at + 9 + length row.name) ≡ wrong_hash 0 12 files chunks
    unfolding wrong_hash
    judged_wrong bad =
        let place : at + 9 + length row.name ≡ at + length (short_string row.name) + 8 = omega arith in
        ap (λ (p : ℕ). Some p) place ∙ sym (ap (λ (fs : List FileRow). wrong_hash n at fs chunks) left_is ∙ rw (judged_by false bad) refl) ∙ judged.so_far

    pub judged_more : same_bytes row.hash (file_hash own) ≡ true → length row.name < 256 → length row.hash ≡ 32 → Judged files chunks (n + 1) (at + 9 + length row.name + 32) (begin + k)
    unfolding wrong_hash
    judged_more good short hash =
        let next : n + 1 ≡ suc n = omega arith in
        let text : length (file_row_text row) ≡ 1 + length row.name + 8 + length row.hash = omega (arith, length-append (row.name ++ be64 row.size) row.hash, length-append row.name (be64 row.size)) in
        let place : at + 9 + length row.name + 32 ≡ at + length (file_row_text row) = omega arith in
        let small = judged.at_small in
        record {
          so_far = ap (λ (m : ℕ). wrong_hash m (at + 9 + length row.name + 32) (drop (n + 1) files) chunks) next
              ∙ ap (λ (p : ℕ). wrong_hash (suc n) p (drop (n + 1) files) chunks) place
              ∙ sym (ap (λ (fs : List FileRow). wrong_hash n at fs chunks) left_is ∙ rw (judged_by true good) refl) ∙ judged.so_far;
          rest = subst (InOrder (n + 1) (length files)) (drop-drop k begin chunks) (subst (λ (m : ℕ). InOrder m (length files) (drop k (drop begin chunks))) (sym next) split_here.behind);
          before = subst (AllByRecursion (λ r. r.file < n + 1)) (sym (take-add begin k chunks)) (join_low (n + 1) (take begin chunks) (take k (drop begin chunks)) (weaker n (take begin chunks) judged.before) (low n (take k (drop begin chunks)) split_here.own));
          at_small = omega arith;
          within = rows_room;
        }

-- all files
pub judged_all : (files : List FileRow) (chunks : List ChunkRow) (n at begin : ℕ) → Judged files chunks n at begin → length files ≤ n → None ≡ wrong_hash 0 12 files chunks
unfolding wrong_hash
judged_all files chunks n at begin judged all = sym (ap (λ (fs : List FileRow). wrong_hash n at fs chunks) (drop_all n files all)) ∙ judged.so_far

pub all_at : {X : Type 0} (P : X → Type 0) (xs : List X) (i : ℕ) (x : X) → AllByRecursion P xs → i < length xs → x ≡ get_or xs i x → P x
all_at P [] i x all lt is = absurd (omega arith)
all_at P (y ∷ xs) zero x all lt is = subst P (sym is) all.0
all_at P (y ∷ xs) (suc i) x all lt is = all_at P xs i x all.1 (omega arith) is

-- as the code tests it
pub tested : (hash shown total shown_total : Bytes) (own given : List ChunkSum) (test result : Bool) → shown ≡ hash → shown_total ≡ total → total ≡ file_hash given → given ≡ own
    → test ≡ same_bytes shown shown_total → test ≡ result → same_bytes hash (file_hash own) ≡ result
tested hash shown total shown_total own given test result e1 e2 e3 e4 e5 e6 =
    ap (λ (ss : List ChunkSum). same_bytes hash (file_hash ss)) (sym e4) ∙ ap (same_bytes hash) (sym (e2 ∙ e3)) ∙ ap (λ (h : Bytes). same_bytes h shown_total) (sym e1) ∙ sym e5 ∙ e6

-- the rows that the code takes
pub taken_rows : (chunks : List ChunkRow) (begin count k : ℕ) (sums : List ChunkSum) → count ≡ k → sums ≡ map (λ (r : ChunkRow). r.sum) (take (begin + count - begin) (drop begin chunks))
    → sums ≡ map (λ (r : ChunkRow). r.sum) (take k (drop begin chunks))
taken_rows chunks begin count k sums is shown =
    let same : begin + count - begin ≡ k = omega arith in
    shown ∙ ap (λ (m : ℕ). map (λ (r : ChunkRow). r.sum) (take m (drop begin chunks))) same

pub count_here : (n begin count : ℕ) (chunks : List ChunkRow) → count ≡ own_count n (take (length chunks - begin) (drop begin chunks)) → count ≡ own_count n (drop begin chunks)
count_here n begin count chunks is = is ∙ ap (own_count n) (take_all (length chunks - begin) (drop begin chunks) (omega (arith, length-drop begin chunks)))
