-- An index of rows, and one row more.
use Rattle.std.proofs.Common.{append_assoc, ◌≡◌, ℕ, suc, ◌+◌, ◌*◌, ◌/◌, ◌<◌, ◌&&◌, ◌==◌, Bool, true, false, cond, List, [], ◌∷◌, ◌++◌, length, map, take, get_or, Option, None, Some, is_some, refl, sym, ap, ◌∙◌, subst, arith}
use Rattle.std.proofs.lemmas.Bool.Decides.{nat_tests}
use Rattle.std.specs.List.{enumerate_from, flat_map, find}
use Rattle.std.specs.Option.{option_map, option_or}
use Rattle.std.proofs.lemmas.List.{take_more, map-append, length-take}
use Rattle.std.proofs.lemmas.List.Folds.{find-append}
use Rattle.std.proofs.lemmas.List.Concat.{flat_map-append}
use Rattle.format_spec.specs.Bytes.{Bytes, same_bytes}
use Rattle.format_spec.specs.Hashes.{ChunkSum}
use Rattle.format_spec.specs.declared.limits.TheConstants.{CHUNK_SIZE}
use Rattle.format_spec.proofs.Readings.{same_bytes_is}
use Rattle.state_spec.specs.Manifest.{ChunkRow, chunk_size_at, row_of}
use Rattle.chunk_index.specs.declared.index.Place.{Place}
use Rattle.chunk_index.specs.Index.{Places, Indexes, is_chunk, place_of, first_place, row_at, rows_at, rows_of, place_in}

-- ---- the first place

pub first_place-append : (xs ys : List ChunkRow) (size : ℕ) (hash : Bytes) → first_place (xs ++ ys) size hash ≡ option_or (first_place xs size hash) (first_place ys size hash)
first_place-append xs ys size hash = ap (option_map place_of) (find-append test xs ys) ∙ mapped (find test xs) (find test ys)
  where
    test : ChunkRow → Bool
    test r = is_chunk size hash r.sum

    mapped : (a b : Option ChunkRow) → option_map place_of (option_or a b) ≡ option_or (option_map place_of a) (option_map place_of b)
    mapped None b = refl
    mapped (Some r) b = refl

place_again : (size : ℕ) (hash : Bytes) (place : Place) → place_of (row_at size hash place) ≡ place
place_again size hash place = let same : place.chunk * CHUNK_SIZE / CHUNK_SIZE ≡ place.chunk = omega arith in ap at same
  where
    at : ℕ → Place
    at k = record { file = place.file; chunk = k }

-- ---- a row is put behind others

module _ (size : ℕ) (hash : Bytes) (place : Place) (rows : List ChunkRow) where
  abbrev is_row : ℕ → Bytes → Bool
  is_row s h = (size == s) && same_bytes hash h

  -- what the rows have for a size and a hash where the last row has it or hasn't
  last : (s : ℕ) (h : Bytes) → first_place (rows ++ row_at size hash place ∷ []) s h ≡ option_or (first_place rows s h) (cond (is_row s h) (Some place) None)
  last s h = first_place-append rows (row_at size hash place ∷ []) s h ∙ ap (option_or (first_place rows s h)) (at (is_row s h))
    where
      at : (b : Bool) → option_map place_of (cond b (Some (row_at size hash place)) None) ≡ cond b (Some place) None
      at true = ap Some (place_again size hash place)
      at false = refl

  same_key : (s : ℕ) (h : Bytes) → is_row s h ≡ true → (size ≡ s) × (hash ≡ h)
  same_key s h is = (grind (arith, nat_tests, is), same_bytes_is hash h (grind (arith, is)))

  -- the places have that size and hash already
  pub row_there : (places : Places) → is_some (place_in places size hash) ≡ true → Indexes places rows → Indexes places (rows ++ row_at size hash place ∷ [])
  row_there places there indexed s h = by (is_row s h) refl (first_place rows s h) refl
    where
      by : (b : Bool) → is_row s h ≡ b → (o : Option Place) → first_place rows s h ≡ o → place_in places s h ≡ first_place (rows ++ row_at size hash place ∷ []) s h
      by b is (Some p) found = indexed s h ∙ found ∙ sym (last s h ∙ ap (λ (o : Option Place). option_or o (cond (is_row s h) (Some place) None)) found)
      by false is None found = indexed s h ∙ found ∙ sym (last s h ∙ ap (λ (o : Option Place). option_or o (cond (is_row s h) (Some place) None)) found ∙ ap (λ (b : Bool). cond b (Some place) None) is)
      by true is None found =
          let same = same_key s h is in
          let none : place_in places size hash ≡ None = ap (λ (n : ℕ). place_in places n hash) same.0 ∙ ap (place_in places s) same.1 ∙ indexed s h ∙ found in
          let some : is_some (place_in places size hash) ≡ false = ap is_some none in
          cc

  -- the places get it
  pub row_new : (old new : Places) → is_some (place_in old size hash) ≡ false → ((s : ℕ) (h : Bytes) → place_in new s h ≡ cond (is_row s h) (Some place) (place_in old s h))
      → Indexes old rows → Indexes new (rows ++ row_at size hash place ∷ [])
  row_new old new absent put indexed s h = put s h ∙ by (is_row s h) refl ∙ sym (last s h)
    where
      by : (b : Bool) → is_row s h ≡ b → cond (is_row s h) (Some place) (place_in old s h) ≡ option_or (first_place rows s h) (cond (is_row s h) (Some place) None)
      by false is =
          ap (λ (b : Bool). cond b (Some place) (place_in old s h)) is ∙ indexed s h ∙ or_none (first_place rows s h) ∙ sym (ap (λ (b : Bool). option_or (first_place rows s h) (cond b (Some place) None)) is)
        where
          or_none : (o : Option Place) → o ≡ option_or o None
          or_none None = refl
          or_none (Some p) = refl
      by true is =
          let same = same_key s h is in
          let none : first_place rows s h ≡ None = sym (indexed s h) ∙ ap (place_in old s) (sym same.1) ∙ ap (λ (n : ℕ). place_in old n hash) (sym same.0) ∙ none_from (place_in old size hash) absent in
          ap (λ (b : Bool). cond b (Some place) (place_in old s h)) is
          ∙ sym (ap (λ (o : Option Place). option_or o (cond (is_row s h) (Some place) None)) none ∙ ap (λ (b : Bool). cond b (Some place) None) is)
        where
          none_from : (o : Option Place) → is_some o ≡ false → o ≡ None
          none_from None is = refl
          none_from (Some p) is = cc

-- ---- the rows of a file

enumerate_push : {X : Type 0} (n : ℕ) (xs : List X) (x : X) → enumerate_from n (xs ++ x ∷ []) ≡ enumerate_from n xs ++ (n + length xs, x) ∷ []
enumerate_push {X = X} n [] x = ap (λ (k : ℕ). enumerate_one k x) (omega arith)
  where
    enumerate_one : ℕ → X → List (ℕ × X)
    enumerate_one k x = (k, x) ∷ []
enumerate_push {X = X} n (y ∷ xs) x =
    let e : n + 1 + length xs ≡ n + suc (length xs) = omega arith in
    ap (λ (es : List (ℕ × X)). (n, y) ∷ es) (enumerate_push (n + 1) xs x ∙ ap (λ (k : ℕ). enumerate_from (n + 1) xs ++ (k, x) ∷ []) e)

pub rows_more : (file size i : ℕ) (sum : Option Bytes) (hashes : List (Option Bytes)) → i < length hashes → sum ≡ get_or hashes i sum
    → rows_of file size (take (i + 1) hashes) ≡ rows_of file size (take i hashes) ++ rows_at (chunk_size_at size i) sum (record { file = file; chunk = i })
rows_more file size i sum hashes lt is =
    let front = take i hashes in
    let place : 0 + length front ≡ i = omega (arith, length-take i hashes) in
    let more : take (i + 1) hashes ≡ front ++ sum ∷ [] = take_more hashes i sum lt ∙ ap (λ (h : Option Bytes). front ++ h ∷ []) (sym is) in
    let pairs : enumerate_from 0 (take (i + 1) hashes) ≡ enumerate_from 0 front ++ (i, sum) ∷ [] =
    ap (enumerate_from 0) more ∙ enumerate_push 0 front sum ∙ ap (λ (k : ℕ). enumerate_from 0 front ++ (k, sum) ∷ []) place in
    ap (λ (es : List (ℕ × Option Bytes)). map in_file (flat_map (row_of size) es)) pairs
    ∙ ap (map in_file) (flat_map-append (row_of size) (enumerate_from 0 front) ((i, sum) ∷ []))
    ∙ map-append in_file (flat_map (row_of size) (enumerate_from 0 front)) (flat_map (row_of size) ((i, sum) ∷ []))
    ∙ ap (λ (rows : List ChunkRow). rows_of file size front ++ rows) (own sum)
  where
    in_file : ChunkSum → ChunkRow
    in_file sum = record { file = file; sum = sum }

    own : (sum : Option Bytes) → map in_file (flat_map (row_of size) ((i, sum) ∷ [])) ≡ rows_at (chunk_size_at size i) sum (record { file = file; chunk = i })
    own None = refl
    own (Some hash) = refl

-- one turn of the loop
pub turn : (file size i : ℕ) (sum : Option Bytes) (hashes : List (Option Bytes)) (rows : List ChunkRow) (old new : Places) → i < length hashes → sum ≡ get_or hashes i sum
    → ((rs : List ChunkRow) → Indexes old rs → Indexes new (rs ++ rows_at (chunk_size_at size i) sum (record { file = file; chunk = i })))
    → Indexes old (rows ++ rows_of file size (take i hashes)) → Indexes new (rows ++ rows_of file size (take (i + 1) hashes))
turn file size i sum hashes rows old new lt is put so_far =
    subst (Indexes new)
    (append_assoc rows (rows_of file size (take i hashes)) (rows_at (chunk_size_at size i) sum (record { file = file; chunk = i })) ∙ ap (λ (rs : List ChunkRow). rows ++ rs) (sym (rows_more file size i sum hashes lt is)))
    (put (rows ++ rows_of file size (take i hashes)) so_far)
