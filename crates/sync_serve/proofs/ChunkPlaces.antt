-- The chunk of a number: in which file it is, and that it is read there.
use Rattle.std.proofs.Common.{◌≡◌, ℕ, zero, suc, ◌+◌, ◌-◌, ◌*◌, ◌<◌, ◌≤◌, min, List, [], ◌∷◌, ◌++◌, length, map, filter, take, drop, slice_get, slice_index_or, inl, inr, Option, Some, None, refl, sym, ap, ◌∙◌, subst, arith, append_assoc}
use Rattle.std.specs.List.{flat_map}
use Rattle.std.specs.Option.{IsSomeAnd}
use Rattle.std.proofs.lemmas.Bool.{cases_lt}
use Rattle.std.proofs.lemmas.List.{append-nil, length-map, length-drop, take_all, drop_all}
use Rattle.std.proofs.lemmas.Option.{slice_get_within, get_or_from_slice_get, same_Some}
use Rattle.format_spec.specs.Bytes.{Bytes, parts, part_count}
use Rattle.format_spec.specs.declared.limits.TheConstants.{CHUNK_SIZE, PAGE_SIZE}
use Rattle.format_spec.proofs.Parts.{parts_length}
use Rattle.format_spec.proofs.Cuts.{heads}
use Rattle.state_spec.specs.State.{State, Canister, memory_bytes, bytes_in, system_of}
use Rattle.state_spec.specs.SystemText.{system_text}
use Rattle.state_spec.specs.Files.{File, files, memory_files, memories_in, system_file}
use Rattle.state_spec.specs.Manifest.{has_row, row_chunks}
use Rattle.store_spec.specs.Image.{Published}
use Rattle.sys_state.specs.System.{part_of}
use Rattle.disk_model.specs.Files.{Files}
use Rattle.height_store.specs.Store.{StoredHeight}
use Rattle.height_store.specs.Kept.{ShowsHeight}
use Rattle.height_store.specs.Known.{KnowsHeight, IsMemoryAt}
use Rattle.height_store.specs.KnownLaws.{shown_known, known_version}
use Rattle.sync_spec.specs.Messages.{chunk, here}
use Rattle.sync_spec.proofs.PartAt.{part_there}
use Rattle.sync_spec.specs.Serving.{chunks_of, content_of, here_if}
use Rattle.sync_serve.specs.Places.{chunks_in, HavePages, IsPlace}
use Rattle.sync_serve.specs.declared.chunks.Place.{Place}
use Rattle.sync_serve.proofs.Manifests.{have_pages}

-- ---- in version 1 the chunks of a state are those of its memories and of its system text

each_has_row : (cs : List Bytes) → filter (has_row 1) cs ≡ cs
each_has_row [] = refl
each_has_row (c ∷ cs) = ap (λ (rest : List Bytes). c ∷ rest) (each_has_row cs)

file_chunks : (cs : List (Bytes × Canister)) (end : List File) → flat_map row_chunks (memory_files 1 cs ++ end) ≡ flat_map (λ bytes. parts CHUNK_SIZE bytes) (bytes_in cs) ++ flat_map row_chunks end
file_chunks [] end = refl
file_chunks (c ∷ cs) end =
    let heap = parts CHUNK_SIZE c.1.heap.bytes in
    let stable = parts CHUNK_SIZE c.1.stable.bytes in
    let memories = flat_map (λ (bytes : Bytes). parts CHUNK_SIZE bytes) (bytes_in cs) in
    let behind = flat_map row_chunks end in
    (λ i. each_has_row heap i ++ (each_has_row stable i ++ file_chunks cs end i))
    ∙ ap (λ (rest : List Bytes). heap ++ rest) (sym (append_assoc stable memories behind))
    ∙ sym (append_assoc heap (stable ++ memories) behind)

pub state_chunks : (s : State) → s.version ≡ 1 → chunks_of s ≡ chunks_in (memory_bytes s) (system_text (system_of s))
unfolding files
state_chunks s first =
    let system = parts CHUNK_SIZE (system_text (system_of s)) in
    ap (λ (v : ℕ). flat_map row_chunks (memory_files v s.canisters ++ system_file (system_of s) ∷ [])) first
    ∙ file_chunks s.canisters (system_file (system_of s) ∷ [])
    ∙ ap (λ (last : List Bytes). flat_map (λ (bytes : Bytes). parts CHUNK_SIZE bytes) (memory_bytes s) ++ last) (append-nil (filter (has_row 1) system) ∙ each_has_row system)

-- ---- one memory after another

-- from this memory on the chunk of the first number is that of the second
abbrev pub Leads : List ℕ → ℕ → ℕ → ℕ → Type 0
Leads pages index file left = (memories : List Bytes) (system : Bytes) → HavePages pages memories → slice_get (chunks_in memories system) index ≡ slice_get (chunks_in (drop file memories) system) left

behind_front : {X : Type 0} (xs ys : List X) (i : ℕ) → length xs ≤ i → slice_get (xs ++ ys) i ≡ slice_get ys (i - length xs)
behind_front [] ys i le = let all : i ≡ i - 0 = omega arith in ap (slice_get ys) all
behind_front (x ∷ xs) ys zero le = absurd (omega (arith, le))
behind_front (x ∷ xs) ys (suc i) le = let less : i - length xs ≡ suc i - length (x ∷ xs) = omega arith in behind_front xs ys i (omega (arith, le)) ∙ ap (slice_get ys) less

in_front : {X : Type 0} (xs ys : List X) (i : ℕ) → i < length xs → slice_get (xs ++ ys) i ≡ slice_get xs i
in_front [] ys i lt = absurd (omega (arith, lt))
in_front (x ∷ xs) ys zero lt = refl
in_front (x ∷ xs) ys (suc i) lt = in_front xs ys i (omega (arith, lt))

pub same_lengths : (pages : List ℕ) (memories : List Bytes) → HavePages pages memories → length memories ≡ length pages
same_lengths pages memories have = sym (length-map memories (λ (b : Bytes). length b)) ∙ ap length have ∙ length-map pages (λ (n : ℕ). n * PAGE_SIZE)

behind_all : {X : Type 0} (xs : List X) (i : ℕ) (d : X) → length xs ≤ i → slice_index_or xs i d ≡ d
behind_all [] i d le = refl
behind_all (x ∷ xs) zero d le = absurd (omega (arith, le))
behind_all (x ∷ xs) (suc i) d le = behind_all xs i d (omega (arith, le))

-- a memory of so many pages stands first behind those before it
pub memory_at : (pages : List ℕ) (memories : List Bytes) (file count : ℕ) → HavePages pages memories → slice_get pages file ≡ Some count
    → (memory : Bytes) × (length memory ≡ count * PAGE_SIZE) × (slice_get memories file ≡ Some memory) × (drop file memories ≡ memory ∷ drop (file + 1) memories)
memory_at [] memories file count have at = absurd cc
memory_at (n ∷ pages) [] file count have at = absurd cc
memory_at (n ∷ pages) (m ∷ memories) zero count have at =
    let h = heads (length m) (n * PAGE_SIZE) (map (λ (b : Bytes). length b) memories) (map (λ (k : ℕ). k * PAGE_SIZE) pages) have in
    let is : n ≡ count = cc in
    (m, h.0 ∙ ap (λ (k : ℕ). k * PAGE_SIZE) is, refl, refl)
memory_at (n ∷ pages) (m ∷ memories) (suc file) count have at =
    let h = heads (length m) (n * PAGE_SIZE) (map (λ (b : Bytes). length b) memories) (map (λ (k : ℕ). k * PAGE_SIZE) pages) have in
    let rest = memory_at pages memories file count h.1 at in
    let next : suc (file + 1) ≡ suc file + 1 = omega arith in
    (rest.0, rest.1, rest.2, rest.3 ∙ ap (λ (k : ℕ). rest.0 ∷ drop k (m ∷ memories)) next)

pub leads_none : (pages : List ℕ) (index : ℕ) → Leads pages index 0 index
leads_none pages index memories system have = refl

pub leads_more : (pages : List ℕ) (index file left count chunks now : ℕ) → slice_get pages file ≡ Some count → chunks ≡ part_count CHUNK_SIZE (count * PAGE_SIZE) → chunks ≤ left → now ≡ left - chunks → Leads pages index file left → Leads pages index (file + 1) now
leads_more pages index file left count chunks now at are le is leads memories system have =
    let m = memory_at pages memories file count have at in
    let many : length (parts CHUNK_SIZE m.0) ≡ chunks = parts_length CHUNK_SIZE m.0 ∙ ap (part_count CHUNK_SIZE) m.1 ∙ sym are in
    let rest = chunks_in (drop (file + 1) memories) system in
    leads memories system have
    ∙ ap (λ (ms : List Bytes). slice_get (chunks_in ms system) left) m.3
    ∙ ap (λ (all : List Bytes). slice_get all left) (append_assoc (parts CHUNK_SIZE m.0) (flat_map (λ (b : Bytes). parts CHUNK_SIZE b) (drop (file + 1) memories)) (parts CHUNK_SIZE system))
    ∙ behind_front (parts CHUNK_SIZE m.0) rest left (omega (arith, many, le))
    ∙ ap (slice_get rest) (ap (λ (k : ℕ). left - k) many ∙ sym is)

-- ---- where a chunk is

-- in the memory that has so many chunks
pub place_here : (pages : List ℕ) (index file left count chunks : ℕ) → slice_get pages file ≡ Some count → chunks ≡ part_count CHUNK_SIZE (count * PAGE_SIZE) → left < chunks → Leads pages index file left → (place : Place) → place.file ≡ file → place.chunk ≡ left → IsPlace pages index place
place_here pages index file left count chunks at are lt leads place file_is left_is = record {
  within = omega (arith, slice_get_within pages file count at, file_is);
  begins = λ n there. let same : n ≡ count = same_Some n count (sym there ∙ ap (slice_get pages) file_is ∙ at) in omega (arith, lt, are, same, left_is);
  there = λ memories system have.
      let m = memory_at pages memories file count have at in
      let many : length (parts CHUNK_SIZE m.0) ≡ chunks = parts_length CHUNK_SIZE m.0 ∙ ap (part_count CHUNK_SIZE) m.1 ∙ sym are in
      let rest = flat_map (λ (b : Bytes). parts CHUNK_SIZE b) (drop (file + 1) memories) in
      leads memories system have
      ∙ ap (λ (ms : List Bytes). slice_get (chunks_in ms system) left) m.3
      ∙ ap (λ (all : List Bytes). slice_get all left) (append_assoc (parts CHUNK_SIZE m.0) rest (parts CHUNK_SIZE system))
      ∙ in_front (parts CHUNK_SIZE m.0) (rest ++ parts CHUNK_SIZE system) left (omega (arith, many, lt))
      ∙ ap (λ (bytes : Bytes). slice_get (parts CHUNK_SIZE bytes) left) (sym (get_or_from_slice_get memories file m.0 system m.2))
      ∙ (λ i. slice_get (parts CHUNK_SIZE (slice_index_or memories (sym file_is i) system)) (sym left_is i));
}

-- or in the system text
pub place_behind : (pages : List ℕ) (index file left : ℕ) → length pages ≤ file → Leads pages index file left → (place : Place) → place.file ≡ length pages → place.chunk ≡ left → IsPlace pages index place
place_behind pages index file left le leads place file_is left_is = record {
  within = omega (arith, file_is);
  begins = λ n there. absurd (omega (arith, slice_get_within pages place.file n there, file_is));
  there = λ memories system have.
      let many : length memories ≡ length pages = same_lengths pages memories have in
      leads memories system have
      ∙ ap (λ (ms : List Bytes). slice_get (chunks_in ms system) left) (drop_all file memories (omega (arith, many, le)))
      ∙ ap (λ (bytes : Bytes). slice_get (parts CHUNK_SIZE bytes) left) (sym (behind_all memories (length pages) system (omega (arith, many))))
      ∙ (λ i. slice_get (parts CHUNK_SIZE (slice_index_or memories (sym file_is i) system)) (sym left_is i));
}

-- ---- what is read there

-- no more bytes are read than there are
pub take_least : (s : Bytes) (n len : ℕ) → len ≡ min (length s) n → take len s ≡ take n s
take_least s n len is = elim (cases_lt n (length s)) [
  | inl more ↦ let same : len ≡ n = omega (arith, is, more) in ap (λ (k : ℕ). take k s) same
  | inr less ↦ take_all len s (omega (arith, is, less)) ∙ sym (take_all n s less)
]

-- up to the end of a part, or of the string
pub cut_least : (begin size end : ℕ) (s : Bytes) → end ≡ min (begin + size) (length s) → take (end - begin) (drop begin s) ≡ take size (drop begin s)
cut_least begin size end s is = take_least (drop begin s) size (end - begin) (omega (arith, is, length-drop begin s))

module _ (files : Files) (h : StoredHeight) (p : Published) (shows : ShowsHeight files h p) (pages : List ℕ) (are : pages ≡ map (λ m. m.1) (memories_in (part_of h.system))) (index : ℕ) (place : Place) (is : IsPlace pages index place) where
  abbrev known : KnowsHeight h p
  known = shown_known files h p shows

  chunk_at : slice_get (chunks_of p.state) index ≡ slice_get (parts CHUNK_SIZE (slice_index_or (memory_bytes p.state) place.file (system_text (system_of p.state)))) place.chunk
  chunk_at = ap (λ (all : List Bytes). slice_get all index) (state_chunks p.state (known_version h p known)) ∙ is.there (memory_bytes p.state) (system_text (system_of p.state)) (have_pages h p pages known are)

  pub chunk_read : (count len : ℕ) (bytes : Bytes) → slice_get pages place.file ≡ Some count → len ≡ min (count * PAGE_SIZE - place.chunk * CHUNK_SIZE) CHUNK_SIZE
      → ((memory : Bytes) → IsMemoryAt p.state place.file memory → bytes ≡ take len (drop (place.chunk * CHUNK_SIZE) memory)) → here bytes ≡ content_of p.state (chunk index)
  chunk_read count len bytes at size read =
      let m = memory_at pages (memory_bytes p.state) place.file count (have_pages h p pages known are) at in
      let rest = drop (place.chunk * CHUNK_SIZE) m.0 in
      let long : length rest ≡ count * PAGE_SIZE - place.chunk * CHUNK_SIZE = length-drop (place.chunk * CHUNK_SIZE) m.0 ∙ ap (λ (n : ℕ). n - place.chunk * CHUNK_SIZE) m.1 in
      let begins : place.chunk * CHUNK_SIZE < length m.0 = omega (arith, is.begins count at, m.1) in
      let all : bytes ≡ take CHUNK_SIZE rest = read m.0 m.2 ∙ take_least rest CHUNK_SIZE len (size ∙ ap (λ (n : ℕ). min n CHUNK_SIZE) (sym long)) in
      ap here all
      ∙ ap here_if (sym (chunk_at
      ∙ ap (λ (text : Bytes). slice_get (parts CHUNK_SIZE text) place.chunk) (get_or_from_slice_get (memory_bytes p.state) place.file m.0 (system_text (system_of p.state)) m.2)
      ∙ part_there CHUNK_SIZE m.0 place.chunk (omega arith) begins))

  pub chunk_of_system : (system : Bytes) (part : Option Bytes) → place.file ≡ length pages → system ≡ h.mark.system → part ≡ slice_get (parts CHUNK_SIZE system) place.chunk → here_if part ≡ content_of p.state (chunk index)
  chunk_of_system system part last text is_part =
      let many : length (memory_bytes p.state) ≡ length pages = same_lengths pages (memory_bytes p.state) (have_pages h p pages known are) in
      let spelled : system ≡ system_text (system_of p.state) = text ∙ shows.good.parts.mark.system_spelled ∙ ap system_text (sym known.parts) in
      ap here_if (is_part
      ∙ ap (λ (bytes : Bytes). slice_get (parts CHUNK_SIZE bytes) place.chunk) (spelled ∙ sym (behind_all (memory_bytes p.state) place.file (system_text (system_of p.state)) (omega (arith, many, last))))
      ∙ sym chunk_at)

-- a memory of so many pages has these bytes
pub some_more : (o : Option (Bytes × ℕ)) (count n : ℕ) → IsSomeAnd o (λ m. m.1 ≡ count) → n ≤ count * PAGE_SIZE → IsSomeAnd o (λ m. n ≤ m.1 * PAGE_SIZE)
some_more None count n is le = absurd is
some_more (Some m) count n is le = subst (λ (k : ℕ). n ≤ k * PAGE_SIZE) (sym is) le
