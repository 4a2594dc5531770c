-- The memories of a state by their places in the order of files.
use Rattle.std.proofs.Common.{◌≡◌, ℕ, zero, suc, ◌+◌, ◌*◌, ◌<◌, ◌≤◌, List, [], ◌∷◌, ◌++◌, length, map, zip, take, get_or, Option, Some, None, slice_get, IsSomeAnd, refl, sym, ◌∙◌, ap, subst, arith}
use Rattle.std.specs.List.{AllByRecursion, AllZip}
use Rattle.std.proofs.lemmas.List.{length-map, map-append, get_or-map, take_more, take_all}
use Rattle.std.proofs.lemmas.List.Elements.{All-from_recursion, All-get_or}
use Rattle.std.proofs.lemmas.Option.{slice_get-get_or, slice_get_within, get_or_from_slice_get}
use Rattle.std.proofs.lemmas.Slice.Zip.{AllZip-long}
use Rattle.format_spec.specs.Bytes.{Bytes}
use Rattle.format_spec.specs.declared.limits.TheConstants.{PAGE_SIZE, MAX_MEMORY_PAGES}
use Rattle.format_spec.specs.Versions.{memory_limit}
use Rattle.format_spec.proofs.StateLimits.{memory_limits}
use Rattle.state_spec.specs.State.{SystemPart, CanisterPart, IsSystem, FitsCanister, memory_bytes}
use Rattle.state_spec.specs.Files.{memories_in}
use Rattle.sys_state.specs.System.{System, part_of}
use Rattle.store_spec.specs.Image.{Published}
use Rattle.page_spec.specs.Layers.{Layer, memory_from}
use Rattle.disk_model.specs.Files.{Files}
use Rattle.page_file.specs.Files.{NumberedFile}
use Rattle.layer_stack.specs.Stacks.{AreLayers}
use Rattle.height_store.specs.Store.{StoredHeight, IsHeight, FitsPages}
use Rattle.height_store.specs.Kept.{ShowsHeight}
use Rattle.height_store.specs.KnownLaws.{bytes_made}
use Rattle.layer_stack.specs.Whole.{layers_whole}
use Rattle.page_spec.specs.Whole.{length-memory_from}

-- ---- page files, layers and bytes of one memory

abbrev from_layers : List (Bytes × ℕ) → List (List Layer) → List Bytes
from_layers ms layers = map (λ e. memory_from e.0.1 e.1) (zip ms layers)

pub record Place (files : Files) (stacks : List (List NumberedFile)) (ms : List (Bytes × ℕ)) (layers : List (List Layer)) (i : ℕ) (m : Bytes × ℕ) : Type 0 where
  pub stack : List NumberedFile
  pub own : List Layer
  pub stack_at : slice_get stacks i ≡ Some stack
  pub are : AreLayers files stack own
  pub bytes : get_or (from_layers ms layers) i [] ≡ memory_from m.1 own

are_at : (files : Files) (stacks : List (List NumberedFile)) (layers : List (List Layer)) (i : ℕ) → AllZip (AreLayers files) stacks layers → i < length stacks → AreLayers files (get_or stacks i []) (get_or layers i [])
are_at files [] layers i there lt = absurd (omega (arith, lt))
are_at files (stack ∷ stacks) [] i there lt = absurd there
are_at files (stack ∷ stacks) (l ∷ layers) zero there lt = there.0
are_at files (stack ∷ stacks) (l ∷ layers) (suc i) there lt = are_at files stacks layers i there.1 (omega (arith, lt))

bytes_at : (ms : List (Bytes × ℕ)) (layers : List (List Layer)) (i : ℕ) (m : Bytes × ℕ) → i < length ms → i < length layers → get_or (from_layers ms layers) i [] ≡ memory_from (get_or ms i m).1 (get_or layers i [])
bytes_at [] layers i d lt within = absurd (omega (arith, lt))
bytes_at (m ∷ ms) [] i d lt within = absurd (omega (arith, within))
bytes_at (m ∷ ms) (l ∷ layers) zero d lt within = refl
bytes_at (m ∷ ms) (l ∷ layers) (suc i) d lt within = bytes_at ms layers i d (omega (arith, lt)) (omega (arith, within))

pub place_of : (files : Files) (stacks : List (List NumberedFile)) (ms : List (Bytes × ℕ)) (layers : List (List Layer)) (i : ℕ) (m : Bytes × ℕ) → AllZip FitsPages stacks ms → AllZip (AreLayers files) stacks layers → slice_get ms i ≡ Some m → Place files stacks ms layers i m
place_of files stacks ms layers i m fits there at =
    let lt = slice_get_within ms i m at in
    let stacks_long = AllZip-long FitsPages stacks ms fits in
    let layers_long = AllZip-long (AreLayers files) stacks layers there in
    let within : i < length stacks = omega (arith, lt, stacks_long) in
    let own : i < length layers = omega (arith, within, layers_long) in
    record {
      stack = get_or stacks i [];
      own = get_or layers i [];
      stack_at = slice_get-get_or stacks i [] within;
      are = are_at files stacks layers i there within;
      bytes = bytes_at ms layers i m lt own ∙ ap (λ (x : Bytes × ℕ). memory_from x.1 (get_or layers i [])) (get_or_from_slice_get ms i m m at);
    }

pub memories_many : (files : Files) (stacks : List (List NumberedFile)) (ms : List (Bytes × ℕ)) (layers : List (List Layer)) → AllZip FitsPages stacks ms → AllZip (AreLayers files) stacks layers → length (from_layers ms layers) ≡ length ms
memories_many files [] [] [] fits there = refl
memories_many files [] [] (l ∷ layers) fits there = absurd there
memories_many files [] (m ∷ ms) layers fits there = absurd fits
memories_many files (stack ∷ stacks) [] layers fits there = absurd fits
memories_many files (stack ∷ stacks) (m ∷ ms) [] fits there = absurd there
memories_many files (stack ∷ stacks) (m ∷ ms) (l ∷ layers) fits there = ap suc (memories_many files stacks ms layers fits.1 there.1)

-- ---- the pages of a memory

abbrev named : List (Bytes × CanisterPart) → List (Bytes × ℕ)
named cs = memories_in (record { time = 0; canisters = cs; entries = [] })

few_pages : (v n : ℕ) → n ≤ memory_limit v → n ≤ MAX_MEMORY_PAGES
few_pages v n few = omega (arith, few, (memory_limits v).1)

each_fits : (v : ℕ) (cs : List (Bytes × CanisterPart)) → AllByRecursion (FitsCanister v) cs → AllByRecursion (λ m. m.1 ≤ MAX_MEMORY_PAGES) (named cs)
each_fits v [] fits = tt
each_fits v (c ∷ cs) fits = (few_pages v c.1.heap fits.0.heap, (few_pages v c.1.stable fits.0.stable, each_fits v cs fits.1))

twice_as_many : (cs : List (Bytes × CanisterPart)) → length (named cs) ≡ 2 * length cs
twice_as_many [] = refl
twice_as_many (c ∷ cs) = let rest = twice_as_many cs in omega (arith, rest)

pub memory_fits : {v : ℕ} (s : SystemPart) (i : ℕ) (m : Bytes × ℕ) → IsSystem v s → slice_get (memories_in s) i ≡ Some m → m.1 ≤ MAX_MEMORY_PAGES
memory_fits {v} s i m good at =
    let P : Bytes × ℕ → Type 0 = λ m. m.1 ≤ MAX_MEMORY_PAGES in
    subst P (get_or_from_slice_get (memories_in s) i m m at)
    (All-get_or P (memories_in s) i m (slice_get_within (memories_in s) i m at) (All-from_recursion P (memories_in s) (each_fits v s.canisters good.canisters_fit)))

-- a range of a memory ends where a memory may
pub range_fits : (h : StoredHeight) (file bytes : ℕ) → IsHeight h → IsSomeAnd (slice_get (memories_in (part_of h.system)) file) (λ m. bytes ≤ m.1 * PAGE_SIZE) → bytes ≤ MAX_MEMORY_PAGES * PAGE_SIZE
range_fits h file bytes good within = by (slice_get (memories_in (part_of h.system)) file) refl within
  where
    by : (o : Option (Bytes × ℕ)) → slice_get (memories_in (part_of h.system)) file ≡ o → IsSomeAnd o (λ m. bytes ≤ m.1 * PAGE_SIZE) → bytes ≤ MAX_MEMORY_PAGES * PAGE_SIZE
    by None at within = absurd within
    by (Some m) at within =
        let most = memory_fits (part_of h.system) file m good.parts.mark.system_good at in
        omega (arith, within, most)

-- the memory with so many pages
pub there_is : (h : StoredHeight) (file pages : ℕ) → IsSomeAnd (slice_get (memories_in (part_of h.system)) file) (λ m. m.1 ≡ pages)
    → (m : Bytes × ℕ) × (slice_get (memories_in (part_of h.system)) file ≡ Some m) × (m.1 ≡ pages)
there_is h file pages there = by (slice_get (memories_in (part_of h.system)) file) refl there
  where
    by : (o : Option (Bytes × ℕ)) → slice_get (memories_in (part_of h.system)) file ≡ o → IsSomeAnd o (λ m. m.1 ≡ pages) → (m : Bytes × ℕ) × (slice_get (memories_in (part_of h.system)) file ≡ Some m) × (m.1 ≡ pages)
    by None of is = absurd is
    by (Some m) of is = (m, of, is)

-- all bytes of a memory
pub whole_memory : (files : Files) (stack : List NumberedFile) (own : List Layer) (most pages count : ℕ) → AreLayers files stack own → most ≡ pages → count ≡ pages → take (most * PAGE_SIZE) (memory_from count own) ≡ memory_from pages own
whole_memory files stack own most pages count are most_is is =
    let long = length-memory_from count own (layers_whole files stack own are) in
    take_all (most * PAGE_SIZE) (memory_from count own) (omega (arith, long, most_is, is)) ∙ ap (λ (n : ℕ). memory_from n own) is

-- ---- pages of all memories, one by one

abbrev pub counts : SystemPart → List ℕ
counts s = map (λ m. m.1) (memories_in s)

module _ (s : SystemPart) (pages : List ℕ) (i count : ℕ) (are : pages ≡ counts s) (lt : i < length pages) (here : count ≡ get_or pages i count) where
  abbrev d : Bytes × ℕ
  d = ([], count)

  within : i < length (memories_in s)
  within = omega (arith, lt, ap length are, length-map (memories_in s) (λ m. m.1))

  pub memory_here : slice_get (memories_in s) i ≡ Some (get_or (memories_in s) i d)
  memory_here = slice_get-get_or (memories_in s) i d within

  pub count_here : (get_or (memories_in s) i d).1 ≡ count
  count_here = sym (get_or-map (λ m. m.1) (memories_in s) i d count within) ∙ ap (λ (l : List ℕ). get_or l i count) (sym are) ∙ sym here

  pub count_fits : {v : ℕ} → IsSystem v s → count ≤ MAX_MEMORY_PAGES
  count_fits good = subst (λ (n : ℕ). n ≤ MAX_MEMORY_PAGES) count_here (memory_fits s i (get_or (memories_in s) i d) good memory_here)

  pub is_there : IsSomeAnd (slice_get (memories_in s) i) (λ m. m.1 ≡ count)
  is_there = subst (λ (o : Option (Bytes × ℕ)). IsSomeAnd o (λ m. m.1 ≡ count)) (sym memory_here) count_here

pub few_counts : {v : ℕ} (s : SystemPart) (pages : List ℕ) → IsSystem v s → pages ≡ counts s → length pages ≤ 2048
few_counts s pages good are = omega (arith, good.few_canisters, ap length are, length-map (memories_in s) (λ m. m.1), twice_as_many s.canisters)

-- the bytes of the memory at a place of a height that files show
pub memory_shown : (files : Files) (h : StoredHeight) (p : Published) (file : ℕ) (memory : Bytes) → ShowsHeight files h p → slice_get (memory_bytes p.state) file ≡ Some memory
    → (m : Bytes × ℕ) × (stack : List NumberedFile) × (own : List Layer) × (slice_get (memories_in (part_of h.system)) file ≡ Some m) × (slice_get h.stacks file ≡ Some stack) × AreLayers files stack own × (memory ≡ memory_from m.1 own)
memory_shown files h p file memory shows of =
    let ms = memories_in (part_of h.system) in
    let made = shows.made in
    let here : slice_get (from_layers ms made.layers) file ≡ Some memory = ap (λ (l : List Bytes). slice_get l file) (sym (bytes_made files h p shows)) ∙ of in
    let lt : file < length ms = omega (arith, slice_get_within (from_layers ms made.layers) file memory here, memories_many files h.stacks ms made.layers made.good.fits made.there) in
    let m = get_or ms file ([], 0) in
    let at = slice_get-get_or ms file ([], 0) lt in
    let place = place_of files h.stacks ms made.layers file m made.good.fits made.there at in
    (m, place.stack, place.own, at, place.stack_at, place.are, sym (get_or_from_slice_get (from_layers ms made.layers) file memory [] here) ∙ place.bytes)

-- the pages of a height's memories
pub own_counts : (h : StoredHeight) (s : System) (pages : List ℕ) → s ≡ h.system → pages ≡ counts (part_of s) → pages ≡ counts (part_of h.system)
own_counts h s pages is are = are ∙ ap (λ (s : System). counts (part_of s)) is

-- ---- memory by memory

-- one more is read
pub read_more : {V X : Type 0} (f : V → X) (old new : List V) (v : V) (all : List X) (i : ℕ) (d : X) → new ≡ old ++ v ∷ [] → i < length all → f v ≡ get_or all i d → map f old ≡ take i all → map f new ≡ take (i + 1) all
read_more {X = X} f old new v all i d is lt here so_far =
    ap (map f) is ∙ map-append f old (v ∷ []) ∙ ap (λ (l : List X). l ++ f v ∷ []) so_far ∙ ap (λ (x : X). take i all ++ x ∷ []) here ∙ sym (take_more all i d lt)

pub size_here : (pages : List ℕ) (i count : ℕ) → i < length pages → count ≡ get_or pages i count → count * PAGE_SIZE ≡ get_or (map (λ n. n * PAGE_SIZE) pages) i 0
size_here pages i count lt here = ap (λ (n : ℕ). n * PAGE_SIZE) here ∙ sym (get_or-map (λ n. n * PAGE_SIZE) pages i count 0 lt)

pub sizes_all : (ms : List (Bytes × ℕ)) → map (λ n. n * PAGE_SIZE) (map (λ m. m.1) ms) ≡ map (λ m. m.1 * PAGE_SIZE) ms
sizes_all [] = refl
sizes_all (m ∷ ms) = ap (λ (l : List ℕ). (m.1 * PAGE_SIZE) ∷ l) (sizes_all ms)

module _ (files : Files) (h : StoredHeight) (p : Published) (shows : ShowsHeight files h p) (pages : List ℕ) (own_pages : pages ≡ counts (part_of h.system)) where
  pub as_many : length (memory_bytes p.state) ≡ length pages
  as_many =
      let ms = memories_in (part_of h.system) in
      ap length (bytes_made files h p shows) ∙ memories_many files h.stacks ms shows.made.layers shows.made.good.fits shows.made.there
      ∙ sym (ap length own_pages ∙ length-map ms (λ m. m.1))

  module _ (i count : ℕ) (lt : i < length pages) (here : count ≡ get_or pages i count) where
    abbrev m : Bytes × ℕ
    m = get_or (memories_in (part_of h.system)) i ([], count)

    pub own_place : Place files h.stacks (memories_in (part_of h.system)) shows.made.layers i m
    own_place = place_of files h.stacks (memories_in (part_of h.system)) shows.made.layers i m shows.made.good.fits shows.made.there (memory_here (part_of h.system) pages i count own_pages lt here)

    pub own_bytes : (bytes : Bytes) → bytes ≡ memory_from count own_place.own → bytes ≡ get_or (memory_bytes p.state) i []
    own_bytes bytes read =
        read ∙ ap (λ (n : ℕ). memory_from n own_place.own) (sym (count_here (part_of h.system) pages i count own_pages lt here))
        ∙ sym own_place.bytes ∙ sym (ap (λ (l : List Bytes). get_or l i []) (bytes_made files h p shows))
