-- The height that page files of whole memories and the mark over them give.
use Rattle.std.proofs.Common.{◌≡◌, ℕ, ◌*◌, ◌/◌, ◌≤◌, ◌==◌, Bool, IsTrue, true, false, ◌||◌, nat_eq, List, [], ◌∷◌, length, map, zip, inl, inr, refl, sym, ap, subst, ◌∙◌, arith}
use Rattle.std.specs.List.{list_any, AllByRecursion, AllZip}
use Rattle.std.proofs.lemmas.Bool.{cases_Bool, false≢true, eqb-true}
use Rattle.format_spec.specs.Bytes.{Bytes}
use Rattle.format_spec.specs.declared.limits.TheConstants.{PAGE_SIZE}
use Rattle.format_spec.specs.Versions.{memory_limit}
use Rattle.format_spec.proofs.StateLimits.{memory_limit-2}
use Rattle.format_spec.proofs.Cuts.{heads}
use Rattle.state_spec.specs.State.{State, Canister, CanisterPart, SystemPart, IsSystem, FitsCanister, SameState, state_from, canisters_from, canister_without_history, bytes_in, memory_bytes}
use Rattle.state_spec.specs.Files.{memories_in, memory_pages}
use Rattle.state_spec.proofs.FileOrder.{by_canisters}
use Rattle.state_spec.specs.Manifest.{chunk_hashes}
use Rattle.store_spec.specs.Mark.{Mark, MarkMemory, IsMark, is_opened}
use Rattle.store_spec.specs.Image.{HasTrueSums, memories_from, whole_layer}
use Rattle.page_spec.specs.Layers.{Layer, memory_from}
use Rattle.sys_state.specs.declared.record.CanisterRecord.{CanisterRecord}
use Rattle.sys_state.specs.System.{System, part_of, kept_of, record_of, part_of_record}
use Rattle.manifest.specs.Fits.{FitMemories}
use Rattle.disk_model.specs.declared.name.Name.TheVariants as name
use Rattle.disk_model.specs.State.{DiskState}
use Rattle.page_file.specs.Files.{NumberedFile, IsAsKnown}
use Rattle.layer_stack.specs.Stacks.{AreLayers}
use Rattle.height_store.specs.Store.{FitsMark, FitsPages, numbers_of}
use Rattle.height_store.specs.Kept.{IsMadeOf, HasFirmPages}
use Rattle.whole_state.specs.Whole.{HasParts, whole}
use Rattle.whole_state.specs.Written.{IsMemoryBytes, IsWholeStack, AreFinished, whole_stack, pages_in}
use Rattle.whole_state.proofs.Images.{layers_of, reads_back, one_layer}

-- ---- bytes that fit a state within the limits

abbrev sizes : List (Bytes × ℕ) → List ℕ
sizes fs = map (λ f. f.1 * PAGE_SIZE) fs

abbrev lengths : List Bytes → List ℕ
lengths memories = map (λ bytes. length bytes) memories

good_bytes : (bytes : Bytes) (pages : ℕ) → length bytes ≡ pages * PAGE_SIZE → pages ≤ memory_limit 2 → IsMemoryBytes bytes
good_bytes bytes pages size few = record { whole = omega (arith, size); few = omega (arith, size, few, memory_limit-2) }

all_good : (cs : List (Bytes × CanisterPart)) (memories : List Bytes) → AllByRecursion (FitsCanister 2) cs → lengths memories ≡ sizes (memory_pages cs) → AllByRecursion IsMemoryBytes memories × (length memories ≡ 2 * length cs)
all_good cs memories good fit =
    by_canisters (λ (cs : List (Bytes × CanisterPart)) (memories : List Bytes). AllByRecursion (FitsCanister 2) cs → AllByRecursion IsMemoryBytes memories × (length memories ≡ 2 * length cs)) (λ good. (tt, refl))
    (λ c cs heap stable memories h s before good. let rest = before good.1 in ((good_bytes heap c.1.heap h good.0.heap, (good_bytes stable c.1.stable s good.0.stable, rest.0)), omega (arith, rest.1)))
    cs memories fit good

pub memories_good : (s : SystemPart) (memories : List Bytes) → IsSystem 2 s → FitMemories s memories → AllByRecursion IsMemoryBytes memories
memories_good s memories good fit = (all_good s.canisters memories good.canisters_fit fit).0

pub memories_few : (s : SystemPart) (memories : List Bytes) → IsSystem 2 s → FitMemories s memories → length memories ≤ 2048
memories_few s memories good fit = let count = (all_good s.canisters memories good.canisters_fit fit).1 in let few = good.few_canisters in omega (arith, count, few)

-- ---- the page files that the mark names

few_pages : (number n : ℕ) (pages : ℕ) → n ≡ pages → AllByRecursion (λ file. file.index.memory ≤ pages) (whole_stack number n)
few_pages number n pages is = elim (cases_Bool (n == 0)) [
  | inl none ↦ rw none tt
  | inr some ↦ rw some (omega (arith, is), tt)
]

fits_pages : (bytes : Bytes) (f : Bytes × ℕ) (stack : List NumberedFile) → length bytes ≡ f.1 * PAGE_SIZE → IsWholeStack bytes stack → FitsPages stack f
fits_pages bytes f stack size is = subst (AllByRecursion (λ file. file.index.memory ≤ f.1)) (sym is.whole) (few_pages is.number (pages_in bytes) f.1 (omega (arith, size)))

all_fit : (memories : List Bytes) (fs : List (Bytes × ℕ)) (stacks : List (List NumberedFile)) → lengths memories ≡ sizes fs → AllZip IsWholeStack memories stacks → AllZip FitsPages stacks fs
all_fit [] [] [] fit are = tt
all_fit [] fs (s ∷ stacks) fit are = absurd are
all_fit [] (f ∷ fs) [] fit are = absurd cc
all_fit (b ∷ memories) fs [] fit are = absurd are
all_fit (b ∷ memories) [] (s ∷ stacks) fit are = absurd cc
all_fit (b ∷ memories) (f ∷ fs) (s ∷ stacks) fit are =
    let h = heads (length b) (f.1 * PAGE_SIZE) (lengths memories) (sizes fs) fit in (fits_pages b f s h.0 are.0, all_fit memories fs stacks h.1 are.1)

pub fits_mark : (m : Mark) (s : SystemPart) (memories : List Bytes) (stacks : List (List NumberedFile)) → IsMark m s → m.version ≡ 1 → map (λ x. x.layers) m.memories ≡ map numbers_of stacks → FitMemories s memories → AllZip IsWholeStack memories stacks → FitsMark m s stacks
fits_mark m s memories stacks good one layers fit are = record { mark = good; opened = subst (λ (v : ℕ). IsTrue (is_opened v)) (sym one) refl; numbers = sym layers; fits = all_fit memories (memories_in s) stacks fit are }

files_kept : (s : DiskState) (bytes : Bytes) (stack : List NumberedFile) → AreFinished s bytes stack → AllByRecursion (IsAsKnown s.files) stack
files_kept s bytes [] done = tt
files_kept s bytes (file ∷ stack) done = ((bytes, done.0.there), files_kept s bytes stack done.1)

pub all_kept : (s : DiskState) (memories : List Bytes) (stacks : List (List NumberedFile)) → AllZip (AreFinished s) memories stacks → AllByRecursion (AllByRecursion (IsAsKnown s.files)) stacks
all_kept s [] [] done = tt
all_kept s [] (stack ∷ stacks) done = absurd done
all_kept s (b ∷ memories) [] done = absurd done
all_kept s (b ∷ memories) (stack ∷ stacks) done = (files_kept s b stack done.0, all_kept s memories stacks done.1)

file_firm : (s : DiskState) (bytes : Bytes) (n : ℕ) (stack : List NumberedFile) → AreFinished s bytes stack → list_any (nat_eq n) (numbers_of stack) ≡ true → s.loose (name.Page n) ≡ false
file_firm s bytes n [] done named = absurd (false≢true named)
file_firm s bytes n (file ∷ stack) done named = elim (cases_Bool (nat_eq n file.number)) [
  | inl here ↦ subst (λ (k : ℕ). s.loose (name.Page k) ≡ false) (sym (eqb-true n file.number here)) done.0.firm.firm
  | inr apart ↦ file_firm s bytes n stack done.1 (sym (rw apart refl) ∙ named)
]

all_firm : (s : DiskState) (n : ℕ) (layers : List (List ℕ)) (memories : List Bytes) (stacks : List (List NumberedFile)) → layers ≡ map numbers_of stacks → AllZip (AreFinished s) memories stacks → list_any (λ ns. list_any (nat_eq n) ns) layers ≡ true → s.loose (name.Page n) ≡ false
all_firm s n layers [] [] is done named = absurd (false≢true (sym (ap (list_any (λ ns. list_any (nat_eq n) ns)) is) ∙ named))
all_firm s n layers [] (stack ∷ stacks) is done named = absurd done
all_firm s n layers (b ∷ memories) [] is done named = absurd done
all_firm s n layers (b ∷ memories) (stack ∷ stacks) is done named =
    let here = sym (ap (list_any (λ ns. list_any (nat_eq n) ns)) is) ∙ named in
    elim (cases_Bool (list_any (nat_eq n) (numbers_of stack))) [
      | inl here_named ↦ file_firm s b n stack done.0 here_named
      | inr none ↦ all_firm s n (map numbers_of stacks) memories stacks refl done.1 (sym (rw none refl) ∙ here)
    ]

named_layers : (n : ℕ) (ms : List MarkMemory) → list_any (λ ns. list_any (nat_eq n) ns) (map (λ x. x.layers) ms) ≡ list_any (λ memory. list_any (nat_eq n) memory.layers) ms
named_layers n [] = refl
named_layers n (m ∷ ms) = ap (λ (b : Bool). list_any (nat_eq n) m.layers || b) (named_layers n ms)

pub pages_firm : (s : DiskState) (m : Mark) (memories : List Bytes) (stacks : List (List NumberedFile)) → map (λ x. x.layers) m.memories ≡ map numbers_of stacks → AllZip (AreFinished s) memories stacks → HasFirmPages s m
pages_firm s m memories stacks layers done = λ n named. all_firm s n (map (λ x. x.layers) m.memories) memories stacks layers done (named_layers n m.memories ∙ named)

-- ---- the height

abbrev all_layers : List Bytes → List (List NumberedFile) → List (List Layer)
all_layers (b ∷ memories) (stack ∷ stacks) = layers_of b stack ∷ all_layers memories stacks
all_layers _ _ = []

stack_layers : (s : DiskState) (bytes : Bytes) (stack : List NumberedFile) → AreFinished s bytes stack → AreLayers s.files stack (layers_of bytes stack)
stack_layers s bytes [] done = tt
stack_layers s bytes (file ∷ stack) done = (record { index = refl; there = done.0.there }, stack_layers s bytes stack done.1)

stacks_layers : (s : DiskState) (memories : List Bytes) (stacks : List (List NumberedFile)) → AllZip (AreFinished s) memories stacks → AllZip (AreLayers s.files) stacks (all_layers memories stacks)
stacks_layers s [] [] done = tt
stacks_layers s [] (stack ∷ stacks) done = absurd done
stacks_layers s (b ∷ memories) [] done = absurd done
stacks_layers s (b ∷ memories) (stack ∷ stacks) done = (stack_layers s b stack done.0, stacks_layers s memories stacks done.1)

-- they give the bytes
back : (memories : List Bytes) (fs : List (Bytes × ℕ)) (stacks : List (List NumberedFile)) → lengths memories ≡ sizes fs → AllZip IsWholeStack memories stacks → map (λ e. memory_from e.0.1 e.1) (zip fs (all_layers memories stacks)) ≡ memories
back [] [] [] fit are = refl
back [] fs (s ∷ stacks) fit are = absurd are
back [] (f ∷ fs) [] fit are = absurd cc
back (b ∷ memories) fs [] fit are = absurd are
back (b ∷ memories) [] (s ∷ stacks) fit are = absurd cc
back (b ∷ memories) (f ∷ fs) (s ∷ stacks) fit are =
    let h = heads (length b) (f.1 * PAGE_SIZE) (lengths memories) (sizes fs) fit in
    let pages : pages_in b ≡ f.1 = omega (arith, h.0) in
    let first : memory_from f.1 (layers_of b s) ≡ b = reads_back are.0.number f.1 b s (are.0.whole ∙ ap (whole_stack are.0.number) pages) h.0 in
    let rest = back memories fs stacks h.1 are.1 in
    λ i. first i ∷ rest i

numbers_back : (memories : List Bytes) (stacks : List (List NumberedFile)) → AllZip IsWholeStack memories stacks → map (λ bytes. whole_layer (length bytes / PAGE_SIZE)) memories ≡ map (map (λ l. l.index.numbers)) (all_layers memories stacks)
numbers_back [] [] are = refl
numbers_back [] (s ∷ stacks) are = absurd are
numbers_back (b ∷ memories) [] are = absurd are
numbers_back (b ∷ memories) (s ∷ stacks) are =
    let first = sym (one_layer are.0.number (pages_in b) b s are.0.whole) in
    let rest = numbers_back memories stacks are.1 in
    λ i. first i ∷ rest i

true_sums : (ms : List MarkMemory) (memories : List Bytes) → map (λ x. x.sums) ms ≡ map (chunk_hashes 1) memories → AllZip (HasTrueSums 1) ms memories
true_sums [] [] sums = tt
true_sums [] (b ∷ memories) sums = absurd cc
true_sums (m ∷ ms) [] sums = absurd cc
true_sums (m ∷ ms) (b ∷ memories) sums = let h = heads m.sums (chunk_hashes 1 b) (map (λ (x : MarkMemory). x.sums) ms) (map (chunk_hashes 1) memories) sums in (h.0, true_sums ms memories h.1)

abbrev bare : Bytes × Canister → Bytes × Canister
bare c = (c.0, canister_without_history c.1)

same_canisters : (birth : ℕ) (cs : List (Bytes × Canister)) → map bare cs ≡ map bare (canisters_from birth (map (λ (c : Bytes × CanisterRecord). (c.0, part_of_record c.1)) (map (λ (c : Bytes × Canister). (c.0, record_of c.1)) cs)) (bytes_in cs))
same_canisters birth [] = refl
same_canisters birth (c ∷ cs) = ap (λ (rest : List (Bytes × Canister)). bare c ∷ rest) (same_canisters birth cs)

own_state : (s : State) (birth : ℕ) → SameState s (state_from s.version birth (part_of (kept_of s)) (memory_bytes s))
unfolding state_from
own_state s birth = ap (λ (cs : List (Bytes × Canister)). record { version = s.version; time = s.time; canisters = cs; entries = s.entries }) (same_canisters birth s.canisters)

pub same_state : (s : State) (version birth : ℕ) (system : System) (memories : List Bytes) → version ≡ 1 → HasParts s system memories → SameState s (state_from version birth (part_of system) memories)
same_state s version birth system memories one parts =
    subst (λ (v : ℕ). SameState s (state_from v birth (part_of system) memories)) (parts.version ∙ sym one)
    (subst (λ (k : System). SameState s (state_from s.version birth (part_of k) memories)) parts.parts
    (subst (λ (ms : List Bytes). SameState s (state_from s.version birth (part_of (kept_of s)) ms)) parts.bytes (own_state s birth)))

pub is_made : (s : DiskState) (m : Mark) (system : System) (memories : List Bytes) (stacks : List (List NumberedFile)) (height : ℕ) (state : State) → IsMark m (part_of system) → m.version ≡ 1 → m.height ≡ height → map (λ x. x.layers) m.memories ≡ map numbers_of stacks
    → map (λ x. x.sums) m.memories ≡ map (chunk_hashes 1) memories → FitMemories (part_of system) memories → AllZip IsWholeStack memories stacks → AllZip (AreFinished s) memories stacks → HasParts state system memories
    → IsMadeOf s.files m (part_of system) stacks (whole height state)
is_made s m system memories stacks height state good one height_is layers sums fit are done parts =
    let reads : memories_from (part_of system) (all_layers memories stacks) ≡ memories = back memories (memories_in (part_of system)) stacks fit are in
    record {
      good = fits_mark m (part_of system) memories stacks good one layers fit are;
      height = sym height_is;
      layers = all_layers memories stacks;
      there = stacks_layers s memories stacks done;
      same_state = subst (λ (ms : List Bytes). SameState state (state_from m.version height (part_of system) ms)) (sym reads) (same_state state m.version height system memories one parts);
      same_layers = ap (map (λ (bytes : Bytes). whole_layer (length bytes / PAGE_SIZE))) parts.bytes ∙ numbers_back memories stacks are;
      true_sums = subst (AllZip (HasTrueSums m.version) m.memories) (sym reads) (subst (λ (v : ℕ). AllZip (HasTrueSums v) m.memories memories) (sym one) (true_sums m.memories memories sums));
    }
