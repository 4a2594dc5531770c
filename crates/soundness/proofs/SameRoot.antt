-- States with one root are equal up to history, or two strings clash.
use Rattle.std.proofs.Common.{◌≡◌, ◌⊎◌, ℕ, List, [], ◌∷◌, ◌++◌, length, map, codes, Contains, Option, refl, sym, ap, ◌∙◌, subst, inl, inr, arith}
use Rattle.std.specs.List.{flat_map}
use Rattle.std.proofs.lemmas.List.{append_cancel_left, map-append, same_from_push}
use Rattle.std.proofs.lemmas.List.Elements.{Contains-append_left, Contains-append_right}
use Rattle.sha2.specs.Sha256.{sha256}
use Rattle.sha2.proofs.Facts256.{length-sha256}
use Rattle.format_spec.proofs.Cuts.{cut_front, cons_same, heads, Are32, hashes_cut}
use Rattle.format_spec.specs.Bytes.{Bytes, be32, short_string}
use Rattle.format_spec.specs.Hashes.{chunk_string, file_string, piece_string, root_string, chunk_hash, piece_hash, root_hash}
use Rattle.format_spec.specs.declared.limits.TheConstants.{PIECE_SIZE}
use Rattle.state_spec.specs.State.{State, Canister, CanisterPart, Memory, IsState, IsSystem, SystemPart, bytes_in, memory_bytes, system_of, part_of, canister_without_history, SameState}
use Rattle.state_spec.specs.SystemText.{system_text, read_system}
use Rattle.state_spec.specs.Files.{File, files, heap_file, memory_files, stable_file, system_file}
use Rattle.state_spec.specs.Manifest.{Manifest, FileRow, manifest_of, manifest_from, file_row, sums_of, chunk_sums, row_chunks}
use Rattle.state_spec.specs.ManifestText.{manifest_text, read_manifest}
use Rattle.state_spec.specs.Root.{meta_of, pieces_of, root_of, hashed_strings}
use Rattle.state_spec.proofs.BothWays.{system_again}
use Rattle.state_spec.proofs.FileOrder.{map-in_turn}
use Rattle.state_spec.proofs.ManifestWhole.{manifest_only}
use Rattle.soundness.proofs.Strings.{Meet, one_or_meet, first_of_list, meet_within}
use Rattle.format_spec.proofs.Parts.{joined, joined_parts}
use Rattle.soundness.proofs.Joins.{each_or_meet}
use Rattle.soundness.proofs.Texts.{chunks_in, contents, hashes_in, versions, sizes_of, row_hashes, same_contents}
use Rattle.soundness.proofs.StateManifests.{manifest_good}
use Rattle.format_spec.proofs.Readings.{ok_is}

-- ---- the lists of strings

map_flat : {X : Type 0} (w : Bytes → Bytes) (g : X → List Bytes) (xs : List X) → map w (flat_map g xs) ≡ flat_map (λ x. map w (g x)) xs
map_flat w g [] = refl
map_flat w g (x ∷ xs) = map-append w (g x) (flat_map g xs) ∙ ap (λ (y : List Bytes). map w (g x) ++ y) (map_flat w g xs)

abbrev pub pieces_in : State → List Bytes
pieces_in s = pieces_of (manifest_of s)

pub in_chunks : (s : State) (x : Bytes) → Contains (map chunk_string (chunks_in (files s))) x → Contains (hashed_strings s) x
unfolding hashed_strings
in_chunks s x h =
    let cs : List Bytes = flat_map (λ f. map chunk_string (row_chunks f)) (files s) in
    let fs : List Bytes = map (λ f. file_string (chunk_sums (sums_of f))) (files s) in
    let ps : List Bytes = map piece_string (pieces_in s) in
    let rs : List Bytes = root_string s.version (meta_of (manifest_of s)).pieces ∷ [] in
    Contains-append_left (cs ++ fs ++ ps) rs x (Contains-append_left (cs ++ fs) ps x (Contains-append_left cs fs x (subst (λ (y : List Bytes). Contains y x) (map_flat chunk_string row_chunks (files s)) h)))

pub in_pieces : (s : State) (x : Bytes) → Contains (map piece_string (pieces_in s)) x → Contains (hashed_strings s) x
unfolding hashed_strings
in_pieces s x h =
    let cs : List Bytes = flat_map (λ f. map chunk_string (row_chunks f)) (files s) in
    let fs : List Bytes = map (λ f. file_string (chunk_sums (sums_of f))) (files s) in
    let ps : List Bytes = map piece_string (pieces_in s) in
    let rs : List Bytes = root_string s.version (meta_of (manifest_of s)).pieces ∷ [] in
    Contains-append_left (cs ++ fs ++ ps) rs x (Contains-append_right (cs ++ fs) ps x h)

pub in_root : (s : State) → Contains (hashed_strings s) (root_string s.version (meta_of (manifest_of s)).pieces)
unfolding hashed_strings
in_root s =
    let cs : List Bytes = flat_map (λ f. map chunk_string (row_chunks f)) (files s) in
    let fs : List Bytes = map (λ f. file_string (chunk_sums (sums_of f))) (files s) in
    let ps : List Bytes = map piece_string (pieces_in s) in
    let r : Bytes = root_string s.version (meta_of (manifest_of s)).pieces in
    Contains-append_right (cs ++ fs ++ ps) (r ∷ []) r (first_of_list r [])

-- ---- the hashes by SHA-256

pub root_is : (s : State) → root_of s ≡ sha256 (root_string s.version (meta_of (manifest_of s)).pieces)
unfolding root_of root_hash meta_of manifest_of manifest_from
root_is s = refl

pub pieces_are : (m : Manifest) → (meta_of m).pieces ≡ map (λ x. sha256 (piece_string x)) (pieces_of m)
unfolding meta_of piece_hash
pieces_are m = refl

pub chunks_are : (xs : List Bytes) → map chunk_hash xs ≡ map (λ x. sha256 (chunk_string x)) xs
unfolding chunk_hash
chunks_are xs = refl

pub pieces_32 : (xs : List Bytes) → Are32 (map (λ x. sha256 (piece_string x)) xs)
pieces_32 [] = tt
pieces_32 (x ∷ xs) = (length-sha256 _, pieces_32 xs)

pub root_joined : (v w : ℕ) (ps qs : List Bytes) → root_string v ps ≡ root_string w qs → joined ps ≡ joined qs
root_joined v w ps qs e =
    (cut_front (be32 v ++ be32 (length ps)) (joined ps) (be32 w ++ be32 (length qs)) (joined qs) refl
    (append_cancel_left (short_string (codes "ic-state-meta-manifest")) (be32 v ++ be32 (length ps) ++ joined ps) (be32 w ++ be32 (length qs) ++ joined qs) e)).1

pub chunk_inj : (x y : Bytes) → chunk_string x ≡ chunk_string y → x ≡ y
chunk_inj x y e = append_cancel_left (short_string (codes "ic-state-chunk")) x y e

pub piece_inj : (x y : Bytes) → piece_string x ≡ piece_string y → x ≡ y
piece_inj x y e = append_cancel_left (short_string (codes "ic-state-sub-manifest")) x y e

-- ---- down from the root

abbrev Meets : State → State → Type 0
Meets s t = Meet (hashed_strings s) (hashed_strings t)

root_level : (s t : State) → root_of s ≡ root_of t → (map (λ x. sha256 (piece_string x)) (pieces_in s) ≡ map (λ x. sha256 (piece_string x)) (pieces_in t)) ⊎ Meets s t
root_level s t e = by (one_or_meet (root_string s.version (meta_of (manifest_of s)).pieces) (root_string t.version (meta_of (manifest_of t)).pieces) (hashed_strings s) (hashed_strings t) (in_root s) (in_root t) (sym (root_is s) ∙ e ∙ root_is t))
  where
    by : (root_string s.version (meta_of (manifest_of s)).pieces ≡ root_string t.version (meta_of (manifest_of t)).pieces) ⊎ Meets s t → (map (λ x. sha256 (piece_string x)) (pieces_in s) ≡ map (λ x. sha256 (piece_string x)) (pieces_in t)) ⊎ Meets s t
    by (inr c) = inr c
    by (inl p) =
        let ps : List Bytes = map (λ x. sha256 (piece_string x)) (pieces_in s) in
        let qs : List Bytes = map (λ x. sha256 (piece_string x)) (pieces_in t) in
        let j : joined ps ≡ joined qs = ap joined (sym (pieces_are (manifest_of s))) ∙ root_joined s.version t.version (meta_of (manifest_of s)).pieces (meta_of (manifest_of t)).pieces p ∙ ap joined (pieces_are (manifest_of t)) in
        inl (hashes_cut ps qs (pieces_32 (pieces_in s)) (pieces_32 (pieces_in t)) j)

piece_level : (s t : State) → (map (λ x. sha256 (piece_string x)) (pieces_in s) ≡ map (λ x. sha256 (piece_string x)) (pieces_in t)) ⊎ Meets s t → (manifest_text (manifest_of s) ≡ manifest_text (manifest_of t)) ⊎ Meets s t
piece_level s t (inr c) = inr c
piece_level s t (inl e) = by (each_or_meet piece_string piece_inj (pieces_in s) (pieces_in t) e)
  where
    by : (pieces_in s ≡ pieces_in t) ⊎ Meet (map piece_string (pieces_in s)) (map piece_string (pieces_in t)) → (manifest_text (manifest_of s) ≡ manifest_text (manifest_of t)) ⊎ Meets s t
    by (inr c) = inr (meet_within (map piece_string (pieces_in s)) (map piece_string (pieces_in t)) (hashed_strings s) (hashed_strings t) (in_pieces s) (in_pieces t) c)
    by (inl p) = inl (sym (joined_parts PIECE_SIZE (manifest_text (manifest_of s)) (omega arith)) ∙ ap joined p ∙ joined_parts PIECE_SIZE (manifest_text (manifest_of t)) (omega arith))

-- ---- the files of a state

state_contents : (s : State) → contents (files s) ≡ memory_bytes s ++ system_text (system_of s) ∷ []
unfolding files
state_contents s =
    map-append (λ (f : File). f.bytes) (memory_files s.version s.canisters) (system_file (system_of s) ∷ [])
    ∙ ap (λ (x : List Bytes). x ++ system_text (system_of s) ∷ []) (map-in_turn (heap_file s.version) (stable_file s.version) (λ (f : File). f.bytes) s.canisters)

row_sizes : (fs : List File) → map (λ (r : FileRow). r.size) (map file_row (map sums_of fs)) ≡ sizes_of fs
row_sizes [] = refl
row_sizes (f ∷ fs) = cons_same (length f.bytes) (length f.bytes) _ _ refl (row_sizes fs)

file_versions : (v w : ℕ) (cs ds : List (Bytes × Canister)) (x y : File) → v ≡ w → x.version ≡ y.version → length (sizes_of (memory_files v cs ++ x ∷ [])) ≡ length (sizes_of (memory_files w ds ++ y ∷ []))
    → versions (memory_files v cs ++ x ∷ []) ≡ versions (memory_files w ds ++ y ∷ [])
file_versions v w [] [] x y e last n = cons_same x.version y.version [] [] last refl
file_versions v w [] (d ∷ ds) x y e last n = absurd (omega (arith, n))
file_versions v w (c ∷ cs) [] x y e last n = absurd (omega (arith, n))
file_versions v w (c ∷ cs) (d ∷ ds) x y e last n = cons_same v w _ _ e (cons_same v w _ _ e (file_versions v w cs ds x y e last (omega (arith, n))))

-- ---- down to the bytes

record SameBytes (s t : State) : Type 0 where
  version : s.version ≡ t.version
  memory : memory_bytes s ≡ memory_bytes t
  system : system_text (system_of s) ≡ system_text (system_of t)

-- from one manifest, whose text tells it, and the chunks that have rows
same_bytes_of : (s t : State) → manifest_of s ≡ manifest_of t → chunks_in (files s) ≡ chunks_in (files t) → SameBytes s t
unfolding manifest_of manifest_from files
same_bytes_of s t e chunks =
    let version : s.version ≡ t.version = ap (λ (m : Manifest). m.version) e in
    let sizes : sizes_of (files s) ≡ sizes_of (files t) = sym (row_sizes (files s)) ∙ ap (λ (m : Manifest). map (λ (r : FileRow). r.size) m.files) e ∙ row_sizes (files t) in
    let of : versions (files s) ≡ versions (files t) = file_versions s.version t.version s.canisters t.canisters (system_file (system_of s)) (system_file (system_of t)) version refl (ap length sizes) in
    let all : contents (files s) ≡ contents (files t) = same_contents 0 (files s) (files t) of sizes (ap (λ (m : Manifest). m.chunks) e) chunks in
    let both = same_from_push (memory_bytes s) (memory_bytes t) (system_text (system_of s)) (system_text (system_of t)) (sym (state_contents s) ∙ all ∙ state_contents t) in
    record { version = version; memory = both.0; system = both.1 }

pub row_hashes_of : (s : State) → hashes_in (manifest_of s).chunks ≡ map chunk_hash (chunks_in (files s))
unfolding manifest_of manifest_from
row_hashes_of s = row_hashes 0 (files s)

file_level : (s t : State) → IsState s → IsState t → (manifest_text (manifest_of s) ≡ manifest_text (manifest_of t)) ⊎ Meets s t → SameBytes s t ⊎ Meets s t
file_level s t hs ht (inr c) = inr c
file_level s t hs ht (inl e) = by (each_or_meet chunk_string chunk_inj (chunks_in (files s)) (chunks_in (files t)) (sym (chunks_are (chunks_in (files s))) ∙ hashes ∙ chunks_are (chunks_in (files t))))
  where
    same : manifest_of s ≡ manifest_of t
    same = ok_is (manifest_of s) (manifest_of t) (sym (manifest_only (manifest_of s) (manifest_good s hs)) ∙ ap read_manifest e ∙ manifest_only (manifest_of t) (manifest_good t ht))

    hashes : map chunk_hash (chunks_in (files s)) ≡ map chunk_hash (chunks_in (files t))
    hashes = sym (row_hashes_of s) ∙ ap (λ (m : Manifest). hashes_in m.chunks) same ∙ row_hashes_of t

    by : (chunks_in (files s) ≡ chunks_in (files t)) ⊎ Meet (map chunk_string (chunks_in (files s))) (map chunk_string (chunks_in (files t))) → SameBytes s t ⊎ Meets s t
    by (inr c) = inr (meet_within (map chunk_string (chunks_in (files s))) (map chunk_string (chunks_in (files t))) (hashed_strings s) (hashed_strings t) (in_chunks s) (in_chunks t) c)
    by (inl q) = inl (same_bytes_of s t same q)

-- ---- from the bytes to the state

part : Bytes × Canister → Bytes × CanisterPart
part c = (c.0, part_of c.1)

plain : Bytes × Canister → Bytes × Canister
plain c = (c.0, canister_without_history c.1)

canister_from : Bytes → Option Bytes → Bytes → Bytes → Bytes → Bytes × Canister
canister_from id wasm certified heap stable = (id, record { wasm = wasm; certified = certified; heap = record { bytes = heap; rounds = [] }; stable = record { bytes = stable; rounds = [] }; birth = 0 })

state_from : ℕ → ℕ → List (Bytes × Canister) → List (List Bytes × Bytes) → State
state_from version time canisters entries = record { version = version; time = time; canisters = canisters; entries = entries }

plain_is : (c : Bytes × Canister) → plain c ≡ canister_from c.0 c.1.wasm c.1.certified c.1.heap.bytes c.1.stable.bytes
unfolding plain canister_from
plain_is c = refl

from_same : (a b : Bytes) (w v : Option Bytes) (x y h k m n : Bytes) → a ≡ b → w ≡ v → x ≡ y → h ≡ k → m ≡ n → canister_from a w x h m ≡ canister_from b v y k n
from_same a b w v x y h k m n p q r s t = cc

state_same : (v w a b : ℕ) (cs ds : List (Bytes × Canister)) (es fs : List (List Bytes × Bytes)) → v ≡ w → a ≡ b → cs ≡ ds → es ≡ fs → state_from v a cs es ≡ state_from w b ds fs
state_same v w a b cs ds es fs o p q r = cc

one_canister : (c d : Bytes × Canister) → part c ≡ part d → c.1.heap.bytes ≡ d.1.heap.bytes → c.1.stable.bytes ≡ d.1.stable.bytes → plain c ≡ plain d
unfolding part
one_canister c d p h s =
    plain_is c
    ∙ from_same c.0 d.0 c.1.wasm d.1.wasm c.1.certified d.1.certified c.1.heap.bytes d.1.heap.bytes c.1.stable.bytes d.1.stable.bytes
    (ap (λ (x : Bytes × CanisterPart). x.0) p) (ap (λ (x : Bytes × CanisterPart). x.1.wasm) p) (ap (λ (x : Bytes × CanisterPart). x.1.certified) p) h s
    ∙ sym (plain_is d)

canisters_same : (cs ds : List (Bytes × Canister)) → map part cs ≡ map part ds → bytes_in cs ≡ bytes_in ds → map plain cs ≡ map plain ds
canisters_same [] [] p q = refl
canisters_same [] (d ∷ ds) p q = absurd cc
canisters_same (c ∷ cs) [] p q = absurd cc
canisters_same (c ∷ cs) (d ∷ ds) p q =
    let a = heads (part c) (part d) (map part cs) (map part ds) p in
    let b = heads c.1.heap.bytes d.1.heap.bytes (c.1.stable.bytes ∷ bytes_in cs) (d.1.stable.bytes ∷ bytes_in ds) q in
    let e = heads c.1.stable.bytes d.1.stable.bytes (bytes_in cs) (bytes_in ds) b.1 in
    cons_same (plain c) (plain d) (map plain cs) (map plain ds) (one_canister c d a.0 b.0 e.0) (canisters_same cs ds a.1 e.1)

parts_same : (s t : State) → system_of s ≡ system_of t → (s.time ≡ t.time) × (map part s.canisters ≡ map part t.canisters) × (s.entries ≡ t.entries)
unfolding system_of part
parts_same s t e = (ap (λ (x : SystemPart). x.time) e, ap (λ (x : SystemPart). x.canisters) e, ap (λ (x : SystemPart). x.entries) e)

whole : (s t : State) → s.version ≡ t.version → system_of s ≡ system_of t → memory_bytes s ≡ memory_bytes t → SameState s t
unfolding state_from plain
whole s t v e m =
    let p = parts_same s t e in
    state_same s.version t.version s.time t.time (map plain s.canisters) (map plain t.canisters) s.entries t.entries v p.0 (canisters_same s.canisters t.canisters p.1 m) p.2

system_same : (s t : State) → IsState s → IsState t → s.version ≡ t.version → system_text (system_of s) ≡ system_text (system_of t) → system_of s ≡ system_of t
system_same s t hs ht v e =
    let there : IsSystem s.version (system_of t) = subst (λ (x : ℕ). IsSystem x (system_of t)) (sym v) ht.system in
    ok_is (system_of s) (system_of t) (sym (system_again s.version (system_of s) hs.system) ∙ ap (read_system s.version) e ∙ system_again s.version (system_of t) there)

pub same_root : (s t : State) → IsState s → IsState t → root_of s ≡ root_of t → SameState s t ⊎ Meet (hashed_strings s) (hashed_strings t)
same_root s t hs ht e = by (file_level s t hs ht (piece_level s t (root_level s t e)))
  where
    by : SameBytes s t ⊎ Meets s t → SameState s t ⊎ Meets s t
    by (inr c) = inr c
    by (inl b) = inl (whole s t b.version (system_same s t hs ht b.version b.system) b.memory)
