-- The state that is installed has the manifest that was known.
use Rattle.std.proofs.Common.{◌≡◌, ℕ, suc, ◌+◌, ◌*◌, ◌/◌, ◌<◌, ◌≤◌, ◌==◌, ◌&&◌, not, if◌then◌else◌, Bool, true, false, List, [], ◌∷◌, ◌++◌, length, map, IsTrue, slice_get, Option, Some, None, Result, Ok, Err, refl, sym, ap, ◌∙◌, subst, arith}
use Rattle.std.specs.Prelude.{nat_lt, nat_le}
use Rattle.std.specs.List.{flat_map, AllByRecursion, range_with_len, list_all}
use Rattle.std.proofs.lemmas.Bool.{eq-eqb, eqb-true, leb-true, ltb-true, and_parts}
use Rattle.std.proofs.lemmas.List.{length-map, length-append}
use Rattle.format_spec.specs.Bytes.{Bytes, IsBytes, AreByteStrings, are_bytes, same_bytes, parts}
use Rattle.format_spec.specs.Hashes.{piece_hash}
use Rattle.format_spec.specs.declared.limits.TheConstants.{PAGE_SIZE, PIECE_SIZE}
use Rattle.format_spec.proofs.ByteStrings.{by_test, flat_bytes}
use Rattle.format_spec.proofs.Cuts.{heads}
use Rattle.format_spec.proofs.Parts.{joined, counts_pieces}
use Rattle.format_spec.proofs.Readings.{same_bytes_is}
use Rattle.state_spec.specs.State.{CanisterPart, SystemPart, IsMemory, IsByteCanister, is_id, part_of, canisters_from}
use Rattle.state_spec.specs.Files.{memory_files, heap_name, stable_name, system_name}
use Rattle.state_spec.specs.SystemText.{canister_text, read_system}
use Rattle.state_spec.specs.Manifest.{Manifest, FileRow}
use Rattle.state_spec.specs.ManifestText.{IsManifest, file_names, manifest_text, read_manifest}
use Rattle.state_spec.specs.Root.{MetaManifest, IsMeta, meta_of, pieces_of, root_of_meta}
use Rattle.state_spec.proofs.Names.{id_in_name}
use Rattle.state_spec.proofs.ManifestNames.{names_cons}
use Rattle.state_spec.proofs.ManifestWhole.{manifest_found}
use Rattle.state_spec.specs.ManifestText.{id_in}
use Rattle.sync_spec.specs.Messages.{Item, piece}
use Rattle.sync_spec.specs.Serving.{is_piece}
use Rattle.sync_spec.specs.Install.{bytes_had, disagreement, disagreement_from, unless_disagrees, agreeing_parts}
use Rattle.sync_spec.specs.Sync.{pieces_had}
use Rattle.sync_soundness.specs.Held.{HoldsManifest}
use Rattle.sync_soundness.proofs.Pieces.{right, bytes}
use Rattle.sync_soundness.proofs.Parted.{AreParts, parted}
use Rattle.sync_soundness.proofs.Remade.{named_files}
use Rattle.state_spec.proofs.TextBytes.{HasBytes}

-- ---- the pieces are those of the manifest

sized : (last : Bool) (b hash : Bytes) → IsTrue (is_piece last b (Some hash)) → (if last then nat_lt 0 (length b) && nat_le (length b) PIECE_SIZE else length b == PIECE_SIZE) ≡ true
sized last b hash h = (and_parts (same_bytes (piece_hash b) hash) (if last then nat_lt 0 (length b) && nat_le (length b) PIECE_SIZE else length b == PIECE_SIZE) h).1

are_parts : (hashes : List Bytes) (n : ℕ) (g : ℕ → Bytes) (a : ℕ) → a + length hashes ≡ n → ((i : ℕ) → i < length hashes → IsTrue (is_piece (suc (a + i) == n) (g (a + i)) (slice_get hashes i))) → AreParts PIECE_SIZE (map g (range_with_len a (length hashes)))
are_parts [] n g a e h = tt
are_parts (x ∷ []) n g a e h =
    let here : a + 0 ≡ a = omega arith in
    let outcome_at_end : suc (a + 0) ≡ n = omega (arith, e) in
    let z = sized true (g a) x (subst (λ (j : ℕ). IsTrue (is_piece true (g j) (Some x))) here (subst (λ (b : Bool). IsTrue (is_piece b (g (a + 0)) (Some x))) (eq-eqb (suc (a + 0)) n outcome_at_end) (h 0 (omega arith)))) in
    let c = and_parts (nat_lt 0 (length (g a))) (nat_le (length (g a)) PIECE_SIZE) z in
    ((ltb-true 0 (length (g a)) c.0, leb-true (length (g a)) PIECE_SIZE c.1), tt)
are_parts (x ∷ y ∷ hashes) n g a e h =
    let here : a + 0 ≡ a = omega arith in
    let outcome_with : (suc (a + 0) == n) ≡ false = differ (suc (a + 0)) n (omega (arith, e)) in
    let z = sized false (g a) x (subst (λ (j : ℕ). IsTrue (is_piece false (g j) (Some x))) here (subst (λ (b : Bool). IsTrue (is_piece b (g (a + 0)) (Some x))) outcome_with (h 0 (omega arith)))) in
    (eqb-true (length (g a)) PIECE_SIZE z, are_parts (y ∷ hashes) n g (a + 1) (omega (arith, e)) (λ i below. next i (h (suc i) (omega (arith, below)))))
  where
    differ : (k m : ℕ) → k < m → (k == m) ≡ false
    differ k m below = by (k == m) refl
      where
        by : (b : Bool) → (k == m) ≡ b → b ≡ false
        by false e = refl
        by true e = absurd (omega (arith, eqb-true k m e, below))

    next : (i : ℕ) → IsTrue (is_piece (suc (a + suc i) == n) (g (a + suc i)) (slice_get (y ∷ hashes) i)) → IsTrue (is_piece (suc (a + 1 + i) == n) (g (a + 1 + i)) (slice_get (y ∷ hashes) i))
    next i k = let e : a + suc i ≡ a + 1 + i = omega arith in subst (λ (j : ℕ). IsTrue (is_piece (suc j == n) (g j) (slice_get (y ∷ hashes) i))) e k

-- right pieces that spell a manifest are its own
module _ (of : MetaManifest) (had : List (Item × Bytes)) (good : IsMeta of) (holds : HoldsManifest of had) (m : Manifest) (spelled : read_manifest (flat_map (λ p. p) (pieces_had of had)) ≡ Ok m) where
  found : (joined (pieces_had of had) ≡ manifest_text m) × IsManifest m
  found = manifest_found (joined (pieces_had of had)) m (flat_bytes (λ (p : Bytes). p) (pieces_had of had) (bytes of had holds)) spelled

  own_pieces : pieces_of m ≡ pieces_had of had
  own_pieces =
      ap (parts PIECE_SIZE) (sym found.0)
      ∙ parted PIECE_SIZE counts_pieces (omega arith) (pieces_had of had)
      (are_parts of.pieces (length of.pieces) (λ i. bytes_had had (piece i)) 0 (omega arith) (λ i below. at i (holds.each i below).right))
    where
      at : (i : ℕ) → IsTrue (is_piece (suc i == length of.pieces) (bytes_had had (piece i)) (slice_get of.pieces i)) → IsTrue (is_piece (suc (0 + i) == length of.pieces) (bytes_had had (piece (0 + i))) (slice_get of.pieces i))
      at i h = let e : i ≡ 0 + i = omega arith in subst (λ (j : ℕ). IsTrue (is_piece (suc j == length of.pieces) (bytes_had had (piece j)) (slice_get of.pieces i))) e h

  pub manifest_is : IsManifest m
  manifest_is = found.1

  pub same_root : m.version ≡ of.version → root_of_meta (meta_of m) ≡ root_of_meta of
  unfolding meta_of
  same_root version =
      let hashes : map piece_hash (pieces_of m) ≡ of.pieces = ap (map piece_hash) own_pieces ∙ right of had holds in
      λ i. root_of_meta (record { version = version i; pieces = hashes i })

-- ---- a system text that agrees with the rows

passed : (a b c : Bool) (x y z : ℕ) (r : Option ℕ) → (if not a then Some x else if not b then Some y else if not c then Some z else r) ≡ None → (a ≡ true) × (b ≡ true) × (c ≡ true) × (r ≡ None)
passed true true true x y z r e = (refl, refl, refl, e)
passed true true false x y z r e = absurd cc
passed true false c x y z r e = absurd cc
passed false b c x y z r e = absurd cc

pub record Agrees (parts : SystemPart) (fs : List FileRow) : Type 0 where
  pub count : 2 * length parts.canisters + 1 ≡ length fs
  pub each : disagreement_from 20 parts.canisters fs ≡ None

pub agreed : (v : ℕ) (text : Bytes) (fs : List FileRow) (parts : SystemPart) → agreeing_parts (read_system v text) fs ≡ Ok parts → (read_system v text ≡ Ok parts) × Agrees parts fs
unfolding disagreement
agreed v text fs parts e = by (read_system v text) refl e
  where
    counted : (s : SystemPart) (b : Bool) → (2 * length s.canisters + 1 == length fs) ≡ b → (if not b then Some 16 else disagreement_from 20 s.canisters fs) ≡ None → Agrees s fs
    counted s true is e = record { count = eqb-true (2 * length s.canisters + 1) (length fs) is; each = e }
    counted s false is e = absurd cc

    same : (s : SystemPart) (o : Option ℕ) → disagreement s fs ≡ o → unless_disagrees s o ≡ Ok parts → (s ≡ parts) × (disagreement s fs ≡ None)
    same s None is e = (cc, is)
    same s (Some at) is e = absurd cc

    by : (r : Result SystemPart ℕ) → read_system v text ≡ r → agreeing_parts r fs ≡ Ok parts → (read_system v text ≡ Ok parts) × Agrees parts fs
    by (Err at) is e = absurd cc
    by (Ok s) is e =
        let k = same s (disagreement s fs) refl e in
        (is ∙ ap (λ (x : SystemPart). Ok x) k.0, subst (λ (x : SystemPart). Agrees x fs) k.0 (counted s (2 * length s.canisters + 1 == length fs) refl k.1))

same_id : (a b : Bytes) → IsBytes a → IsBytes b → heap_name a ≡ heap_name b → a ≡ b
same_id a b p q e = some (sym (id_in_name a _ p) ∙ ap id_in e ∙ id_in_name b _ q)
  where
    some : Some a ≡ Some b → a ≡ b
    some e = cc

-- the canisters that are made of the parts and the bytes of the memories
pub record Made (birth w n : ℕ) (v : ℕ → ℕ) (cs : List (Bytes × CanisterPart)) (fs : List FileRow) (memories : List Bytes) (text : Bytes) : Type 0 where
  pub files : memory_files w (canisters_from birth cs memories) ++ record { version = 1; name = system_name; bytes = text } ∷ [] ≡ named_files v n fs (memories ++ text ∷ [])
  pub parts : map (λ c. (c.0, part_of c.1)) (canisters_from birth cs memories) ≡ cs
  pub whole : AllByRecursion (λ c. IsMemory c.1.heap × IsMemory c.1.stable) (canisters_from birth cs memories)
  pub byte_strings : AllByRecursion IsByteCanister (canisters_from birth cs memories)

page_count : (k size : ℕ) → k * PAGE_SIZE ≡ size → size / PAGE_SIZE ≡ k
page_count k size e = omega (arith, e)

memory_good : (k : ℕ) (b : Bytes) → k * PAGE_SIZE ≡ length b → IsMemory (record { bytes = b; rounds = [] })
memory_good k b e = record { whole_pages = omega (arith, e) }

pub made : (birth at w n : ℕ) (v : ℕ → ℕ) (cs : List (Bytes × CanisterPart)) (ids : List Bytes) (fs : List FileRow) (memories : List Bytes) (text : Bytes)
    → map (λ r. r.name) fs ≡ file_names ids → IsTrue (list_all (λ id. is_id id && are_bytes id) ids) → 2 * length cs + 1 ≡ length fs → map (λ r. r.size) fs ≡ map (λ b. length b) (memories ++ text ∷ [])
    → AreByteStrings memories → AllByRecursion HasBytes cs → disagreement_from at cs fs ≡ None
    → ((i : ℕ) → n ≤ i → i < n + 2 * length cs → v i ≡ w) → v (n + 2 * length cs) ≡ 1 → Made birth w n v cs fs memories text
made birth at w n v [] ids [] memories text names good count sizes strings spelled agree is last = absurd (omega (arith, count))
made birth at w n v [] ids (f ∷ g ∷ fs) memories text names good count sizes strings spelled agree is last = absurd (omega (arith, count))
made birth at w n v [] ids (f ∷ []) (b ∷ memories) text names good count sizes strings spelled agree is last =
    absurd (omega (arith, ap length sizes, length-append memories (text ∷ []), length-map (memories ++ text ∷ []) (λ (x : Bytes). length x)))
made birth at w n v [] (id ∷ ids) (f ∷ []) [] text names good count sizes strings spelled agree is last = absurd cc
made birth at w n v [] [] (f ∷ []) [] text names good count sizes strings spelled agree is last =
    let name : system_name ≡ f.name = cc in
    let here : n + 2 * 0 ≡ n = omega arith in
    let first : v n ≡ 1 = ap v (sym here) ∙ last in
    record { files = λ i. record { version = sym first i; name = name i; bytes = text } ∷ []; parts = refl; whole = tt; byte_strings = tt }
made birth at w n v (c ∷ cs) ids [] memories text names good count sizes strings spelled agree is last = absurd (omega (arith, count))
made birth at w n v (c ∷ cs) ids (f ∷ []) memories text names good count sizes strings spelled agree is last = absurd (omega (arith, count))
made birth at w n v (c ∷ cs) [] (f ∷ g ∷ fs) memories text names good count sizes strings spelled agree is last = absurd cc
made birth at w n v (c ∷ cs) ids (f ∷ g ∷ fs) [] text names good count sizes strings spelled agree is last = absurd cc
made birth at w n v (c ∷ cs) ids (f ∷ g ∷ fs) (heap ∷ []) text names good count sizes strings spelled agree is last =
    absurd (omega (arith, count, ap length sizes, length-map fs (λ (r : FileRow). r.size)))
made birth at w n v (c ∷ cs) (id ∷ ids) (f ∷ g ∷ fs) (heap ∷ stable ∷ memories) text names good count sizes strings spelled agree is last =
    let p = passed (same_bytes (heap_name c.0) f.name) (c.1.heap * PAGE_SIZE == f.size) (c.1.stable * PAGE_SIZE == g.size) _ _ _ (disagreement_from (at + length (canister_text c)) cs fs) agree in
    let all_names : f.name ∷ g.name ∷ map (λ r. r.name) fs ≡ heap_name id ∷ stable_name id ∷ file_names ids = names ∙ names_cons id ids in
    let first = heads f.name (heap_name id) (g.name ∷ map (λ r. r.name) fs) (stable_name id ∷ file_names ids) all_names in
    let o = heads g.name (stable_name id) (map (λ r. r.name) fs) (file_names ids) first.1 in
    let t = and_parts (is_id id && are_bytes id) (list_all (λ id. is_id id && are_bytes id) ids) good in
    let z = heads f.size (length heap) (g.size ∷ map (λ r. r.size) fs) (length stable ∷ map (λ b. length b) (memories ++ text ∷ [])) sizes in
    let y = heads g.size (length stable) (map (λ r. r.size) fs) (map (λ b. length b) (memories ++ text ∷ [])) z.1 in
    let heap_is : heap_name c.0 ≡ f.name = same_bytes_is (heap_name c.0) f.name p.0 in
    let same : c.0 ≡ id = same_id c.0 id spelled.0.id (by_test id (and_parts (is_id id) (are_bytes id) t.0).1) (heap_is ∙ first.0) in
    let stable_is : stable_name c.0 ≡ g.name = ap stable_name same ∙ sym o.0 in
    let heap_size : c.1.heap * PAGE_SIZE ≡ length heap = eqb-true (c.1.heap * PAGE_SIZE) f.size p.1 ∙ z.0 in
    let stable_size : c.1.stable * PAGE_SIZE ≡ length stable = eqb-true (c.1.stable * PAGE_SIZE) g.size p.2 ∙ y.0 in
    let behind : n + 2 * suc (length cs) ≡ suc (suc n) + 2 * length cs = omega arith in
    let heap_version : v n ≡ w = is n (omega arith) (omega arith) in
    let stable_version : v (suc n) ≡ w = is (suc n) (omega arith) (omega arith) in
    let rest = made birth (at + length (canister_text c)) w (suc (suc n)) v cs ids fs memories text o.1 t.1 (omega (arith, count)) y.1 strings.1.1 spelled.1 p.3
    (λ i low high. is i (omega (arith, low)) (omega (arith, high))) (ap v (sym behind) ∙ last) in
    let heap_pages : length heap / PAGE_SIZE ≡ c.1.heap = page_count c.1.heap (length heap) heap_size in
    let stable_pages : length stable / PAGE_SIZE ≡ c.1.stable = page_count c.1.stable (length stable) stable_size in
    record {
      files = λ i. record { version = sym heap_version i; name = heap_is i; bytes = heap } ∷ record { version = sym stable_version i; name = stable_is i; bytes = stable } ∷ rest.files i;
      parts = λ i. (c.0, record { wasm = c.1.wasm; certified = c.1.certified; heap = heap_pages i; stable = stable_pages i }) ∷ rest.parts i;
      whole = ((memory_good c.1.heap heap heap_size, memory_good c.1.stable stable stable_size), rest.whole);
      byte_strings = (record { id = spelled.0.id; wasm = spelled.0.wasm; certified = spelled.0.certified; heap = strings.0; stable = strings.1.0 }, rest.byte_strings);
    }
