-- Right pieces, against any valid state with the root of their meta-manifest.
use Rattle.std.proofs.Common.{◌≡◌, ◌⊎◌, ℕ, zero, suc, ◌+◌, ◌<◌, ◌≤◌, ◌&&◌, ◌==◌, if◌then◌else◌, Bool, true, false, List, [], ◌∷◌, ◌++◌, length, map, codes, Result, Ok, Err, IsTrue, Contains, slice_get, slice_index_or, get_or, refl, sym, ap, ◌∙◌, subst, inl, inr, arith}
use Rattle.std.specs.List.{flat_map, AllByRecursion, range_with_len}
use Rattle.std.proofs.lemmas.Bool.{eq-eqb}
use Rattle.std.proofs.lemmas.List.{append_cancel_left}
use Rattle.std.proofs.lemmas.List.FromFn.{fill_by_all}
use Rattle.sha2.specs.Sha256.{sha256}
use Rattle.format_spec.specs.Bytes.{Bytes, IsBytes, AreByteStrings, same_bytes, be32, short_string}
use Rattle.format_spec.specs.Hashes.{Clash, root_string, piece_string, piece_hash, root_hash}
use Rattle.format_spec.specs.Versions.{is_version}
use Rattle.format_spec.proofs.Cuts.{cut_front, be32_same}
use Rattle.format_spec.proofs.Readings.{same_bytes_is}
use Rattle.state_spec.specs.State.{State, IsState}
use Rattle.state_spec.specs.Manifest.{Manifest, manifest_of, manifest_from}
use Rattle.state_spec.specs.ManifestText.{manifest_text, read_manifest}
use Rattle.state_spec.specs.Root.{MetaManifest, IsMeta, meta_of, meta_text, root_of, root_of_meta, hashed_strings}
use Rattle.state_spec.proofs.ManifestWhole.{manifest_only}
use Rattle.state_spec.proofs.VersionCases.{version_low}
use Rattle.soundness.proofs.Strings.{Meet, or_clash, one_or_meet, first_of_list}
use Rattle.soundness.proofs.SameRoot.{in_root, root_is}
use Rattle.soundness.proofs.StateManifests.{manifest_good}
use Rattle.soundness.proofs.StateBytes.{state_strings, root_bytes, piece_string_bytes}
use Rattle.soundness.proofs.Synced.{manifest_or_meet}
use Rattle.sync_spec.specs.Messages.{Item, meta, piece}
use Rattle.sync_spec.specs.Serving.{is_piece}
use Rattle.sync_spec.specs.Install.{bytes_had}
use Rattle.sync_spec.specs.Sync.{pieces_had, of_version, joined_manifest, item_string}
use Rattle.sync_soundness.specs.Held.{HoldsManifest}

-- ---- lists

pub all_range : {X : Type 0} (P : X → Type 0) (g : ℕ → X) (a n : ℕ) → ((i : ℕ) → a ≤ i → i < a + n → P (g i)) → AllByRecursion P (map g (range_with_len a n))
all_range P g a zero h = tt
all_range P g a (suc n) h = (h a (omega arith) (omega arith), all_range P g (a + 1) n (λ i low high. h i (omega (arith, low)) (omega (arith, high))))

pub map_twice : {X Y Z : Type 0} (f : Y → Z) (g : X → Y) (xs : List X) → map f (map g xs) ≡ map (λ x. f (g x)) xs
map_twice f g [] = refl
map_twice {Z = Z} f g (x ∷ xs) = ap (λ (zs : List Z). f (g x) ∷ zs) (map_twice f g xs)

all_at : {X : Type 0} (P : X → Type 0) (xs : List X) → AllByRecursion P xs → (k : ℕ) (d : X) → k < length xs → P (slice_index_or xs k d)
all_at P [] h k d below = absurd (omega (arith, below))
all_at P (x ∷ xs) h zero d below = h.0
all_at P (x ∷ xs) h (suc k) d below = all_at P xs h.1 k d (omega (arith, below))

pub in_all : {X : Type 0} (P : X → Type 0) (xs : List X) (x : X) → AllByRecursion P xs → Contains xs x → P x
in_all P xs x h c = subst P c.2 (all_at P xs h c.0 x c.1)

map_at : {X Y : Type 0} (f : X → Y) (xs : List X) (k : ℕ) (d : X) → slice_index_or (map f xs) k (f d) ≡ f (slice_index_or xs k d)
map_at f [] k d = refl
map_at f (x ∷ xs) zero d = refl
map_at f (x ∷ xs) (suc k) d = map_at f xs k d

map_length : {X Y : Type 0} (f : X → Y) (xs : List X) → length (map f xs) ≡ length xs
map_length f [] = refl
map_length f (x ∷ xs) = ap (λ n. suc n) (map_length f xs)

pub in_map : {X Y : Type 0} (f : X → Y) (xs : List X) (x : X) → Contains xs x → Contains (map f xs) (f x)
in_map f xs x c = (c.0, omega (arith, map_length f xs, c.1), map_at f xs c.0 x ∙ ap f c.2)

pub clash_within : (xs ys zs : List Bytes) → ((y : Bytes) → Contains ys y → Contains zs y) → Clash xs ys → Clash xs zs
clash_within xs ys zs h (x, y, cx, cy, bx, b, ne, e) = (x, y, cx, h y cy, bx, b, ne, e)

-- ---- hashes

and_second : (a b : Bool) → a && b ≡ true → a ≡ true
and_second true b h = refl
and_second false b h = h

piece_of : (last : Bool) (bytes hash : Bytes) (size : Bool) → (same_bytes (piece_hash bytes) hash && size) ≡ true → piece_hash bytes ≡ hash
piece_of last bytes hash size h = same_bytes_is (piece_hash bytes) hash (and_second (same_bytes (piece_hash bytes) hash) size h)

hash_at : (hashes : List Bytes) (k : ℕ) (d bytes : Bytes) (last : Bool) → k < length hashes → IsTrue (is_piece last bytes (slice_get hashes k)) → get_or hashes k d ≡ piece_hash bytes
hash_at [] k d bytes last below h = absurd (omega (arith, below))
hash_at (x ∷ xs) zero d bytes last below h = sym (piece_of last bytes x _ h)
hash_at (x ∷ xs) (suc k) d bytes last below h = hash_at xs k d bytes last (omega (arith, below)) h

module _ (m : MetaManifest) (had : List (Item × Bytes)) (holds : HoldsManifest m had) where
  pub right : map piece_hash (pieces_had m had) ≡ m.pieces
  right =
      map_twice piece_hash (λ i. bytes_had had (piece i)) (range_with_len 0 (length m.pieces))
      ∙ sym (fill_by_all (λ i. piece_hash (bytes_had had (piece i))) m.pieces (length m.pieces) [] refl
      (λ k below. hash_at m.pieces k [] (bytes_had had (piece k)) (suc k == length m.pieces) below (holds.each k below).right))

  pub bytes : AreByteStrings (pieces_had m had)
  bytes = all_range IsBytes (λ i. bytes_had had (piece i)) 0 (length m.pieces) (λ i low high. (holds.each i (omega (arith, high))).byte_string)

root_as : (m : MetaManifest) → root_of_meta m ≡ sha256 (root_string m.version m.pieces)
unfolding root_hash
root_as m = refl

version_cut : (v w : ℕ) (ps qs : List Bytes) → is_version v ≡ true → is_version w ≡ true → root_string v ps ≡ root_string w qs → v ≡ w
version_cut v w ps qs a b e =
    let name : Bytes = short_string (codes "ic-state-meta-manifest") in
    let behind = append_cancel_left name _ _ e in
    let low = version_low v a in
    let low_too = version_low w b in
    be32_same v w (omega (arith, low.1)) (omega (arith, low_too.1)) (cut_front (be32 v) (be32 (length ps) ++ flat_map (λ hash. hash) ps) (be32 w) (be32 (length qs) ++ flat_map (λ hash. hash) qs) refl behind).0

state_version : (s : State) → (manifest_of s).version ≡ s.version
unfolding manifest_of manifest_from
state_version s = refl

own_version : (m : Manifest) (v : ℕ) → m.version ≡ v → of_version v (Ok m) ≡ Ok m
own_version m v e = ap (λ (b : Bool). if b then Ok m else Err 4) (eq-eqb m.version v e)

no_error : {A : Type 0} {r : Result Manifest ℕ} {m : Manifest} (place : ℕ) → (r ≡ Ok m) ⊎ A → r ≡ Err place → A
no_error place (inl h) e = absurd cc
no_error place (inr a) e = a

module _ (s : State) (m : MetaManifest) (had : List (Item × Bytes)) (valid : IsState s) (root : root_of_meta m ≡ root_of s) (holds : HoldsManifest m had) where
  among : (x : Bytes) → Contains (root_string m.version m.pieces ∷ map piece_string (pieces_had m had)) x → Contains (map item_string had) x
  among x c =
      in_all (Contains (map item_string had)) (root_string m.version m.pieces ∷ map piece_string (pieces_had m had)) x (
        in_map item_string had (meta, meta_text m) holds.of,
        subst (AllByRecursion (Contains (map item_string had))) (sym (map_twice piece_string (λ i. bytes_had had (piece i)) (range_with_len 0 (length m.pieces))))
            (all_range (Contains (map item_string had)) (λ i. piece_string (bytes_had had (piece i))) 0 (length m.pieces) (λ i low high. in_map item_string had (piece i, bytes_had had (piece i)) (holds.each i (omega (arith, high))).listed)),
      )
      c

  read_or_meet : (joined : Bytes)
      → (joined ≡ manifest_text (manifest_of s)) ⊎ Meet (hashed_strings s) (root_string m.version m.pieces ∷ map piece_string (pieces_had m had))
      → (read_manifest joined ≡ Ok (manifest_of s)) ⊎ Meet (hashed_strings s) (root_string m.version m.pieces ∷ map piece_string (pieces_had m had))
  read_or_meet joined (inl e) = inl (ap read_manifest e ∙ manifest_only (manifest_of s) (manifest_good s valid))
  read_or_meet joined (inr c) = inr c

  got_bytes : AreByteStrings (root_string m.version m.pieces ∷ map piece_string (pieces_had m had))
  got_bytes = (subst (λ (x : List Bytes). IsBytes (root_string m.version x)) (right m had holds) (root_bytes m.version (pieces_had m had)), piece_string_bytes (pieces_had m had) (bytes m had holds))

  within : (A : Type 0) → A ⊎ Clash (hashed_strings s) (root_string m.version m.pieces ∷ map piece_string (pieces_had m had)) → A ⊎ Clash (hashed_strings s) (map item_string had)
  within A (inl a) = inl a
  within A (inr c) = inr (clash_within (hashed_strings s) (root_string m.version m.pieces ∷ map piece_string (pieces_had m had)) (map item_string had) among c)

  pub spells_or_clash : (read_manifest (flat_map (λ p. p) (pieces_had m had)) ≡ Ok (manifest_of s)) ⊎ Clash (hashed_strings s) (map item_string had)
  spells_or_clash =
      let text : Bytes = flat_map (λ p. p) (pieces_had m had) in
      within (read_manifest text ≡ Ok (manifest_of s))
      (or_clash (read_manifest text ≡ Ok (manifest_of s)) (hashed_strings s) (root_string m.version m.pieces ∷ map piece_string (pieces_had m had)) (state_strings s valid) got_bytes
      (read_or_meet text (manifest_or_meet s m (pieces_had m had) root (right m had holds))))

  -- the version is that of the state
  version_or_meet : IsMeta m → (m.version ≡ s.version) ⊎ Meet (hashed_strings s) (root_string m.version m.pieces ∷ map piece_string (pieces_had m had))
  version_or_meet good = by (one_or_meet (root_string s.version (meta_of (manifest_of s)).pieces) (root_string m.version m.pieces) (hashed_strings s)
      (root_string m.version m.pieces ∷ map piece_string (pieces_had m had)) (in_root s) (first_of_list (root_string m.version m.pieces) (map piece_string (pieces_had m had))) (sym (root_is s) ∙ sym root ∙ root_as m))
    where
      by : (root_string s.version (meta_of (manifest_of s)).pieces ≡ root_string m.version m.pieces) ⊎ Meet (hashed_strings s) (root_string m.version m.pieces ∷ map piece_string (pieces_had m had))
          → (m.version ≡ s.version) ⊎ Meet (hashed_strings s) (root_string m.version m.pieces ∷ map piece_string (pieces_had m had))
      by (inl e) = inl (sym (version_cut s.version m.version (meta_of (manifest_of s)).pieces m.pieces valid.version good.version e))
      by (inr c) = inr c

  pub version_or_clash : IsMeta m → (m.version ≡ s.version) ⊎ Clash (hashed_strings s) (map item_string had)
  version_or_clash good =
      within (m.version ≡ s.version)
      (or_clash (m.version ≡ s.version) (hashed_strings s) (root_string m.version m.pieces ∷ map piece_string (pieces_had m had)) (state_strings s valid) got_bytes (version_or_meet good))

  pub joined_or_clash : IsMeta m → (joined_manifest m had ≡ Ok (manifest_of s)) ⊎ Clash (hashed_strings s) (map item_string had)
  joined_or_clash good = by spells_or_clash (version_or_clash good)
    where
      by : (read_manifest (flat_map (λ p. p) (pieces_had m had)) ≡ Ok (manifest_of s)) ⊎ Clash (hashed_strings s) (map item_string had) → (m.version ≡ s.version) ⊎ Clash (hashed_strings s) (map item_string had)
          → (joined_manifest m had ≡ Ok (manifest_of s)) ⊎ Clash (hashed_strings s) (map item_string had)
      by (inl e) (inl v) = inl (ap (of_version m.version) e ∙ own_version (manifest_of s) m.version (state_version s ∙ sym v))
      by (inl e) (inr c) = inr c
      by (inr c) v = inr c

  pub bad_or_clash : (place : ℕ) → read_manifest (flat_map (λ p. p) (pieces_had m had)) ≡ Err place → Clash (hashed_strings s) (map item_string had)
  bad_or_clash place e = no_error place spells_or_clash e

  pub not_joined_or_clash : IsMeta m → (place : ℕ) → joined_manifest m had ≡ Err place → Clash (hashed_strings s) (map item_string had)
  not_joined_or_clash good place e = no_error place (joined_or_clash good) e
