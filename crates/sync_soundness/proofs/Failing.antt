-- A sync fails only where two strings clash.
use Rattle.std.proofs.Common.{◌≡◌, ◌⊎◌, ℕ, zero, suc, ◌<◌, not, ◌||◌, cond, if◌then◌else◌, Bool, true, false, List, [], ◌∷◌, ◌++◌, length, map, filter, find, Option, Some, None, Ok, Err, Result, IsTrue, Contains, refl, sym, ap, ◌∙◌, subst, inl, inr, arith}
use Rattle.std.specs.List.{flat_map, AllByRecursion, list_any}
use Rattle.std.specs.Option.{option_map_or}
use Rattle.std.proofs.lemmas.Bool.{eqb-true, eq-eqb}
use Rattle.std.proofs.lemmas.List.Elements.{Contains-append_left, Contains-append_right}
use Rattle.std.proofs.lemmas.List.{map-append}
use Rattle.format_spec.specs.Bytes.{Bytes, IsBytes}
use Rattle.format_spec.specs.Hashes.{Clash}
use Rattle.format_spec.proofs.ByteStrings.{cut_bytes}
use Rattle.state_spec.specs.State.{State, IsState, SystemPart}
use Rattle.state_spec.specs.Manifest.{Manifest, manifest_of}
use Rattle.state_spec.specs.ManifestText.{read_manifest}
use Rattle.state_spec.specs.Root.{MetaManifest, meta_text, root_of, hashed_strings, read_meta}
use Rattle.sync_spec.specs.Messages.{Item, meta, piece, chunk, Content, gone, here, content_text, Answer, read_answer, answer_text, ask_text}
use Rattle.sync_spec.specs.Serving.{Known, is_right, pieces, rows}
use Rattle.sync_spec.specs.Core.{Core, Wanted, Heard, same_item, has_item, verdict_if, verdict, core_after_message, core_after_verdict, core_after_turn}
use Rattle.sync_spec.specs.Core as core
use Rattle.sync_spec.specs.Events.{Events, Asked, Given, came, nothing, failed, all_went_out, core_after_asks}
use Rattle.sync_spec.specs.Local.{local_hits, manifests_of}
use Rattle.sync_spec.specs.Rows.{system_number}
use Rattle.sync_spec.specs.Install.{bytes_had, chunks_had, file_bytes, system_for}
use Rattle.sync_spec.specs.Sync.{Sync, Stage, at_meta, at_pieces, at_chunks, at_system, at_memories, Heights, outcome_with, known_at, is_right_at, is_for, content_bytes, sync_after_asks, outcome_of_look, outcome_of_message, outcome_of_answer}
use Rattle.sync_spec.specs.Sync.{outcome_of_verdict, outcome_after_item, outcome_of_list, outcome_of_meta, outcome_of_manifest, outcome_of_chunks, outcome_of_turn, outcome_at}
use Rattle.sync_spec.specs.Sync.{sync_step, outcome_of_system, outcome_of_memory, with_hits, system_had, pieces_had, joined_manifest, item_string, strings_of_sync, steps_left}
use Rattle.sync_spec.specs.Sync.{Told, none_came, wrong, late, took, install_left, bad_manifest, bad_system, peer_fault, ready}
use Rattle.sync_spec.specs.SyncLaws.{IsAtStage, IsHeld, IsMissingOrHeld, KnowsMeta, KnowsManifest, IsByteGiven, AreByteEvents, item_by, message_item, given_item, item_in, sync_at_end, FailsByClash}
use Rattle.sync_spec.proofs.Missing.{has_items}
use Rattle.sync_spec.proofs.Bringing.{turn_same, all_asks}
use Rattle.sync_soundness.specs.Held.{Holds, HoldsManifest}
use Rattle.sync_soundness.proofs.Pieces.{spells_or_clash, not_joined_or_clash, clash_within}
use Rattle.sync_soundness.proofs.Systems.{bad_system_or_clash}
use Rattle.sync_spec.proofs.Answers.{answer_found}

-- ---- items

true_false : true ≡ false → ⊥
true_false e = cc

false_true : false ≡ true → ⊥
false_true e = cc

pub is_same : (a b : Item) → same_item a b ≡ true → a ≡ b
is_same meta meta e = refl
is_same meta (piece j) e = absurd (false_true e)
is_same meta (chunk j) e = absurd (false_true e)
is_same (piece i) meta e = absurd (false_true e)
is_same (piece i) (piece j) e = ap (λ n. piece n) (eqb-true i j e)
is_same (piece i) (chunk j) e = absurd (false_true e)
is_same (chunk i) meta e = absurd (false_true e)
is_same (chunk i) (piece j) e = absurd (false_true e)
is_same (chunk i) (chunk j) e = ap (λ n. chunk n) (eqb-true i j e)

pub same_self : (a : Item) → same_item a a ≡ true
same_self meta = refl
same_self (piece i) = eq-eqb i i refl
same_self (chunk i) = eq-eqb i i refl

abbrev pub others : Item → List Wanted → List Wanted
others item ws = filter (λ w. not (same_item w.item item)) ws

cons_nil : {X : Type 0} (x : X) (xs : List X) → x ∷ xs ≡ [] → ⊥
cons_nil x xs e = cc

-- where no other item is missing, a missing item is this one
pub only_one : (item i : Item) (ws : List Wanted) → others item ws ≡ [] → has_item ws i ≡ true → i ≡ item
only_one item i [] none there = absurd (false_true there)
only_one item i (w ∷ ws) none there = by (λ e f. only_one item i ws e f) (same_item w.item item) refl (same_item w.item i) refl
  where
    rest_none : same_item w.item item ≡ true → others item ws ≡ []
    rest_none e = ap (λ b. cond (not b) (w ∷ others item ws) (others item ws)) (sym e) ∙ none

    first_none : same_item w.item item ≡ false → ⊥
    first_none e = cons_nil w (others item ws) (ap (λ b. cond (not b) (w ∷ others item ws) (others item ws)) (sym e) ∙ none)

    by : (others item ws ≡ [] → has_item ws i ≡ true → i ≡ item) → (b : Bool) → same_item w.item item ≡ b → (c : Bool) → same_item w.item i ≡ c → i ≡ item
    by ih false e c f = absurd (first_none e)
    by ih true e true f = sym (is_same w.item i f) ∙ is_same w.item item e
    by ih true e false f = ih (rest_none e) (ap (λ b. b || has_item ws i) (sym f) ∙ there)

-- ---- what an item's bytes are once another is had

pub had_first : (item : Item) (bytes : Bytes) (had : List (Item × Bytes)) → bytes_had ((item, bytes) ∷ had) item ≡ bytes
had_first item bytes had = ap (λ b. option_map_or (λ (x : Item × Bytes). x.1) (cond b (Some (item, bytes)) (find (λ (x : Item × Bytes). same_item x.0 item) had)) []) (same_self item)

pub had_other : (item i : Item) (bytes : Bytes) (had : List (Item × Bytes)) → same_item item i ≡ false → bytes_had ((item, bytes) ∷ had) i ≡ bytes_had had i
had_other item i bytes had e = ap (λ b. option_map_or (λ (x : Item × Bytes). x.1) (cond b (Some (item, bytes)) (find (λ (x : Item × Bytes). same_item x.0 i) had)) []) e

pub first_in : {X : Type 0} (x : X) (xs : List X) → Contains (x ∷ xs) x
first_in x xs = (0, omega arith, refl)

pub behind : {X : Type 0} (y x : X) (xs : List X) → Contains xs x → Contains (y ∷ xs) x
behind y x xs c = (suc c.0, omega (arith, c.1), c.2)

pub held : (s : Sync) (known : Known) (item : Item) → IsHeld s known item → Holds known s.had item
held s known item h =
    record {
      right = subst (λ (b : Bytes). IsTrue (is_right known item b)) (sym h.1.are) h.2;
      listed = subst (λ (b : Bytes). Contains s.had (item, b)) (sym h.1.are) h.1.listed;
      byte_string = subst IsBytes (sym h.1.are) h.1.byte_string;
    }

pub holds_new : (known : Known) (item : Item) (bytes : Bytes) (had : List (Item × Bytes)) → IsTrue (is_right known item bytes) → IsBytes bytes → Holds known ((item, bytes) ∷ had) item
holds_new known item bytes had right string =
    let e : bytes_had ((item, bytes) ∷ had) item ≡ bytes = had_first item bytes had in
    record {
      right = subst (λ (b : Bytes). IsTrue (is_right known item b)) (sym e) right;
      listed = subst (λ (b : Bytes). Contains ((item, bytes) ∷ had) (item, b)) (sym e) (first_in (item, bytes) had);
      byte_string = subst IsBytes (sym e) string;
    }

pub holds_still : (known : Known) (item i : Item) (bytes : Bytes) (had : List (Item × Bytes)) → same_item item i ≡ false → Holds known had i → Holds known ((item, bytes) ∷ had) i
holds_still known item i bytes had apart h =
    let e : bytes_had ((item, bytes) ∷ had) i ≡ bytes_had had i = had_other item i bytes had apart in
    record {
      right = subst (λ (b : Bytes). IsTrue (is_right known i b)) (sym e) h.right;
      listed = subst (λ (b : Bytes). Contains ((item, bytes) ∷ had) (i, b)) (sym e) (behind (item, bytes) (i, bytes_had had i) had h.listed);
      byte_string = subst IsBytes (sym e) h.byte_string;
    }

-- once the last missing item comes, each item is held
pub each_held : (s : Sync) (known : Known) (item i : Item) (bytes : Bytes) → IsTrue (is_right known item bytes) → IsBytes bytes
    → (has_item s.core.missing i ≡ true → i ≡ item) → IsMissingOrHeld s known i → Holds known ((item, bytes) ∷ s.had) i
each_held s known item i bytes right string only h = by (same_item item i) refl h
  where
    here_now : i ≡ item → Holds known ((item, bytes) ∷ s.had) i
    here_now e = subst (λ (j : Item). Holds known ((item, bytes) ∷ s.had) j) (sym e) (holds_new known item bytes s.had right string)

    by : (b : Bool) → same_item item i ≡ b → IsMissingOrHeld s known i → Holds known ((item, bytes) ∷ s.had) i
    by true e h = here_now (sym (is_same item i e))
    by false e (inl missing) = here_now (only missing)
    by false e (inr h) = holds_still known item i bytes s.had e (held s known i h)

-- ---- clashes of what was hashed

more_hashed : (state : State) (s : Sync) (e : Events) → Clash (hashed_strings state) (map item_string (item_in s.stage s e ++ s.had)) → Clash (hashed_strings state) (strings_of_sync (sync_at_end s e))
unfolding strings_of_sync
more_hashed state s e c = clash_within (hashed_strings state) _ (strings_of_sync (sync_at_end s e)) (λ y h. Contains-append_left (map item_string (item_in s.stage s e ++ s.had)) _ y h) c

only_had : (state : State) (xs had : List (Item × Bytes)) → Clash (hashed_strings state) (map item_string had) → Clash (hashed_strings state) (map item_string (xs ++ had))
only_had state xs had c =
    clash_within (hashed_strings state) (map item_string had) (map item_string (xs ++ had))
    (λ y h. subst (λ (zs : List Bytes). Contains zs y) (sym (map-append item_string xs had)) (Contains-append_right (map item_string xs) (map item_string had) y h)) c

-- ---- a bad system text

bad_read : (s : Sync) (m : Manifest) (r : Result SystemPart ℕ) (place : ℕ) → (outcome_of_system s m r).told ≡ bad_system place → r ≡ Err place
bad_read s m (Err at) place e = ap (λ (n : ℕ). Err n) (same_place at place e)
  where
    same_place : (a b : ℕ) → bad_system a ≡ bad_system b → a ≡ b
    same_place a b e = cc
bad_read s m (Ok parts) place e = absurd (apart _ place e)
  where
    apart : (a b : ℕ) → install_left a ≡ bad_system b → ⊥
    apart a b e = cc

pub holds_manifest : (s : Sync) (m : MetaManifest) → KnowsMeta s m → ((i : ℕ) → i < length m.pieces → IsHeld s (pieces m) (piece i)) → HoldsManifest m s.had
holds_manifest s m knows each = record { of = knows.had.listed; each = λ i below. held s (pieces m) (piece i) (each i below) }

ok_inj : (r : Result Manifest ℕ) (a b : Manifest) → r ≡ Ok a → r ≡ Ok b → a ≡ b
ok_inj r a b e f = cc

pub system_clash : (state : State) (s : Sync) (m : Manifest) (place : ℕ) → IsState state → root_of state ≡ s.root → KnowsManifest s m → ((i : ℕ) → i < length m.chunks → IsHeld s (rows m) (chunk i))
    → system_for m (system_had s m) ≡ Err place → Clash (hashed_strings state) (map item_string s.had)
system_clash state s m place valid root knows chunks bad =
    by (spells_or_clash state knows.of s.had valid (knows.knows_meta.root ∙ sym root) (holds_manifest s knows.of knows.knows_meta knows.pieces_held))
  where
    same : m ≡ manifest_of state → Clash (hashed_strings state) (map item_string s.had)
    same e =
        let P : Manifest → Type 0 = λ n. ((i : ℕ) → i < length n.chunks → Holds (rows n) s.had (chunk i)) × (system_for n (file_bytes n (chunks_had n s.had) (system_number n)) ≡ Err place) in
        let moved : P (manifest_of state) = subst P e (λ i below. held s (rows m) (chunk i) (chunks i below), bad) in
        bad_system_or_clash state s.had valid moved.0 place moved.1

    by : (read_manifest (flat_map (λ p. p) (pieces_had knows.of s.had)) ≡ Ok (manifest_of state)) ⊎ Clash (hashed_strings state) (map item_string s.had) → Clash (hashed_strings state) (map item_string s.had)
    by (inl e) = same (ok_inj (read_manifest (flat_map (λ p. p) (pieces_had knows.of s.had))) m (manifest_of state) knows.spelled e)
    by (inr c) = c

-- ---- a bad manifest

bad_rows : (s : Sync) (m : Manifest) (missing : List Wanted) (place : ℕ) → (outcome_of_chunks s m missing).told ≡ bad_manifest place → ⊥
bad_rows s m [] place e = apart (steps_left (at_system m)) place e
  where
    apart : (a b : ℕ) → install_left a ≡ bad_manifest b → ⊥
    apart a b e = cc
bad_rows s m (w ∷ missing) place e = apart (length (w ∷ missing)) place e
  where
    apart : (a b : ℕ) → took a ≡ bad_manifest b → ⊥
    apart a b e = cc

bad_joined : (heights : Heights) (s : Sync) (r : Result Manifest ℕ) (place : ℕ) → (outcome_of_manifest heights s r).told ≡ bad_manifest place → r ≡ Err place
bad_joined heights s (Err at) place e = ap (λ (n : ℕ). Err n) (same_place at place e)
  where
    same_place : (a b : ℕ) → bad_manifest a ≡ bad_manifest b → a ≡ b
    same_place a b e = cc
bad_joined heights s (Ok m) place e = absurd (bad_rows _ m _ place e)

not_late : (b : ℕ) → late ≡ bad_manifest b → ⊥
not_late b e = cc

not_none : (b : ℕ) → none_came ≡ bad_manifest b → ⊥
not_none b e = cc

not_fault : (b : ℕ) → peer_fault ≡ bad_manifest b → ⊥
not_fault b e = cc

not_wrong : (peer b : ℕ) → wrong peer ≡ bad_manifest b → ⊥
not_wrong peer b e = cc

not_took : (n b : ℕ) → took n ≡ bad_manifest b → ⊥
not_took n b e = cc

not_left : (n b : ℕ) → install_left n ≡ bad_manifest b → ⊥
not_left n b e = cc

not_bad_system : (a b : ℕ) → bad_system a ≡ bad_manifest b → ⊥
not_bad_system a b e = cc

not_ready : (t : State) (b : ℕ) → ready t ≡ bad_manifest b → ⊥
not_ready t b e = cc

bad_listed : (s : Sync) (r : Option MetaManifest) (place : ℕ) → (outcome_of_meta s r).told ≡ bad_manifest place → ⊥
bad_listed s None place e = not_late place e
bad_listed s (Some m) place e = not_took (length m.pieces) place e

-- only the end of the list of pieces tells it
through_pieces : (heights : Heights) (stage : Stage) (s : Sync) (place : ℕ) → (outcome_of_list heights s stage).told ≡ bad_manifest place
    → (m : MetaManifest) × (stage ≡ at_pieces m) × (joined_manifest m s.had ≡ Err place)
through_pieces heights at_meta s place e = absurd (bad_listed s (read_meta (bytes_had s.had meta)) place e)
through_pieces heights (at_pieces m) s place e = (m, refl, bad_joined heights s (joined_manifest m s.had) place e)
through_pieces heights (at_chunks m) s place e = absurd (bad_rows s m [] place e)
through_pieces heights (at_system m) s place e = absurd (not_late place e)
through_pieces heights (at_memories m state left) s place e = absurd (not_late place e)

took_means : (b right : Bool) → verdict_if b right ≡ core.took → (b ≡ true) × (right ≡ true)
took_means true true e = (refl, refl)
took_means true false e = absurd (wrong_took e)
  where
    wrong_took : core.wrong ≡ core.took → ⊥
    wrong_took e = cc
took_means false right e = absurd (late_took e)
  where
    late_took : core.late ≡ core.took → ⊥
    late_took e = cc

pub heard_took : (c : Core) (item : Item) (right : Bool) → verdict c (Some item) right ≡ core.took → (has_item c.missing item ≡ true) × (right ≡ true)
unfolding verdict
heard_took c item right e = took_means (has_item c.missing item) right e

pub left_after : (c : Core) (peer : ℕ) (item : Item) (right : Bool) → verdict c (Some item) right ≡ core.took → (core_after_message c peer (Some item) right).missing ≡ others item c.missing
unfolding verdict core_after_message
left_after c peer item right e = ap (λ (h : Heard). (core_after_verdict h c peer item).missing) e

-- what is right by a meta-manifest has bytes
right_here : (m : MetaManifest) (item : Item) (content : Content) → is_right_at (Some (pieces m)) item content ≡ true → IsTrue (is_right (pieces m) item (content_bytes content))
right_here m item gone e = absurd (false_true e)
right_here m item (here bytes) e = e

pub content_is_bytes : (message : Bytes) (a : Answer) → IsBytes message → read_answer message ≡ Some a → IsBytes (content_bytes a.content)
unfolding answer_text
content_is_bytes message a string e = by a.content (cut_bytes (ask_text a.ask) _ (subst IsBytes (answer_found message a string e).0 string)).1
  where
    by : (c : Content) → IsBytes (content_text c) → IsBytes (content_bytes c)
    by gone h = none
      where
        none : IsBytes []
        none i = omega arith
    by (here bytes) h = λ i. h (suc i)

pub still_missing : (s : Sync) (asked : List Asked) (i : Item) → has_item s.core.missing i ≡ has_item (core_after_asks (core_after_turn s.core) asked).missing i
still_missing s asked i =
    sym (has_items i s.core.missing)
    ∙ ap (λ (is : List Item). list_any (λ j. same_item j i) is) (sym (all_asks (core_after_turn s.core) asked ∙ turn_same s.core))
    ∙ has_items i (core_after_asks (core_after_turn s.core) asked).missing

module _ (heights : Heights) (s : Sync) (asked : List Asked) (state : State) (place : ℕ) (valid : IsState state) (root : root_of state ≡ s.root) (knows : IsAtStage s.stage s) where
  abbrev Clashes : List (Item × Bytes) → Type 0
  Clashes items = Clash (hashed_strings state) (map item_string (items ++ s.had))

  -- all pieces are held, with the one that came
  pieces_clash : (m : MetaManifest) (item : Item) (bytes : Bytes) → KnowsMeta s m → ((i : ℕ) → i < length m.pieces → IsMissingOrHeld s (pieces m) (piece i))
      → IsTrue (is_right (pieces m) item bytes) → IsBytes bytes → others item (core_after_asks (core_after_turn s.core) asked).missing ≡ []
      → joined_manifest m ((item, bytes) ∷ s.had) ≡ Err place → Clash (hashed_strings state) (map item_string ((item, bytes) ∷ s.had))
  pieces_clash m item bytes known each right string none bad =
      not_joined_or_clash state m ((item, bytes) ∷ s.had) valid (known.root ∙ sym root)
      (record {
        of = behind (item, bytes) (meta, meta_text m) s.had known.had.listed;
        each = λ i below. each_held s (pieces m) item (piece i) bytes right string
            (λ there. only_one item (piece i) (core_after_asks (core_after_turn s.core) asked).missing none (sym (still_missing s asked (piece i)) ∙ there)) (each i below);
      }) known.good place bad

  at_end : (stage : Stage) → s.stage ≡ stage → IsAtStage stage s → (item : Item) (content : Content) → is_right_at (known_at s.root stage) item content ≡ true → IsBytes (content_bytes content)
      → others item (core_after_asks (core_after_turn s.core) asked).missing ≡ []
      → (m : MetaManifest) → stage ≡ at_pieces m → joined_manifest m ((item, content_bytes content) ∷ s.had) ≡ Err place
      → Clash (hashed_strings state) (map item_string ((item, content_bytes content) ∷ s.had))
  at_end at_meta k known item content right string none m e bad = absurd (apart m e)
    where
      apart : (m : MetaManifest) → at_meta ≡ at_pieces m → ⊥
      apart m e = cc
  at_end (at_pieces n) k known item content right string none m e bad =
      let same : n ≡ m = inj n m e in
      pieces_clash n item (content_bytes content) known.0 known.1 (right_here n item content right) string none
      (subst (λ (o : MetaManifest). joined_manifest o ((item, content_bytes content) ∷ s.had) ≡ Err place) (sym same) bad)
    where
      inj : (a b : MetaManifest) → at_pieces a ≡ at_pieces b → a ≡ b
      inj a b e = cc
  at_end (at_chunks n) k known item content right string none m e bad = absurd (apart n m e)
    where
      apart : (n : Manifest) (m : MetaManifest) → at_chunks n ≡ at_pieces m → ⊥
      apart n m e = cc
  at_end (at_system n) k known item content right string none m e bad = absurd (apart n m e)
    where
      apart : (n : Manifest) (m : MetaManifest) → at_system n ≡ at_pieces m → ⊥
      apart n m e = cc
  at_end (at_memories n t left) k known item content right string none m e bad = absurd (apart n t left m e)
    where
      apart : (n : Manifest) (t : State) (left : ℕ) (m : MetaManifest) → at_memories n t left ≡ at_pieces m → ⊥
      apart n t left m e = cc

  one_item : (item : Item) (content : Content) (peer : ℕ) (right : Bool) → is_right_at (known_at s.root s.stage) item content ≡ right → IsBytes (content_bytes content)
      → verdict (core_after_asks (core_after_turn s.core) asked) (Some item) right ≡ core.took
      → (missing : List Wanted) → (core_after_message (core_after_asks (core_after_turn s.core) asked) peer (Some item) right).missing ≡ missing
      → (outcome_after_item heights (record s { core = core_after_message (core_after_asks (core_after_turn s.core) asked) peer (Some item) right; had = (item, content_bytes content) ∷ s.had }) missing).told ≡ bad_manifest place
      → Clashes ((item, content_bytes content) ∷ [])
  one_item item content peer right er string et (w ∷ missing) em e = absurd (not_took (length (w ∷ missing)) place e)
  one_item item content peer right er string et [] em e =
      let c : Core = core_after_asks (core_after_turn s.core) asked in
      let t : Sync = record s { core = core_after_message (core_after_asks (core_after_turn s.core) asked) peer (Some item) right; had = (item, content_bytes content) ∷ s.had } in
      let found : (m : MetaManifest) × (s.stage ≡ at_pieces m) × (joined_manifest m t.had ≡ Err place) = through_pieces heights s.stage t place e in
      at_end s.stage refl knows item content (er ∙ (heard_took c item right et).1) string (sym (left_after c peer item right et) ∙ em) found.0 found.1 found.2

  one_heard : (h : Heard) (item : Item) (content : Content) (peer : ℕ) (right : Bool) → is_right_at (known_at s.root s.stage) item content ≡ right → IsBytes (content_bytes content)
      → verdict (core_after_asks (core_after_turn s.core) asked) (Some item) right ≡ h
      → (outcome_of_verdict h heights (record s { core = core_after_message (core_after_asks (core_after_turn s.core) asked) peer (Some item) right }) peer item content).told ≡ bad_manifest place
      → Clashes (item_by h item content)
  one_heard core.took item content peer right er string et e = one_item item content peer right er string et _ refl e
  one_heard core.wrong item content peer right er string et e = absurd (not_wrong peer place e)
  one_heard core.late item content peer right er string et e = absurd (not_late place e)

  one_answer : (peer : ℕ) (a : Answer) (b right : Bool) → is_right_at (known_at s.root s.stage) a.ask.item a.content ≡ right → IsBytes (content_bytes a.content)
      → (if b then outcome_of_answer heights (sync_after_asks s asked) peer a.ask.item a.content right else outcome_with late (sync_after_asks s asked)).told ≡ bad_manifest place
      → Clashes (if b then item_by (verdict (core_after_asks (core_after_turn s.core) asked) (Some a.ask.item) right) a.ask.item a.content else [])
  one_answer peer a false right er string e = absurd (not_late place e)
  one_answer peer a true right er string e = one_heard (verdict (core_after_asks (core_after_turn s.core) asked) (Some a.ask.item) right) a.ask.item a.content peer right er string refl e

  one_message : (peer : ℕ) (message : Bytes) (r : Option Answer) → IsBytes message → read_answer message ≡ r → (outcome_of_message heights (sync_after_asks s asked) peer r).told ≡ bad_manifest place → Clashes (message_item (sync_after_asks s asked) r)
  one_message peer message None string er e = absurd (not_wrong peer place e)
  one_message peer message (Some a) string er e = one_answer peer a (is_for s a.ask) (is_right_at (known_at s.root s.stage) a.ask.item a.content) refl (content_is_bytes message a string er) e

  one_look : (given : List Given) → AllByRecursion IsByteGiven given → (outcome_of_look heights (sync_after_asks s asked) given).told ≡ bad_manifest place → Clashes (given_item (sync_after_asks s asked) given)
  one_look [] strings e = absurd (not_none place e)
  one_look (nothing ∷ given) strings e = absurd (not_none place e)
  one_look (failed ∷ given) strings e = absurd (not_fault place e)
  one_look (came peer message ∷ given) strings e = one_message peer message (read_answer message) strings.0 refl e

  one_turn : (b : Bool) (given : List Given) → AllByRecursion IsByteGiven given → (if b then outcome_of_look heights (sync_after_asks s asked) given else outcome_with peer_fault (sync_after_asks s asked)).told ≡ bad_manifest place
      → Clashes (if b then given_item (sync_after_asks s asked) given else [])
  one_turn true given strings e = one_look given strings e
  one_turn false given strings e = absurd (not_fault place e)

-- ---- what a turn tells

-- not that a system text is bad
abbrev Plain : Told → Type 0
Plain (bad_system place) = ⊥
Plain told = Unit {0}

module _ (heights : Heights) where
  plain_rows : (s : Sync) (m : Manifest) (missing : List Wanted) → Plain (outcome_of_chunks s m missing).told
  plain_rows s m [] = tt
  plain_rows s m (w ∷ missing) = tt

  plain_manifest : (s : Sync) (r : Result Manifest ℕ) → Plain (outcome_of_manifest heights s r).told
  plain_manifest s (Err place) = tt
  plain_manifest s (Ok m) = plain_rows (with_hits heights s m (local_hits (manifests_of heights) m)) m _

  plain_pieces : (s : Sync) (r : Option MetaManifest) → Plain (outcome_of_meta s r).told
  plain_pieces s None = tt
  plain_pieces s (Some m) = tt

  plain_through : (stage : Stage) (s : Sync) → Plain (outcome_of_list heights s stage).told
  plain_through at_meta s = plain_pieces s (read_meta (bytes_had s.had meta))
  plain_through (at_pieces m) s = plain_manifest s (joined_manifest m s.had)
  plain_through (at_chunks m) s = plain_rows s m []
  plain_through (at_system m) s = tt
  plain_through (at_memories m state left) s = tt

  plain_item : (s : Sync) (missing : List Wanted) → Plain (outcome_after_item heights s missing).told
  plain_item s [] = plain_through s.stage s
  plain_item s (w ∷ missing) = tt

  plain_heard : (h : Heard) (s : Sync) (peer : ℕ) (item : Item) (content : Content) → Plain (outcome_of_verdict h heights s peer item content).told
  plain_heard core.took s peer item content = plain_item (record s { had = (item, content_bytes content) ∷ s.had }) s.core.missing
  plain_heard core.wrong s peer item content = tt
  plain_heard core.late s peer item content = tt

  plain_for : (s : Sync) (peer : ℕ) (a : Answer) (b right : Bool) → Plain (if b then outcome_of_answer heights s peer a.ask.item a.content right else outcome_with late s).told
  plain_for s peer a false right = tt
  plain_for s peer a true right = plain_heard (verdict s.core (Some a.ask.item) right) (record s { core = core_after_message s.core peer (Some a.ask.item) right }) peer a.ask.item a.content

  plain_message : (s : Sync) (peer : ℕ) (r : Option Answer) → Plain (outcome_of_message heights s peer r).told
  plain_message s peer None = tt
  plain_message s peer (Some a) = plain_for s peer a (is_for s a.ask) (is_right_at (known_at s.root s.stage) a.ask.item a.content)

  plain_look : (s : Sync) (given : List Given) → Plain (outcome_of_look heights s given).told
  plain_look s [] = tt
  plain_look s (nothing ∷ given) = tt
  plain_look s (failed ∷ given) = tt
  plain_look s (came peer message ∷ given) = plain_message s peer (read_answer message)

  plain_turn : (s : Sync) (given : List Given) (b : Bool) → Plain (if b then outcome_of_look heights s given else outcome_with peer_fault s).told
  plain_turn s given true = plain_look s given
  plain_turn s given false = tt

  no_system : (s : Sync) (e : Events) (place : ℕ) → (outcome_of_turn heights s e).told ≡ bad_system place → ⊥
  no_system s e place h = subst Plain h (plain_turn (sync_after_asks s e.asked) e.given (all_went_out e.asked))

  no_memory : (s : Sync) (m : Manifest) (state : State) (left place : ℕ) → (outcome_of_memory s m state left).told ≡ bad_system place → ⊥
  no_memory s m state zero place h = subst Plain h tt
  no_memory s m state (suc left) place h = subst Plain h tt

  module _ (s : Sync) (e : Events) (state : State) (place : ℕ) (valid : IsState state) (root : root_of state ≡ s.root) (known : IsAtStage s.stage s) (strings : AreByteEvents e) where
    manifest_ends : (stage : Stage) → (outcome_at stage heights s e).told ≡ bad_manifest place → Clash (hashed_strings state) (map item_string (item_in stage s e ++ s.had))
    manifest_ends at_meta h = one_turn heights s e.asked state place valid root known (all_went_out e.asked) e.given strings h
    manifest_ends (at_pieces m) h = one_turn heights s e.asked state place valid root known (all_went_out e.asked) e.given strings h
    manifest_ends (at_chunks m) h = one_turn heights s e.asked state place valid root known (all_went_out e.asked) e.given strings h
    manifest_ends (at_system m) h = absurd (by (system_for m (system_had s m)) h)
      where
        by : (r : Result SystemPart ℕ) → (outcome_of_system s m r).told ≡ bad_manifest place → ⊥
        by (Err at) h = not_bad_system at place h
        by (Ok parts) h = not_left _ place h
    manifest_ends (at_memories m t zero) h = absurd (not_ready t place h)
    manifest_ends (at_memories m t (suc left)) h = absurd (not_left (suc left) place h)

    system_ends : (stage : Stage) → IsAtStage stage s → (outcome_at stage heights s e).told ≡ bad_system place → Clash (hashed_strings state) (map item_string s.had)
    system_ends at_meta k h = absurd (no_system s e place h)
    system_ends (at_pieces m) k h = absurd (no_system s e place h)
    system_ends (at_chunks m) k h = absurd (no_system s e place h)
    system_ends (at_system m) k h = system_clash state s m place valid root k.0 k.1 (bad_read s m (system_for m (system_had s m)) place h)
    system_ends (at_memories m t left) k h = absurd (no_memory s m t left place h)

pub fails_by_clash : (heights : Heights) (s : Sync) (e : Events) → FailsByClash heights s e
unfolding sync_step
fails_by_clash heights s e sound strings (inl h) state valid root = more_hashed state s e (manifest_ends heights s e state h.0 valid root sound.stage strings s.stage h.1)
fails_by_clash heights s e sound strings (inr h) state valid root = more_hashed state s e (only_had state (item_in s.stage s e) s.had (system_ends heights s e state h.0 valid root sound.stage strings s.stage sound.stage h.1))
