-- What a sync knows lasts under each step.
use Rattle.std.proofs.Common.{◌≡◌, ℕ, zero, suc, ◌+◌, ◌<◌, ◌≤◌, ◌==◌, ◌&&◌, ◌||◌, not, cond, if◌then◌else◌, Bool, true, false, List, [], ◌∷◌, ◌++◌, length, map, filter, IsTrue, IfSome, Contains, Option, Some, None, Result, Ok, Err, refl, sym, ap, ◌∙◌, subst, inl, inr, arith}
use Rattle.std.specs.List.{flat_map, AllByRecursion, list_any, range_with_len}
use Rattle.std.proofs.lemmas.Bool.{eqb-true, eq-eqb, and_parts}
use Rattle.std.proofs.lemmas.List.Elements.{Contains-append_right}
use Rattle.format_spec.specs.Bytes.{Bytes, IsBytes, same_bytes}
use Rattle.format_spec.specs.declared.limits.TheConstants.{MAX_PEERS}
use Rattle.format_spec.proofs.Readings.{same_bytes_is}
use Rattle.state_spec.specs.State.{State, SystemPart}
use Rattle.state_spec.specs.Manifest.{Manifest}
use Rattle.state_spec.specs.ManifestText.{read_manifest}
use Rattle.state_spec.specs.Root.{MetaManifest, meta_text, root_of_meta, read_meta}
use Rattle.state_spec.proofs.BothWays.{meta_is}
use Rattle.sync_spec.specs.Messages.{Item, meta, piece, chunk, Content, gone, here, Answer, read_answer}
use Rattle.sync_spec.specs.Serving.{Known, is_taken, is_right, has_root, pieces, rows}
use Rattle.sync_spec.specs.Serving as known
use Rattle.sync_spec.specs.Core.{Core, Wanted, Heard, same_item, has_item, unasked_item, without_ask, is_asked_of, all_pieces, chunks_without, with_items, verdict_if, verdict, core_without_item, core_after_fault, core_after_failure, core_after_message, core_after_verdict, core_after_turn}
use Rattle.sync_spec.specs.Core as core
use Rattle.sync_spec.specs.CoreLaws.{IsCore}
use Rattle.sync_spec.specs.Events.{Events, Given, came, nothing, failed, all_went_out, core_after_asks}
use Rattle.sync_spec.specs.Local.{Hit, local_hits, manifests_of, bytes_at}
use Rattle.sync_spec.specs.Install.{bytes_had, chunks_had, system_for, installed_state}
use Rattle.sync_spec.specs.Sync.{Sync, Stage, at_meta, at_pieces, at_chunks, at_system, at_memories, Heights, SyncOutcome, sync_to, outcome_with, known_at, is_right_at, is_for, content_bytes, sync_after_asks}
use Rattle.sync_spec.specs.Sync.{outcome_of_look, outcome_of_message, outcome_of_answer, outcome_of_verdict, outcome_after_item, outcome_of_list, outcome_of_meta, outcome_of_manifest}
use Rattle.sync_spec.specs.Sync.{outcome_of_chunks, outcome_of_turn, outcome_at, sync_step, outcome_of_system, outcome_of_memory, with_hits, system_had, pieces_had, of_version, joined_manifest}
use Rattle.sync_spec.specs.Sync.{late, peer_fault}
use Rattle.sync_spec.specs.SyncLaws.{HasBytes, IsHeld, IsMissingOrHeld, KnowsMeta, KnowsManifest, IsAtStage, IsSync, IsByteGiven, AreByteEvents, ArePublished, KeepsKnowing}
use Rattle.sync_spec.proofs.Missing.{filter_all}
use Rattle.sync_spec.proofs.Lasting.{turned_good, asked_good, delivered_good, pieces_good, chunks_good, begun_good}
use Rattle.sync_soundness.specs.Held.{Holds}
use Rattle.sync_soundness.proofs.Failing.{is_same, had_other, behind, others, holds_new, heard_took, left_after, content_is_bytes, still_missing}
use Rattle.sync_soundness.proofs.Hits.{IsHit, local_right, bytes_of_hits, hit_held}
use Rattle.sync_soundness.proofs.Rooted.{rooted}

-- ---- what is had of an item, in another sync

held_back : (t : Sync) (k : Known) (item : Item) → Holds k t.had item → IsHeld t k item
held_back t k item h = (bytes_had t.had item, record { are = refl; listed = h.listed; byte_string = h.byte_string }, h.right)

module _ (s t : Sync) (root : t.root ≡ s.root) (more : (x : Item × Bytes) → Contains s.had x → Contains t.had x) where
  has_moved : (item : Item) (bytes : Bytes) → bytes_had t.had item ≡ bytes_had s.had item → HasBytes s item bytes → HasBytes t item bytes
  has_moved item bytes same h = record { are = same ∙ h.are; listed = more (item, bytes) h.listed; byte_string = h.byte_string }

  pub held_moved : (k : Known) (item : Item) → bytes_had t.had item ≡ bytes_had s.had item → IsHeld s k item → IsHeld t k item
  held_moved k item same h = (h.0, has_moved item h.0 same h.1, h.2)

  pub meta_moved : (m : MetaManifest) → bytes_had t.had meta ≡ bytes_had s.had meta → KnowsMeta s m → KnowsMeta t m
  meta_moved m same h = record { good = h.good; version = h.version; root = h.root ∙ sym root; had = has_moved meta (meta_text m) same h.had }

  same_pieces : ((i : ℕ) → bytes_had t.had (piece i) ≡ bytes_had s.had (piece i)) → (is : List ℕ) → map (λ i. bytes_had t.had (piece i)) is ≡ map (λ i. bytes_had s.had (piece i)) is
  same_pieces same [] = refl
  same_pieces same (i ∷ is) = let rest = same_pieces same is in λ j. same i j ∷ rest j

  pub manifest_moved : (m : Manifest) → bytes_had t.had meta ≡ bytes_had s.had meta → ((i : ℕ) → bytes_had t.had (piece i) ≡ bytes_had s.had (piece i)) → KnowsManifest s m → KnowsManifest t m
  manifest_moved m same each h = record {
    of = h.of;
    knows_meta = meta_moved h.of same h.knows_meta;
    pieces_held = λ i below. held_moved (pieces h.of) (piece i) (each i) (h.pieces_held i below);
    spelled = ap (λ (ps : List Bytes). read_manifest (flat_map (λ p. p) ps)) (same_pieces each (range_with_len 0 (length h.of.pieces))) ∙ h.spelled;
    same_version = h.same_version;
  }

-- ---- another core, or another stage

-- the same sync but for its stage and core
module _ (s : Sync) (stage : Stage) (c : Core) where
  same_manifest : (m : Manifest) → KnowsManifest s m → KnowsManifest (record s { stage = stage; core = c }) m
  same_manifest m h = manifest_moved s (record s { stage = stage; core = c }) refl (λ x k. k) m refl (λ i. refl) h

  same_meta : (m : MetaManifest) → KnowsMeta s m → KnowsMeta (record s { stage = stage; core = c }) m
  same_meta m h = meta_moved s (record s { stage = stage; core = c }) refl (λ x k. k) m refl h

  same_held : (k : Known) (item : Item) → IsHeld s k item → IsHeld (record s { stage = stage; core = c }) k item
  same_held k item h = held_moved s (record s { stage = stage; core = c }) refl (λ x k. k) k item refl h

  same_either : ((i : Item) → has_item s.core.missing i ≡ true → has_item c.missing i ≡ true) → (k : Known) (item : Item) → IsMissingOrHeld s k item → IsMissingOrHeld (record s { stage = stage; core = c }) k item
  same_either kept k item (inl missing) = inl (kept item missing)
  same_either kept k item (inr h) = inr (same_held k item h)

-- what is known at a stage lasts where nothing is missing less
module _ (s : Sync) (c : Core) (kept : (i : Item) → has_item s.core.missing i ≡ true → has_item c.missing i ≡ true) where
  stage_kept : (stage : Stage) → IsAtStage stage s → IsAtStage stage (record s { core = c })
  stage_kept at_meta h = tt
  stage_kept (at_pieces m) h = (same_meta s s.stage c m h.0, λ i below. same_either s s.stage c kept (pieces m) (piece i) (h.1 i below))
  stage_kept (at_chunks m) h = (same_manifest s s.stage c m h.0, λ i below. same_either s s.stage c kept (rows m) (chunk i) (h.1 i below))
  stage_kept (at_system m) h = (same_manifest s s.stage c m h.0, λ i below. same_held s s.stage c (rows m) (chunk i) (h.1 i below))
  stage_kept (at_memories m state left) h = (same_manifest s s.stage c m h.0, h.1, h.2, h.3, h.4)

  core_kept : IsCore c → IsSync s → IsSync (record s { core = c })
  core_kept good h = record { core = good; stage = stage_kept s.stage h.stage }

-- ---- an item is had

-- what a list of items knows once an item of it came
abbrev Brought : Stage → Sync → Type 0
Brought at_meta t = IsHeld t (known.root t.root) meta
Brought stage t = Unit {0}

apart : false ≡ true → ⊥
apart e = cc

other_missing : (item i : Item) (ws : List Wanted) → same_item item i ≡ false → has_item ws i ≡ true → has_item (others item ws) i ≡ true
other_missing item i [] e there = there
other_missing item i (w ∷ ws) e there = by (same_item w.item item) refl there (λ f. other_missing item i ws e f)
  where
    by : (b : Bool) → same_item w.item item ≡ b → (same_item w.item i || has_item ws i) ≡ true → (has_item ws i ≡ true → has_item (others item ws) i ≡ true) → has_item (cond (not b) (w ∷ others item ws) (others item ws)) i ≡ true
    by true f k ih =
        let same : w.item ≡ item = is_same w.item item f in
        ih (ap (λ b. b || has_item ws i) (sym (ap (λ (x : Item). same_item x i) same ∙ e)) ∙ k)
    by false f k ih = rest (same_item w.item i) k
      where
        rest : (b : Bool) → (b || has_item ws i) ≡ true → (b || has_item (others item ws) i) ≡ true
        rest true k = refl
        rest false k = ih k

module _ (s : Sync) (item : Item) (bytes : Bytes) (c : Core) (left : c.missing ≡ others item s.core.missing) (string : IsBytes bytes) where
  abbrev after : Sync
  after = record s { core = c; had = (item, bytes) ∷ s.had }

  one_more : (x : Item × Bytes) → Contains s.had x → Contains after.had x
  one_more x h = behind (item, bytes) x s.had h

  now_held : (k : Known) → IsTrue (is_right k item bytes) → IsHeld after k item
  now_held k right = held_back after k item (holds_new k item bytes s.had right string)

  either_still : (k : Known) → IsTrue (is_right k item bytes) → (i : Item) → IsMissingOrHeld s k i → IsMissingOrHeld after k i
  either_still k right i h = by (same_item item i) refl h
    where
      by : (b : Bool) → same_item item i ≡ b → IsMissingOrHeld s k i → IsMissingOrHeld after k i
      by true e h = inr (subst (λ (j : Item). IsHeld after k j) (is_same item i e) (now_held k right))
      by false e (inl missing) = inl (ap (λ (ws : List Wanted). has_item ws i) left ∙ other_missing item i s.core.missing e missing)
      by false e (inr h) = inr (held_moved s after refl one_more k i (had_other item i bytes s.had e) h)

  -- by a meta-manifest only pieces are right, and by a manifest only chunks
  no_meta : (m : MetaManifest) → IsTrue (is_right (pieces m) item bytes) → same_item item meta ≡ false
  no_meta m right = by item right
    where
      by : (i : Item) → IsTrue (is_right (pieces m) i bytes) → same_item i meta ≡ false
      by meta r = absurd (apart r)
      by (piece j) r = refl
      by (chunk j) r = refl

  no_text : (m : Manifest) → IsTrue (is_right (rows m) item bytes) → (same_item item meta ≡ false) × ((i : ℕ) → same_item item (piece i) ≡ false)
  no_text m right = by item right
    where
      by : (i : Item) → IsTrue (is_right (rows m) i bytes) → (same_item i meta ≡ false) × ((j : ℕ) → same_item i (piece j) ≡ false)
      by meta r = absurd (apart r)
      by (piece j) r = absurd (apart r)
      by (chunk j) r = (refl, λ j. refl)

  only_meta : (hash : Bytes) → IsTrue (is_right (known.root hash) item bytes) → item ≡ meta
  only_meta hash right = by item right
    where
      by : (i : Item) → IsTrue (is_right (known.root hash) i bytes) → i ≡ meta
      by meta r = refl
      by (piece j) r = absurd (apart r)
      by (chunk j) r = absurd (apart r)

  stage_after : (stage : Stage) (k : Known) → known_at s.root stage ≡ Some k → IsTrue (is_right k item bytes) → IsAtStage stage s → IsAtStage stage after × Brought stage after
  stage_after at_meta k e right h =
      let is : known.root s.root ≡ k = cc in
      let mine : IsTrue (is_right (known.root s.root) item bytes) = subst (λ (x : Known). IsTrue (is_right x item bytes)) (sym is) right in
      (tt, subst (λ (j : Item). IsHeld after (known.root s.root) j) (only_meta s.root mine) (now_held (known.root s.root) mine))
  stage_after (at_pieces m) k e right h =
      let is : pieces m ≡ k = cc in
      let mine : IsTrue (is_right (pieces m) item bytes) = subst (λ (x : Known). IsTrue (is_right x item bytes)) (sym is) right in
      ((meta_moved s after refl one_more m (had_other item meta bytes s.had (no_meta m mine)) h.0, λ i below. either_still (pieces m) mine (piece i) (h.1 i below)), tt)
  stage_after (at_chunks m) k e right h =
      let is : rows m ≡ k = cc in
      let mine : IsTrue (is_right (rows m) item bytes) = subst (λ (x : Known). IsTrue (is_right x item bytes)) (sym is) right in
      let n = no_text m mine in (
        (
          manifest_moved s after refl one_more m (had_other item meta bytes s.had n.0) (λ i. had_other item (piece i) bytes s.had (n.1 i)) h.0,
          λ i below. either_still (rows m) mine (chunk i) (h.1 i below),
        ),
        tt,
      )
  stage_after (at_system m) k e right h = absurd (none k e)
    where
      none : (k : Known) → None ≡ Some k → ⊥
      none k e = cc
  stage_after (at_memories m state steps) k e right h = absurd (none k e)
    where
      none : (k : Known) → None ≡ Some k → ⊥
      none k e = cc

-- ---- the next list

-- the sync behind an outcome knows what it is to know
abbrev Good : SyncOutcome → Type 0
Good o = IfSome o.after IsSync

-- of a list that is through each item is held
all_held : (t : Sync) (k : Known) (item : Item) → t.core.missing ≡ [] → IsMissingOrHeld t k item → IsHeld t k item
all_held t k item none (inl missing) = absurd (apart (ap (λ (ws : List Wanted). has_item ws item) (sym none) ∙ missing))
all_held t k item none (inr h) = h

in_range : (to : ℕ → Item) (q : ℕ → Bool) (i a n : ℕ) → a ≤ i → i < a + n → q i ≡ true → same_item (to i) (to i) ≡ true → has_item (map (λ j. unasked_item (to j)) (filter q (range_with_len a n))) (to i) ≡ true
in_range to q i a zero low high passes same = absurd (omega (arith, low, high))
in_range to q i a (suc n) low high passes same = by (a == i) refl (λ more. in_range to q i (a + 1) n more (omega (arith, high)) passes same)
  where
    skipped : (b : Bool) → has_item (map (λ j. unasked_item (to j)) (filter q (range_with_len (a + 1) n))) (to i) ≡ true → has_item (map (λ j. unasked_item (to j)) (cond b (a ∷ filter q (range_with_len (a + 1) n)) (filter q (range_with_len (a + 1) n)))) (to i) ≡ true
    skipped true h = or_true (same_item (to a) (to i)) h
      where
        or_true : (b : Bool) → has_item (map (λ j. unasked_item (to j)) (filter q (range_with_len (a + 1) n))) (to i) ≡ true → (b || has_item (map (λ j. unasked_item (to j)) (filter q (range_with_len (a + 1) n))) (to i)) ≡ true
        or_true true h = refl
        or_true false h = h
    skipped false h = h

    by : (b : Bool) → (a == i) ≡ b → (a + 1 ≤ i → has_item (map (λ j. unasked_item (to j)) (filter q (range_with_len (a + 1) n))) (to i) ≡ true) → has_item (map (λ j. unasked_item (to j)) (filter q (range_with_len a (suc n)))) (to i) ≡ true
    by true e ih =
        let is : a ≡ i = eqb-true a i e in
        ap (λ b. has_item (map (λ j. unasked_item (to j)) (cond b (a ∷ filter q (range_with_len (a + 1) n)) (filter q (range_with_len (a + 1) n)))) (to i)) (ap q is ∙ passes)
        ∙ ap (λ b. b || has_item (map (λ j. unasked_item (to j)) (filter q (range_with_len (a + 1) n))) (to i)) (ap (λ (j : ℕ). same_item (to j) (to i)) is ∙ same)
    by false e ih = skipped (q a) (ih (above (a == i) e))
      where
        above : (b : Bool) → (a == i) ≡ false → a + 1 ≤ i
        above b f = further (λ same. apart (sym f ∙ eq-eqb a i same))
          where
            further : (a ≡ i → ⊥) → a + 1 ≤ i
            further no_it = omega (arith, low, no_it)

piece_missing : (n i : ℕ) → i < n → has_item (all_pieces n) (piece i) ≡ true
piece_missing n i below =
    ap (λ (js : List ℕ). has_item (map (λ j. unasked_item (piece j)) js) (piece i)) (sym (filter_all (range_with_len 0 n)))
    ∙ in_range (λ j. piece j) (λ j. not false) i 0 n (omega arith) (omega (arith, below)) refl (eq-eqb i i refl)

chunk_missing : (n i : ℕ) (had : List ℕ) → i < n → list_any (λ j. j == i) had ≡ false → has_item (chunks_without n had) (chunk i) ≡ true
chunk_missing n i had below none = in_range (λ j. chunk j) (λ j. not (list_any (λ k. k == j) had)) i 0 n (omega arith) (omega (arith, below)) (ap (λ b. not b) none) (eq-eqb i i refl)

-- the pieces are asked for
pieces_next : (t : Sync) (r : Option MetaManifest) → read_meta (bytes_had t.had meta) ≡ r → IsSync t → IsHeld t (known.root t.root) meta → Good (outcome_of_meta t r)
pieces_next t None e sound h = sound
pieces_next t (Some m) e sound h =
    let u : Sync = record t { stage = at_pieces m; core = with_items t.core (all_pieces (length m.pieces)) } in
    let read : read_meta h.0 ≡ Some m = ap read_meta (sym h.1.are) ∙ e in
    let is = meta_is h.0 m h.1.byte_string read in
    let right = and_parts (is_taken m.version) (same_bytes (root_of_meta m) t.root) (subst (λ (o : Option MetaManifest). has_root t.root o ≡ true) read h.2) in
    let root : root_of_meta m ≡ t.root = same_bytes_is (root_of_meta m) t.root right.1 in
    let has : HasBytes t meta (meta_text m) = subst (λ (b : Bytes). HasBytes t meta b) is.0 h.1 in
    let knows : KnowsMeta t m = record { good = is.1; version = right.0; root = root; had = has } in
    record { core = pieces_good t.core (length m.pieces) sound.core; stage = (same_meta t (at_pieces m) u.core m knows, λ i below. inl (piece_missing (length m.pieces) i below)) }

-- installing begins where no chunk is missing
chunks_next : (u : Sync) (m : Manifest) (missing : List Wanted) → u.core.missing ≡ missing → u.stage ≡ at_chunks m → IsCore u.core → IsAtStage (at_chunks m) u → Good (outcome_of_chunks u m missing)
chunks_next u m (w ∷ missing) e stage good h = record { core = good; stage = subst (λ (x : Stage). IsAtStage x u) (sym stage) h }
chunks_next u m [] e stage good h =
    record { core = good; stage = (same_manifest u (at_system m) u.core m h.0, λ i below. same_held u (at_system m) u.core (rows m) (chunk i) (all_held u (rows m) (chunk i) e (h.1 i below))) }

-- a hit is no piece and no meta-manifest
hit_other : (heights : Heights) (had : List (Item × Bytes)) (item : Item) → ((j : ℕ) → same_item (chunk j) item ≡ false) → (hits : List Hit) → bytes_had (bytes_of_hits heights hits ++ had) item ≡ bytes_had had item
hit_other heights had item apart_all [] = refl
hit_other heights had item apart_all (h ∷ hits) =
    had_other (chunk h.chunk) item (bytes_at heights h.source) (bytes_of_hits heights hits ++ had) (apart_all h.chunk) ∙ hit_other heights had item apart_all hits

-- a manifest that has the version of the meta-manifest
same_manifests : (r : Result Manifest ℕ) (a b : Manifest) → r ≡ Ok a → r ≡ Ok b → a ≡ b
same_manifests r a b e f = cc

joined : (r : Result Manifest ℕ) (v : ℕ) (m : Manifest) → of_version v r ≡ Ok m → (r ≡ Ok m) × (m.version ≡ v)
joined (Err place) v m e = absurd cc
joined (Ok n) v m e = by (n.version == v) refl (Ok n) refl e
  where
    by : (b : Bool) → (n.version == v) ≡ b → (r : Result Manifest ℕ) → r ≡ Ok n → (if b then r else Err 4) ≡ Ok m → (r ≡ Ok m) × (m.version ≡ v)
    by true is r f g = (g, ap (λ (x : Manifest). x.version) (same_manifests r m n g f) ∙ eqb-true n.version v is)
    by false is r f g = absurd cc

-- the chunks are asked for, but for those that the heights have
module _ (heights : Heights) (published : ArePublished heights) where
  hits_next : (t : Sync) (m : Manifest) (hits : List Hit) → AllByRecursion (IsHit heights m) hits → KnowsManifest t m → IsAtStage (at_chunks m) (with_hits heights t m hits)
  hits_next t m hits good knows =
      let u : Sync = with_hits heights t m hits in
      let more : (x : Item × Bytes) → Contains t.had x → Contains u.had x = λ x c. Contains-append_right (bytes_of_hits heights hits) t.had x c in (
        manifest_moved t u refl more m (hit_other heights t.had meta (λ j. refl) hits) (λ i. hit_other heights t.had (piece i) (λ j. refl) hits) knows,
        λ i below. by i below (list_any (λ j. j == i) (map (λ (h : Hit). h.chunk) hits)) refl,
      )
    where
      by : (i : ℕ) → i < length m.chunks → (b : Bool) → list_any (λ j. j == i) (map (λ (h : Hit). h.chunk) hits) ≡ b → IsMissingOrHeld (with_hits heights t m hits) (rows m) (chunk i)
      by i below true e = inr (held_back (with_hits heights t m hits) (rows m) (chunk i) (hit_held heights m t.had i hits good e))
      by i below false e = inl (chunk_missing (length m.chunks) i (map (λ (h : Hit). h.chunk) hits) below e)

  manifest_next : (t : Sync) (of : MetaManifest) (r : Result Manifest ℕ) → joined_manifest of t.had ≡ r → IsCore t.core → KnowsMeta t of → ((i : ℕ) → i < length of.pieces → IsHeld t (pieces of) (piece i)) → Good (outcome_of_manifest heights t r)
  manifest_next t of (Err place) e good knows each = tt
  manifest_next t of (Ok m) e good knows each =
      let j = joined (read_manifest (flat_map (λ p. p) (pieces_had of t.had))) of.version m e in
      let hits : List Hit = local_hits (manifests_of heights) m in
      let u : Sync = with_hits heights t m hits in
      chunks_next u m u.core.missing refl refl (chunks_good t.core (length m.chunks) (map (λ (h : Hit). h.chunk) hits) good)
      (hits_next t m hits (local_right heights m published) (record { of = of; knows_meta = knows; pieces_held = each; spelled = j.0; same_version = j.1 }))

  through : (stage : Stage) (t : Sync) → t.stage ≡ stage → t.core.missing ≡ [] → IsCore t.core → IsAtStage stage t → Brought stage t → Good (outcome_of_list heights t stage)
  through at_meta t stage none good h b = pieces_next t (read_meta (bytes_had t.had meta)) refl (record { core = good; stage = subst (λ (x : Stage). IsAtStage x t) (sym stage) tt }) b
  through (at_pieces of) t stage none good h b = manifest_next t of (joined_manifest of t.had) refl good h.0 (λ i below. all_held t (pieces of) (piece i) none (h.1 i below))
  through (at_chunks m) t stage none good h b = chunks_next t m [] none stage good h
  through (at_system m) t stage none good h b = record { core = good; stage = subst (λ (x : Stage). IsAtStage x t) (sym stage) h }
  through (at_memories m state left) t stage none good h b = record { core = good; stage = subst (λ (x : Stage). IsAtStage x t) (sym stage) h }

  item_next : (t : Sync) (missing : List Wanted) → t.core.missing ≡ missing → IsCore t.core → IsAtStage t.stage t → Brought t.stage t → Good (outcome_after_item heights t missing)
  item_next t [] none good h b = through t.stage t refl none good h b
  item_next t (w ∷ missing) e good h b = record { core = good; stage = h }

  -- ---- a message

  right_bytes : (k : Option Known) (item : Item) (content : Content) → is_right_at k item content ≡ true → (known : Known) × (k ≡ Some known) × IsTrue (is_right known item (content_bytes content))
  right_bytes None item content e = absurd (apart e)
  right_bytes (Some k) item gone e = absurd (apart e)
  right_bytes (Some k) item (here bytes) e = (k, refl, e)

  -- a change of asks leaves what is missing
  has_kept : (test : Wanted → Bool) (ws : List Wanted) (i : Item) → has_item ws i ≡ true → has_item (map (without_ask test) ws) i ≡ true
  has_kept test ws i e = same ws ∙ e
    where
      one : (w : Wanted) (b : Bool) → same_item (if b then unasked_item w.item else w).item i ≡ same_item w.item i
      one w true = refl
      one w false = refl

      same : (ws : List Wanted) → has_item (map (without_ask test) ws) i ≡ has_item ws i
      same [] = refl
      same (w ∷ ws) = let a = one w (test w) in let b = same ws in λ j. a j || b j

  delivered_as : (c : Core) (peer : ℕ) (item : Item) (right : Bool) (h : Heard) → verdict c (Some item) right ≡ h → core_after_message c peer (Some item) right ≡ core_after_verdict h c peer item
  unfolding verdict core_after_message
  delivered_as c peer item right h e = ap (λ (k : Heard). core_after_verdict k c peer item) e

  heard_next : (s : Sync) (peer : ℕ) (item : Item) (content : Content) (right : Bool) (h : Heard) → is_right_at (known_at s.root s.stage) item content ≡ right → IsBytes (content_bytes content) → verdict s.core (Some item) right ≡ h → IsSync s
      → Good (outcome_of_verdict h heights (record s { core = core_after_message s.core peer (Some item) right }) peer item content)
  heard_next s peer item content right core.took er string eh sound =
      let c : Core = core_after_message s.core peer (Some item) right in
      let left : c.missing ≡ others item s.core.missing = left_after s.core peer item right eh in
      let r = right_bytes (known_at s.root s.stage) item content (er ∙ (heard_took s.core item right eh).1) in
      let a = stage_after s item (content_bytes content) c left string s.stage r.0 r.1 r.2 sound.stage in
      item_next (record s { core = c; had = (item, content_bytes content) ∷ s.had }) c.missing refl (delivered_good s.core peer (Some item) right sound.core) a.0 a.1
  heard_next s peer item content right core.wrong er string eh sound =
      core_kept s (core_after_message s.core peer (Some item) right)
      (λ i there. ap (λ (c : Core). has_item c.missing i) (delivered_as s.core peer item right core.wrong eh) ∙ has_kept (λ w. same_item w.item item && is_asked_of peer w) s.core.missing i there)
      (delivered_good s.core peer (Some item) right sound.core) sound
  heard_next s peer item content right core.late er string eh sound =
      core_kept s (core_after_message s.core peer (Some item) right)
      (λ i there. ap (λ (c : Core). has_item c.missing i) (delivered_as s.core peer item right core.late eh) ∙ there)
      (delivered_good s.core peer (Some item) right sound.core) sound

  answer_next : (s : Sync) (peer : ℕ) (a : Answer) (b right : Bool) → is_right_at (known_at s.root s.stage) a.ask.item a.content ≡ right → IsBytes (content_bytes a.content) → IsSync s
      → Good (if b then outcome_of_answer heights s peer a.ask.item a.content right else outcome_with late s)
  answer_next s peer a false right er string sound = sound
  answer_next s peer a true right er string sound = heard_next s peer a.ask.item a.content right (verdict s.core (Some a.ask.item) right) er string refl sound

  no_answer : (c : Core) (peer : ℕ) (i : Item) → has_item c.missing i ≡ true → has_item (core_after_message c peer None false).missing i ≡ true
  unfolding core_after_message core_after_failure
  no_answer c peer i there = there

  message_next : (s : Sync) (peer : ℕ) (message : Bytes) (r : Option Answer) → IsBytes message → read_answer message ≡ r → IsSync s → Good (outcome_of_message heights s peer r)
  message_next s peer message None string e sound = core_kept s (core_after_message s.core peer None false) (no_answer s.core peer) (delivered_good s.core peer None false sound.core) sound
  message_next s peer message (Some a) string e sound = answer_next s peer a (is_for s a.ask) (is_right_at (known_at s.root s.stage) a.ask.item a.content) refl (content_is_bytes message a string e) sound

  look_next : (s : Sync) (given : List Given) → AllByRecursion IsByteGiven given → IsSync s → Good (outcome_of_look heights s given)
  look_next s [] strings sound = sound
  look_next s (nothing ∷ given) strings sound = sound
  look_next s (failed ∷ given) strings sound = sound
  look_next s (came peer message ∷ given) strings sound = message_next s peer message (read_answer message) strings.0 refl sound

  -- ---- a step

  turn_next : (s : Sync) (e : Events) → AreByteEvents e → IsSync s → Good (outcome_of_turn heights s e)
  turn_next s e strings sound = by (all_went_out e.asked)
    where
      asked : IsSync (sync_after_asks s e.asked)
      asked = core_kept s (core_after_asks (core_after_turn s.core) e.asked) (λ i there. sym (still_missing s e.asked i) ∙ there) (asked_good (core_after_turn s.core) e.asked (turned_good s.core sound.core)) sound

      by : (b : Bool) → Good (if b then outcome_of_look heights (sync_after_asks s e.asked) e.given else outcome_with peer_fault (sync_after_asks s e.asked))
      by true = look_next (sync_after_asks s e.asked) e.given strings asked
      by false = asked

  system_next : (s : Sync) (m : Manifest) (r : Result SystemPart ℕ) → system_for m (system_had s m) ≡ r → IsCore s.core → IsAtStage (at_system m) s → Good (outcome_of_system s m r)
  system_next s m (Err place) e good h = tt
  system_next s m (Ok parts) e good h =
      let a = rooted s m parts h.0 h.1 e in
      record { core = good; stage = (same_manifest s (at_memories m (installed_state s.height m parts (chunks_had m s.had)) _) s.core m h.0, a.0, a.2, parts, refl) }

  memory_next : (s : Sync) (m : Manifest) (state : State) (left : ℕ) → IsCore s.core → IsAtStage (at_memories m state left) s → Good (outcome_of_memory s m state left)
  memory_next s m state zero good h = tt
  memory_next s m state (suc left) good h = record { core = good; stage = (same_manifest s (at_memories m state left) s.core m h.0, h.1, h.2, h.3, h.4) }

  step_next : (s : Sync) (e : Events) → AreByteEvents e → IsSync s → (stage : Stage) → IsAtStage stage s → Good (outcome_at stage heights s e)
  step_next s e strings sound at_meta h = turn_next s e strings sound
  step_next s e strings sound (at_pieces m) h = turn_next s e strings sound
  step_next s e strings sound (at_chunks m) h = turn_next s e strings sound
  step_next s e strings sound (at_system m) h = system_next s m (system_for m (system_had s m)) refl sound.core h
  step_next s e strings sound (at_memories m state left) h = memory_next s m state left sound.core h

pub keeps_knowing : (heights : Heights) (s : Sync) (e : Events) → KeepsKnowing heights s e
unfolding sync_step
keeps_knowing heights s e published strings sound t is = subst (λ (o : Option Sync). IfSome o IsSync) is (step_next heights published s e strings sound s.stage sound.stage)

pub begins_knowing : (height : ℕ) (root : Bytes) (peers : ℕ) → peers ≤ MAX_PEERS → IsSync (sync_to height root peers)
begins_knowing height root peers few = record { core = begun_good peers few; stage = tt }
