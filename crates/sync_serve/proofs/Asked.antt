-- One of the disks is asked: the others stay, and the faults of all are counted.
use Rattle.std.proofs.Common.{◌≡◌, ◌⊎◌, ℕ, zero, suc, ◌+◌, ◌-◌, ◌^◌, ◌<◌, ◌≤◌, min, List, [], ◌∷◌, ◌++◌, length, map, set, get_or, slice_get, sum_by, Result, Ok, Err, Some, IsTrue, IsErrOf, IsErrAnd, sym, ap, ◌∙◌, subst, arith, inl, inr}
use Rattle.std.proofs.lemmas.List.{length-map, map-set, get_or-map, get_or-set_same, length-set}
use Rattle.std.proofs.lemmas.List.Sums.{sum_by-set, sum_by-cons}
use Rattle.std.proofs.lemmas.Option.{slice_get-get_or, slice_get_within, get_or_from_slice_get}
use Rattle.format_spec.specs.Bytes.{Bytes}
use Rattle.io_edge.specs.Faults.{IsCounted}
use Rattle.disk_model.specs.declared.disk.Disk.{Ghosts}
use Rattle.disk_model.specs.Causes.{Rose}
use Rattle.peer_model.specs.declared.peers.PeerError.{PeerError}
use Rattle.peer_model.specs.declared.peers.PeerError.TheVariants.{Fault}
use Rattle.sync_serve.specs.Roots.{RootView, RootsView, IsSameDisk, DoesNotOpen, AsksDisk, faults_of, next_bad}

one_most : {X : Type 0} (f : X → ℕ) (xs : List X) (i : ℕ) (d : X) → i < length xs → f (get_or xs i d) ≤ sum_by f xs
one_most f [] i d lt = absurd (omega (arith, lt))
one_most f (x ∷ xs) zero d lt = omega (arith, sum_by-cons f x xs)
one_most f (x ∷ xs) (suc i) d lt = omega (arith, sum_by-cons f x xs, one_most f xs i d (omega (arith, lt)))

-- of a count of one disk, of all disks and of bad stores, before and after
disk_risen : (a b s t u v : ℕ) → t + a ≡ s + b → a ≤ b → b ≤ t → u ≤ v → Rose a b → Rose (s + u) (t + v)
disk_risen a b s t u v moved le most more rose = omega (arith, moved, le, most, more, rose)

bad_risen : (a b s t u v : ℕ) → t + a ≡ s + b → a ≤ b → v ≡ next_bad u → Rose (s + u) (t + v)
bad_risen a b s t u v moved le is = omega (arith, moved, le, is)

-- a count of bad stores, with one more
pub next_bad_is : (u v : ℕ) → v ≡ min (u + 1) (2 ^ 64 - 1) → u < 2 ^ 64 → v ≡ next_bad u
next_bad_is u v is fits = omega (arith, is, fits)

bad_more : (u v : ℕ) → v ≡ next_bad u → u ≤ v
bad_more u v is = omega (arith, is)

-- ---- what a call that asked a disk says of all

module _ {D T : Type 0} (ghosts : Ghosts D) (i : ℕ) (result : Result T PeerError) (old new : RootsView D) (asks : AsksDisk ghosts i result old new) where
  within : i < length old.disks
  within = slice_get_within old.disks i asks.before asks.there

  pub as_many : length new.disks ≡ length old.disks
  as_many = ap length asks.disks ∙ length-set old.disks i asks.after

  moved : sum_by ghosts.faults new.disks + ghosts.faults asks.before ≡ sum_by ghosts.faults old.disks + ghosts.faults asks.after
  moved =
      ap (λ (ds : List D). sum_by ghosts.faults ds + ghosts.faults asks.before) asks.disks
      ∙ ap (λ (d : D). sum_by ghosts.faults (set old.disks i asks.after) + ghosts.faults d) (sym (get_or_from_slice_get old.disks i asks.before asks.before asks.there))
      ∙ sum_by-set ghosts.faults old.disks i asks.after asks.before within

  most : ghosts.faults asks.after ≤ sum_by ghosts.faults new.disks
  most =
      subst (λ (ds : List D). ghosts.faults asks.after ≤ sum_by ghosts.faults ds) (sym asks.disks)
      (subst (λ (d : D). ghosts.faults d ≤ sum_by ghosts.faults (set old.disks i asks.after)) (get_or-set_same old.disks i asks.after asks.after within)
      (one_most ghosts.faults (set old.disks i asks.after) i asks.after (omega (arith, within, length-set old.disks i asks.after))))

  bad_later : (new.bad ≡ old.bad) ⊎ ((new.bad ≡ next_bad old.bad) × IsErrOf result Fault × DoesNotOpen ghosts asks.before) → old.bad ≤ new.bad
  bad_later (inl same) = omega (arith, same)
  bad_later (inr more) = bad_more old.bad new.bad more.0

  risen : Rose (ghosts.faults asks.before) (ghosts.faults asks.after) ⊎ ((new.bad ≡ next_bad old.bad) × DoesNotOpen ghosts asks.before) → Rose (faults_of ghosts old) (faults_of ghosts new)
  risen (inl rose) = disk_risen (ghosts.faults asks.before) (ghosts.faults asks.after) (sum_by ghosts.faults old.disks) (sum_by ghosts.faults new.disks) old.bad new.bad moved asks.never_falls most (bad_later asks.bad) rose
  risen (inr more) = bad_risen (ghosts.faults asks.before) (ghosts.faults asks.after) (sum_by ghosts.faults old.disks) (sum_by ghosts.faults new.disks) old.bad new.bad moved asks.never_falls more.0

  pub counted : IsCounted (faults_of ghosts old) (faults_of ghosts new) (IsErrOf result Fault)
  counted = record { later = omega (arith, moved, asks.never_falls, bad_later asks.bad); cause = λ fault. risen (asks.fault fault) }

  -- the count behind a later step that keeps disks and bad stores and isn't a fault
  pub counted_on : (last : RootsView D) (fault : Type 0) → last.disks ≡ new.disks → last.bad ≡ new.bad → (fault → ⊥) → IsCounted (faults_of ghosts old) (faults_of ghosts last) fault
  counted_on last fault disks bad none =
      let same : faults_of ghosts new ≡ faults_of ghosts last = λ k. sum_by ghosts.faults (sym disks k) + sym bad k in
      subst (λ (n : ℕ). IsCounted (faults_of ghosts old) n fault) same (record { later = counted.later; cause = λ failed. absurd (none failed) })

-- an error that goes on
pub error_is : {T E : Type 0} (result : Result T E) (e : E) → IsErrAnd result (λ made. made ≡ e) → result ≡ Err e
error_is (Ok x) e is = absurd is
error_is (Err made) e is = ap (λ (f : _). Err f) is

pub asks_failed : {D T U : Type 0} (ghosts : Ghosts D) (i : ℕ) (e : PeerError) (result : Result U PeerError) (old new : RootsView D) → result ≡ Err e → AsksDisk {T = T} ghosts i (Err e) old new → AsksDisk ghosts i result old new
asks_failed {D} {T} {U} ghosts i e result old new is asks = record {
  before = asks.before;
  after = asks.after;
  there = asks.there;
  disks = asks.disks;
  same = asks.same;
  never_falls = asks.never_falls;
  bad = on asks.bad;
  fault = λ fault. asks.fault (back fault);
}
  where
    back : IsErrOf result Fault → IsErrOf {T = T} (Err e) Fault
    back fault = let same : e ≡ Fault = cc (sym is ∙ fault) in ap (λ (f : PeerError). Err f) same

    on : (new.bad ≡ old.bad) ⊎ ((new.bad ≡ next_bad old.bad) × IsErrOf {T = T} (Err e) Fault × DoesNotOpen ghosts asks.before) → (new.bad ≡ old.bad) ⊎ ((new.bad ≡ next_bad old.bad) × IsErrOf result Fault × DoesNotOpen ghosts asks.before)
    on (inl same) = inl same
    on (inr more) = let same : e ≡ Fault = cc more.1 in inr (more.0, is ∙ ap (λ (f : PeerError). Err f) same, more.2)

-- ---- a disk that is asked

abbrev pub disk_of : {D : Type 0} → RootView D → D
disk_of r = r.disk

module _ {D : Type 0} (ghosts : Ghosts D) (xs : List (RootView D)) (i : ℕ) (old new : RootView D) (here : old ≡ get_or xs i old) where
  old_there : i < length xs → slice_get (map disk_of xs) i ≡ Some old.disk
  old_there lt = slice_get-get_or (map disk_of xs) i old.disk (omega (arith, lt, length-map xs disk_of)) ∙ ap (λ (d : D). Some d) (get_or-map disk_of xs i old old.disk lt ∙ ap disk_of (sym here))

  pub asks_disk : {T : Type 0} (result : Result T PeerError) (waiting : List (ℕ × Bytes)) (bad now : ℕ) (was : RootsView D) → record { disks = map disk_of xs; waiting = waiting; bad = bad } ≡ was → i < length was.disks
      → (IsTrue ghosts.tells → IsSameDisk ghosts old.disk new.disk) → ghosts.faults old.disk ≤ ghosts.faults new.disk
      → (now ≡ bad) ⊎ ((now ≡ next_bad bad) × IsErrOf result Fault × DoesNotOpen ghosts old.disk)
      → (IsErrOf result Fault → Rose (ghosts.faults old.disk) (ghosts.faults new.disk) ⊎ ((now ≡ next_bad bad) × DoesNotOpen ghosts old.disk))
      → AsksDisk ghosts i result was (record { disks = map disk_of (set xs i new); waiting = waiting; bad = now })
  asks_disk result waiting bad now was is lt same le more fault =
      let within = subst (λ (v : RootsView D). i < length v.disks) (sym is) lt in
      subst (λ (v : RootsView D). AsksDisk ghosts i result v (record { disks = map disk_of (set xs i new); waiting = waiting; bad = now })) is
      (record {
        before = old.disk;
        after = new.disk;
        there = old_there (omega (arith, within, length-map xs disk_of));
        disks = map-set disk_of xs i new;
        same = same;
        never_falls = le;
        bad = more;
        fault = fault;
      })

-- ---- the answer that waits

-- it is behind those that waited
pub behind : (was now waiting : List (ℕ × Bytes)) (message : ℕ × Bytes) → now ≡ waiting ++ message ∷ [] → waiting ≡ was → now ≡ was ++ message ∷ []
behind was now waiting message pushed same = pushed ∙ ap (λ (ms : List (ℕ × Bytes)). ms ++ message ∷ []) same
