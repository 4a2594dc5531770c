-- What one more event makes of a disk in memory.
use Rattle.std.proofs.Common.{Some, unwrap_or, ◌≡◌, ℕ, true, false, List, [], ◌∷◌, ◌++◌, refl, sym, ◌∙◌, ap, subst, arith, ◌≤◌, ◌+◌, length}
use Rattle.disk_model.specs.declared.event.Act.{Act}
use Rattle.disk_model.specs.declared.event.Event.{Event}
use Rattle.disk_model.specs.declared.name.Name.{Name}
use Rattle.disk_model.specs.Files.{Files, files_with}
use Rattle.disk_model.specs.State.{DiskState}
use Rattle.disk_model.specs.Call.{append, look, done, appended_after, count_after}
use Rattle.disk_model.specs.View.{DiskView, Done, Failed, Looks}
use Rattle.disk_model.specs.Laws.{under_way_files}
use Rattle.disk_model.specs.Record.{disk_of_files, call_of, state_after, appended_of, view_of}
use Rattle.format_spec.specs.Bytes.{IsBytes}
use Rattle.disk_model.specs.OfBytes.{WroteBytes, bytes_given, wrote_more}
use Rattle.disk_model.specs.Replay.{state_push, past_push, appended_push}

module _ (first : Files) (es : List Event) (act : Act) where
  abbrev state : DiskState
  state = state_after (disk_of_files first) es

  abbrev failure : List Event
  failure = es ++ record { act = act; done = false } ∷ []

  abbrev success : List Event
  success = es ++ record { act = act; done = true } ∷ []

  pub files_after_failure : (later : List Event) → later ≡ failure → (state_after (disk_of_files first) later).files ≡ state.files
  files_after_failure later is = ap (λ es. (state_after (disk_of_files first) es).files) is ∙ ap (λ (s : DiskState). s.files) (state_push (disk_of_files first) es _) ∙ under_way_files (call_of act) state

  pub appended_after_failure : (later : List Event) → later ≡ failure → appended_of 0 later ≡ appended_of 0 es
  appended_after_failure later is = ap (appended_of 0) is ∙ appended_push 0 es _

  failed_here : (r : ℕ) → Failed (call_of act) (view_of first es r) (view_of first failure r)
  failed_here r = let counts = appended_push 0 es (record { act = act; done = false }) in record {
    state = let e = state_push (disk_of_files first) es (record { act = act; done = false }) in record {
      loose = ap (λ (s : DiskState). s.loose) e;
      outcomes = ap (λ (s : DiskState). s.outcomes) e;
      others = λ q _. ap (λ (s : DiskState). s.files q) e ∙ ap (λ (f : Files). f q) (under_way_files (call_of act) state);
    };
    past = past_push (disk_of_files first) es _;
    appended_least = omega (arith, counts);
    appended_most = omega (arith, counts);
    bytes_read = refl;
  }

  pub failed : (later : List Event) (r : ℕ) → later ≡ failure → Failed (call_of act) (view_of first es r) (view_of first later r)
  failed later r is = subst (λ l. Failed (call_of act) (view_of first es r) (view_of first l r)) (sym is) (failed_here r)

  done_here : (r : ℕ) → Done (call_of act) (view_of first es r) (view_of first success r)
  done_here r = record {
    state = state_push (disk_of_files first) es _;
    past = past_push (disk_of_files first) es _;
    appended = appended_push 0 es _;
    bytes_read = refl;
  }

  -- room was made for the event, and then it was pushed
  pushed : (room later : List Event) → room ≡ es → later ≡ room ++ record { act = act; done = true } ∷ [] → later ≡ success
  pushed room later same is = is ∙ ap (λ (l : List Event). l ++ record { act = act; done = true } ∷ []) same

  pub did : (room later : List Event) (r : ℕ) → room ≡ es → later ≡ room ++ record { act = act; done = true } ∷ [] → Done (call_of act) (view_of first es r) (view_of first later r)
  did room later r same is = subst (λ l. Done (call_of act) (view_of first es r) (view_of first l r)) (sym (pushed room later same is)) (done_here r)

  -- the files that the map has are those that the record tells
  pub reads_after : (room later : List Event) (files : Files) → room ≡ es → later ≡ room ++ record { act = act; done = true } ∷ [] → files ≡ (done (call_of act) state).files → files ≡ (state_after (disk_of_files first) later).files
  reads_after room later files same is then = then ∙ sym (ap (λ es. (state_after (disk_of_files first) es).files) (pushed room later same is) ∙ ap (λ (s : DiskState). s.files) (state_push (disk_of_files first) es _))

  -- and the bytes appended are counted
  pub total_after : (room later : List Event) (n : ℕ) → room ≡ es → later ≡ room ++ record { act = act; done = true } ∷ [] → n ≡ count_after 0 (appended_after (call_of act) (appended_of 0 es)) → n ≡ count_after 0 (appended_of 0 later)
  total_after room later n same is then = then ∙ sym (ap (λ es. count_after 0 (appended_of 0 es)) (pushed room later same is) ∙ ap (count_after 0) (appended_push 0 es _))

  -- and what was written was bytes
  pub wrote_after : (room later : List Event) → room ≡ es → later ≡ room ++ record { act = act; done = true } ∷ [] → WroteBytes es → IsBytes (bytes_given (call_of act)) → WroteBytes later
  wrote_after room later same is wrote given = subst WroteBytes (sym (pushed room later same is)) (wrote_more es _ wrote given)

  pub wrote_after_failure : (later : List Event) → later ≡ failure → WroteBytes es → IsBytes (bytes_given (call_of act)) → WroteBytes later
  wrote_after_failure later is wrote given = subst WroteBytes (sym is) (wrote_more es _ wrote given)

-- a look that was done, and read so many bytes
pub done_look : (old mid new : DiskView) (most : ℕ) → Done look old mid → new.state ≡ mid.state → new.past ≡ mid.past → new.appended ≡ mid.appended → mid.bytes_read ≤ new.bytes_read → new.bytes_read ≤ mid.bytes_read + most → Looks most old new
done_look old mid new most does state past appended least most_read = record {
  state = state ∙ does.state;
  past = past ∙ does.past;
  appended = appended ∙ does.appended;
  read_least = omega arith;
  read_most = omega arith;
}

pub appended_files : (f g : Files) (name : Name) (bytes kept : List ℕ) → f ≡ g → kept ≡ bytes → files_with f name (Some (unwrap_or (f name) [] ++ bytes)) ≡ files_with g name (Some (unwrap_or (g name) [] ++ kept))
appended_files f g name bytes kept same is = λ i. files_with (same i) name (Some (unwrap_or (same i name) [] ++ sym is i))

-- the count of bytes appended stays at the top
pub counted_more : (count total now : ℕ) (bytes kept : List ℕ) → count ≡ count_after 0 total → now ≡ count_after count (length bytes) → kept ≡ bytes → now ≡ count_after 0 (total + length kept)
counted_more count total now bytes kept was is same = omega (arith, ap length same)

pub append_of : (old new : DiskView) (name : Name) (bytes kept : List ℕ) → kept ≡ bytes → Done (append name kept) old new → Done (append name bytes) old new
append_of old new name bytes kept is done = subst (λ (bytes : List ℕ). Done (append name bytes) old new) is done
