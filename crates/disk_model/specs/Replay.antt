-- Laws of records of calls.
use Rattle.std.specs.Prelude.{◌≡◌, ℕ, suc, length, Bool, true, false, List, [], ◌∷◌, ◌++◌, if◌then◌else◌, refl}
use Rattle.std.proofs.Common.{inl, ap, sym, subst, cond}
use Rattle.disk_model.specs.declared.event.Event.{Event}
use Rattle.disk_model.specs.Files.{Files}
use Rattle.disk_model.specs.State.{DiskState, IsImageNow}
use Rattle.disk_model.specs.Call.{Call, under_way, done, appended_after}
use Rattle.disk_model.specs.Laws.{IsSound, done_is_sound, under_way_is_sound, under_way_files}
use Rattle.disk_model.specs.Record.{disk_of_files, call_of, after_event, state_after, past_of, appended_of}

pub state_push : (s : DiskState) (es : List Event) (e : Event) → state_after s (es ++ e ∷ []) ≡ after_event (state_after s es) e
state_push s [] e = refl
state_push s (d ∷ es) e = state_push (after_event s d) es e

pub past_push : (s : DiskState) (es : List Event) (e : Event) → past_of s (es ++ e ∷ []) ≡ past_of s es ++ under_way (call_of e.act) (state_after s es) ∷ []
past_push s [] e = refl
past_push s (d ∷ es) e = ap (λ (l : List DiskState). under_way (call_of d.act) s ∷ l) (past_push (after_event s d) es e)

pub past_length : (s : DiskState) (es : List Event) → length (past_of s es) ≡ length es
past_length s [] = refl
past_length s (e ∷ es) = ap suc (past_length (after_event s e) es)

pub appended_push : (n : ℕ) (es : List Event) (e : Event) → appended_of n (es ++ e ∷ []) ≡ (if e.done then appended_after (call_of e.act) (appended_of n es) else appended_of n es)
appended_push n [] e = refl
appended_push n (d ∷ es) e = appended_push (if d.done then appended_after (call_of d.act) n else n) es e

event_is_sound : (s : DiskState) (e : Event) → IsSound s → IsSound (after_event s e)
event_is_sound s e sound = by_cases s (call_of e.act) e.done sound
  where
    failed : (call : Call) (s : DiskState) → IsSound s → IsSound (under_way call s)
    failed call s sound = subst (λ files. IsImageNow (under_way call s) files) (sym (under_way_files call s)) (under_way_is_sound call s sound)

    by_cases : (s : DiskState) (call : Call) (b : Bool) → IsSound s → IsSound (cond b (done call s) (under_way call s))
    by_cases s call true sound = done_is_sound call s sound
    by_cases s call false sound = failed call s sound

replay_is_sound : (s : DiskState) (es : List Event) → IsSound s → IsSound (state_after s es)
replay_is_sound s [] sound = sound
replay_is_sound s (e ∷ es) sound = replay_is_sound (after_event s e) es (event_is_sound s e sound)

-- After any record the disk as it reads is one of its images.
pub reads_as_image_now : (first : Files) (es : List Event) → IsSound (state_after (disk_of_files first) es)
reads_as_image_now first es = replay_is_sound (disk_of_files first) es (inl (record { firm = λ q _. refl }))
