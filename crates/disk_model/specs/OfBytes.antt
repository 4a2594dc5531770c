-- Files are of bytes, on a disk and in what a crash leaves of it.
use Rattle.std.specs.Prelude.{◌≡◌, ℕ, zero, suc, Bool, true, false, List, [], ◌∷◌, ◌++◌, map, Option, None, Some, unwrap_or}
use Rattle.std.proofs.Common.{inl, inr, sym, subst, arith, cond}
use Rattle.std.specs.List.{AllByRecursion}
use Rattle.format_spec.specs.Bytes.{IsBytes}
use Rattle.format_spec.proofs.ByteStrings.{join_bytes}
use Rattle.disk_model.specs.declared.name.Name.{Name}
use Rattle.disk_model.specs.declared.event.Event.{Event}
use Rattle.disk_model.specs.Files.{Files, same_name, files_with, files_after_rename}
use Rattle.disk_model.specs.State.{DiskState, ShowsOneOf, IsImageNow}
use Rattle.disk_model.specs.Call.{Call, look, settle, create, append, seal, rename, remove, under_way, done}
use Rattle.disk_model.specs.Record.{disk_of_files, call_of, after_event, state_after}

-- Each file is of bytes. A name without a file counts as one of none.
abbrev pub AreOfBytes : Files → Type 0
AreOfBytes files = (q : Name) → IsBytes (unwrap_or (files q) [])

-- the files as they read, and what the firm names may have on the disk
pub record HoldsBytes (s : DiskState) : Type 0 where
  pub files : AreOfBytes s.files
  pub outcomes : AllByRecursion AreOfBytes s.outcomes

firm_of : (loose : Name → Bool) (outcomes : List Files) (image : Files) → AllByRecursion AreOfBytes outcomes → ShowsOneOf loose outcomes image → (q : Name) → loose q ≡ false → IsBytes (unwrap_or (image q) [])
firm_of loose [] image all shows q firm = absurd shows
firm_of loose (f ∷ outcomes) image all (inl here) q firm = subst (λ (file : Option (List ℕ)). IsBytes (unwrap_or file [])) (sym (here.firm q firm)) (all.0 q)
firm_of loose (f ∷ outcomes) image all (inr there) q firm = firm_of loose outcomes image all.1 there q firm

-- In each image the firm files are of bytes. Of a loose one an image has anything.
pub image_bytes : (s : DiskState) (image : Files) → HoldsBytes s → IsImageNow s image → (q : Name) → s.loose q ≡ false → IsBytes (unwrap_or (image q) [])
image_bytes s image holds shows = firm_of s.loose s.outcomes image holds.outcomes shows

-- ---- calls

-- what the call is given to write
abbrev pub bytes_given : Call → List ℕ
bytes_given (append name bytes) = bytes
bytes_given _ = []

pub no_bytes : IsBytes []
no_bytes i = omega arith

replaced_bytes : (n : Name) (x : Option (List ℕ)) (f : Files) → IsBytes (unwrap_or x []) → AreOfBytes f → AreOfBytes (files_with f n x)
replaced_bytes n x f file files q = by (same_name n q)
  where
    by : (b : Bool) → IsBytes (unwrap_or (cond b x (f q)) [])
    by true = file
    by false = files q

moved_bytes : (from to : Name) (x : Option (List ℕ)) (f : Files) → IsBytes (unwrap_or x []) → AreOfBytes f → AreOfBytes (files_after_rename f from to x)
moved_bytes from to x f file files = replaced_bytes to x (files_with f from None) file (replaced_bytes from None f no_bytes files)

mapped : (g : Files → Files) → ((f : Files) → AreOfBytes f → AreOfBytes (g f)) → (fs : List Files) → AllByRecursion AreOfBytes fs → AllByRecursion AreOfBytes (map g fs)
mapped g step [] all = tt
mapped g step (f ∷ fs) all = (step f all.0, mapped g step fs all.1)

joined : (fs gs : List Files) → AllByRecursion AreOfBytes fs → AllByRecursion AreOfBytes gs → AllByRecursion AreOfBytes (fs ++ gs)
joined [] gs all more = more
joined (f ∷ fs) gs all more = (all.0, joined fs gs all.1 more)

pub under_way_bytes : (call : Call) (s : DiskState) → HoldsBytes s → HoldsBytes (under_way call s)
under_way_bytes look s h = h
under_way_bytes settle s h = h
under_way_bytes (create n) s h = record { files = h.files; outcomes = h.outcomes }
under_way_bytes (append n bytes) s h = record { files = h.files; outcomes = h.outcomes }
under_way_bytes (seal n) s h = record { files = h.files; outcomes = h.outcomes }
under_way_bytes (rename from to) s h = record { files = h.files; outcomes = joined s.outcomes _ h.outcomes (mapped _ (λ f. moved_bytes from to (s.files from) f (h.files from)) s.outcomes h.outcomes) }
under_way_bytes (remove n) s h = record { files = h.files; outcomes = joined s.outcomes _ h.outcomes (mapped _ (λ f. replaced_bytes n None f no_bytes) s.outcomes h.outcomes) }

pub done_bytes : (call : Call) (s : DiskState) → IsBytes (bytes_given call) → HoldsBytes s → HoldsBytes (done call s)
done_bytes look s given h = h
done_bytes settle s given h = record { files = h.files; outcomes = (h.files, tt) }
done_bytes (create n) s given h = record { files = replaced_bytes n (Some []) s.files no_bytes h.files; outcomes = h.outcomes }
done_bytes (append n bytes) s given h = record { files = replaced_bytes n (Some (unwrap_or (s.files n) [] ++ bytes)) s.files (join_bytes (unwrap_or (s.files n) []) bytes (h.files n) given) h.files; outcomes = h.outcomes }
done_bytes (seal n) s given h = record { files = h.files; outcomes = mapped _ (λ f. replaced_bytes n (s.files n) f (h.files n)) s.outcomes h.outcomes }
done_bytes (rename from to) s given h = record {
  files = moved_bytes from to (s.files from) s.files (h.files from) h.files;
  outcomes = mapped _ (λ f. moved_bytes from to (s.files from) f (h.files from)) s.outcomes h.outcomes;
}
done_bytes (remove n) s given h = record { files = replaced_bytes n None s.files no_bytes h.files; outcomes = mapped _ (λ f. replaced_bytes n None f no_bytes) s.outcomes h.outcomes }

-- ---- records of calls

-- what the event of this number was given to write
abbrev pub event_bytes : List Event → ℕ → List ℕ
event_bytes [] i = []
event_bytes (e ∷ events) zero = bytes_given (call_of e.act)
event_bytes (e ∷ events) (suc i) = event_bytes events i

abbrev pub WroteBytes : List Event → Type 0
WroteBytes events = (i : ℕ) → IsBytes (event_bytes events i)

pub wrote_more : (es : List Event) (e : Event) → WroteBytes es → IsBytes (bytes_given (call_of e.act)) → WroteBytes (es ++ e ∷ [])
wrote_more [] e wrote given zero = given
wrote_more [] e wrote given (suc i) = no_bytes
wrote_more (d ∷ es) e wrote given zero = wrote 0
wrote_more (d ∷ es) e wrote given (suc i) = wrote_more es e (λ j. wrote (suc j)) given i

event_holds : (s : DiskState) (e : Event) → IsBytes (bytes_given (call_of e.act)) → HoldsBytes s → HoldsBytes (after_event s e)
event_holds s e given holds = by e.done
  where
    by : (b : Bool) → HoldsBytes (cond b (done (call_of e.act) s) (under_way (call_of e.act) s))
    by true = done_bytes (call_of e.act) s given holds
    by false = under_way_bytes (call_of e.act) s holds

events_hold : (s : DiskState) (es : List Event) → WroteBytes es → HoldsBytes s → HoldsBytes (state_after s es)
events_hold s [] wrote holds = holds
events_hold s (e ∷ es) wrote holds = events_hold (after_event s e) es (λ i. wrote (suc i)) (event_holds s e (wrote 0) holds)

-- After any record of bytes written the disk holds bytes.
pub record_holds : (first : Files) (es : List Event) → AreOfBytes first → WroteBytes es → HoldsBytes (state_after (disk_of_files first) es)
record_holds first es files wrote = events_hold (disk_of_files first) es wrote (record { files = files; outcomes = (files, tt) })
