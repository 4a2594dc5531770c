-- What the end of a run tells of its script.
use Rattle.std.proofs.Common.{◌≡◌, ◌<◌, ◌+◌, ◌==◌, ℕ, suc, Bool, true, false, IsTrue, cond, List, [], ◌∷◌, ◌++◌, length, Option, Some, None, Result, Ok, Err, ◌⊎◌, refl, ◌∙◌, ap, sym, subst, inl, inr, arith, length-append, ⊎_elim}
use Rattle.std.proofs.lemmas.List.{append-nil, length-map}
use Rattle.std.specs.List.{AllByRecursion}
use Rattle.std.specs.Io.KnownBytes.{Consumes}
use Rattle.format_spec.specs.Bytes.{Bytes}
use Rattle.store_spec.specs.Image.{Published, StandsFor}
use Rattle.disk_model.specs.Files.{Files}
use Rattle.disk_model.specs.State.{IsImageNow}
use Rattle.disk_model.specs.Record.{disk_of_files}
use Rattle.disk_model.specs.declared.name.Name.TheVariants as name
use Rattle.disk_model.specs.View.{DiskView, EachImage}
use Rattle.machine_spec.specs.Answers.{Turn, answers, lines_of, turns_of_lines, after_turns}
use Rattle.machine_spec.specs.Machine.{Machine}
use Rattle.machine_spec.specs.Script.{output_by, after_script}
use Rattle.machine_spec.proofs.Runs.{plays_once}
use Rattle.script_text.specs.Endings.{status_of}
use Rattle.script_text.specs.Script.{lines, text_of_lines, IsLine, IsShort, AreWithinLimits}
use Rattle.script_text.specs.declared.ending.RunStop.{RunStop}
use Rattle.script_text.specs.declared.ending.RunStop.TheVariants as stops
use Rattle.script_text.specs.declared.status.Status.{Status}
use Rattle.script_text.specs.declared.status.Status.TheVariants.{Done, Usage, ReadFault, WriteFault, DiskFault, BadRoot, LongLine, ManyLines, Memory}
use Rattle.script_text.proofs.Lines.{lines_below, lines_joined, length-below, short-below}
use Rattle.state_cli.proofs.Closing.{nothing_closes}
use Rattle.state_cli.proofs.Lines.{one_line, some_line}
use Rattle.state_cli.proofs.Progress.{are_lines}
use Rattle.state_cli.specs.Ends.{Closes, Closing, Ends, EndsFrom, all_shown}

all_last : (P : Bytes → Type 0) (xs : List Bytes) (y : Bytes) → AllByRecursion P (xs ++ y ∷ []) → P y
all_last P [] y h = h.0
all_last P (x ∷ xs) y h = all_last P xs y h.1

some_lines : (part : Bytes) → length part ≡ 1 → 0 < length (lines part)
some_lines [] h = absurd (omega (arith, h))
some_lines (b ∷ []) h = some_line b
some_lines (b ∷ c ∷ bs) h = absurd (omega (arith, h))

module _ (tells : Bool) (begins : Machine → Type 0) (shown : Bytes → Bytes) (closes : Closing) (ended : Type 0) (old new : DiskView) (script gained : Bytes) where
  -- the lines of a script that lacks nothing
  lines_are : (ending : Result Unit RunStop) (e : EndsFrom 0 ending tells begins shown closes ended old new script gained) → e.behind.lacking ≡ [] → lines script ≡ lines_of e.answered ++ lines e.behind.part
  lines_are ending e fed =
      let whole : script ≡ text_of_lines (lines_of e.answered) ++ e.behind.part = sym (append-nil script) ∙ ap (λ l. script ++ l) (sym fed) ∙ e.script_is in
      ap lines whole ∙ lines_joined (lines_of e.answered) e.behind.part (are_lines e.answered e.turns)

  not_long : (number : ℕ) (left : Bytes) → AreWithinLimits (lines (script ++ left)) → EndsFrom 0 (Err (stops.LongLine number)) tells begins shown closes ended old new script gained → ⊥
  not_long number left within e =
      let part = e.behind.part in
      let is = lines_are (Err (stops.LongLine number)) e e.by.between.fed ∙ ap (λ ls. lines_of e.answered ++ ls) (one_line part e.by.one (λ none. omega (arith, ap length none, e.by.long))) in
      let short = short-below (lines script) (lines (script ++ left)) (lines_below script left) within.short in
      let last = all_last IsShort (lines_of e.answered) part (subst (λ (ls : List Bytes). AllByRecursion IsShort ls) is short) in
      omega (arith, last, e.by.long)

  not_many : (left : Bytes) → AreWithinLimits (lines (script ++ left)) → EndsFrom 0 (Err stops.ManyLines) tells begins shown closes ended old new script gained → ⊥
  not_many left within e =
      let few = length-below (lines script) (lines (script ++ left)) (lines_below script left) in
      let is = lines_are (Err stops.ManyLines) e e.by.between.fed in
      omega (arith, few, within.few, ap length is, length-append (lines_of e.answered) (lines e.behind.part), length-map e.answered (λ (t : Turn). t.line), e.by.all, some_lines e.behind.part e.by.one)

  -- A script within the limits is not stopped by them.
  pub within_limits : (status : Status) (left : Bytes) → AreWithinLimits (lines (script ++ left)) → Ends status tells begins shown closes ended old new script gained → (status ≡ LongLine → ⊥) × (status ≡ ManyLines → ⊥)
  within_limits status left within e = by_ending e.ending e.status_is e.ends
    where
      by_ending : (ending : Result Unit RunStop) → status ≡ status_of ending → EndsFrom 0 ending tells begins shown closes ended old new script gained → (status ≡ LongLine → ⊥) × (status ≡ ManyLines → ⊥)
      by_ending (Err (stops.LongLine number)) is e = absurd (not_long number left within e)
      by_ending (Err stops.ManyLines) is e = absurd (not_many left within e)
      by_ending (Ok done) is e = (λ h. cc, λ h. cc)
      by_ending (Err stops.Usage) is e = (λ h. cc, λ h. cc)
      by_ending (Err stops.ReadFault) is e = (λ h. cc, λ h. cc)
      by_ending (Err stops.WriteFault) is e = (λ h. cc, λ h. cc)
      by_ending (Err stops.DiskFault) is e = (λ h. cc, λ h. cc)
      by_ending (Err (stops.BadMark height)) is e = (λ h. cc, λ h. cc)
      by_ending (Err (stops.BadPage number)) is e = (λ h. cc, λ h. cc)
      by_ending (Err stops.Memory) is e = (λ h. cc, λ h. cc)

-- ---- a script that is done

-- every line of the script is answered
all_lines : (tells : Bool) (begins : Machine → Type 0) (shown : Bytes → Bytes) (closes : Closing) (ended : Type 0) (old new : DiskView) (script gained : Bytes) (e : EndsFrom 0 (Ok tt) tells begins shown closes ended old new script gained)
    → lines_of e.answered ≡ lines script
all_lines tells begins shown closes ended old new script gained e =
    let whole : lines (script ++ e.behind.lacking) ≡ lines_of e.answered =
    ap lines (e.script_is ∙ ap (λ p. text_of_lines (lines_of e.answered) ++ p) e.by.nothing) ∙ lines_joined (lines_of e.answered) [] (are_lines e.answered e.turns) ∙ append-nil (lines_of e.answered) in
    let same : lines (script ++ e.behind.lacking) ≡ lines script =
    ⊎_elim (λ none. ap (λ l. lines (script ++ l)) none ∙ ap lines (append-nil script)) (λ more. ap (λ l. lines (script ++ l)) more.0 ∙ more.1) e.lacks in
    sym whole ∙ same

-- what was given and what each image stands for are fixed by the script
done_from : (tells : Bool) (begins : Machine → Type 0) (before now : ℕ) (ended : Type 0) (old new : DiskView) (script gained : Bytes) (first : Machine)
    → EndsFrom 0 (Ok tt) tells begins all_shown (Closes before now) ended old new script gained → IsTrue tells → begins first
    → (gained ≡ output_by first script) × EachImage new.state (λ image. StandsFor image (after_script first script).published) × ended
done_from tells begins before now ended old new script gained first e told b =
    let p = e.plays told first b in
    let are = plays_once first e.answered (lines script) p.replies (all_lines tells begins all_shown (Closes before now) ended old new script gained e) in
    let none = nothing_closes before now e.last e.closed in (
      e.gained_is ∙ ap (λ l. answers e.answered ++ e.behind.cut ++ l) none ∙ append-nil (answers e.answered ++ e.behind.cut)
          ∙ ap (λ c. answers e.answered ++ c) e.by.none_cut ∙ append-nil (answers e.answered) ∙ ap answers are,
      subst (λ (turns : List Turn). EachImage new.state (λ image. StandsFor image (after_turns first turns).published)) are p.behind,
      e.by.at_end,
    )

pub done : (tells : Bool) (begins : Machine → Type 0) (before now : ℕ) (ended : Type 0) (old new : DiskView) (script gained : Bytes) (first : Machine)
    → Ends Done tells begins all_shown (Closes before now) ended old new script gained → IsTrue tells → begins first
    → (gained ≡ output_by first script) × EachImage new.state (λ image. StandsFor image (after_script first script).published) × ended
done tells begins before now ended old new script gained first e told b = by_ending e.ending e.status_is e.ends
  where
    by_ending : (ending : Result Unit RunStop) → Done ≡ status_of ending → EndsFrom 0 ending tells begins all_shown (Closes before now) ended old new script gained
        → (gained ≡ output_by first script) × EachImage new.state (λ image. StandsFor image (after_script first script).published) × ended
    by_ending (Ok x) is e = done_from tells begins before now ended old new script gained first e told b
    by_ending (Err stops.Usage) is e = absurd cc
    by_ending (Err stops.ReadFault) is e = absurd cc
    by_ending (Err stops.WriteFault) is e = absurd cc
    by_ending (Err stops.DiskFault) is e = absurd cc
    by_ending (Err (stops.BadMark height)) is e = absurd cc
    by_ending (Err (stops.BadPage number)) is e = absurd cc
    by_ending (Err (stops.LongLine number)) is e = absurd cc
    by_ending (Err stops.ManyLines) is e = absurd cc
    by_ending (Err stops.Memory) is e = absurd cc

-- ---- a run where nothing fails

abbrev as_ending : RunStop → Result Unit RunStop
as_ending stop = Err stop

pub complete : (stop : RunStop) (tells : Bool) (begins : Machine → Type 0) (closes : Closing) (ended : Type 0) (old new : DiskView) (first : Machine) (script taken gained : Bytes) (known : Option Bytes)
    → EndsFrom 0 (Err stop) tells begins all_shown closes ended old new taken gained → IsTrue tells → begins first → Consumes (Some script) known taken → AreWithinLimits (lines script)
    → (as_ending stop ≡ as_ending stops.Usage → ⊥) → (as_ending stop ≡ as_ending stops.ReadFault → ⊥) → (as_ending stop ≡ as_ending stops.WriteFault → ⊥) → (as_ending stop ≡ as_ending stops.DiskFault → ⊥)
    → (status_of (Err stop) ≡ Done) ⊎ (status_of (Err stop) ≡ Memory)
complete stop tells begins closes ended old new first script taken gained None e told b from within usage read write disk = absurd from
complete stop tells begins closes ended old new first script taken gained (Some left) e told b from within usage read write disk = by_stop stop e usage read write disk
  where
    limits : AreWithinLimits (lines (taken ++ left))
    limits = subst (λ (s : Bytes). AreWithinLimits (lines s)) from within

    by_stop : (stop : RunStop) → EndsFrom 0 (Err stop) tells begins all_shown closes ended old new taken gained
        → (as_ending stop ≡ as_ending stops.Usage → ⊥) → (as_ending stop ≡ as_ending stops.ReadFault → ⊥) → (as_ending stop ≡ as_ending stops.WriteFault → ⊥) → (as_ending stop ≡ as_ending stops.DiskFault → ⊥)
        → (status_of (Err stop) ≡ Done) ⊎ (status_of (Err stop) ≡ Memory)
    by_stop stops.Usage e usage read write disk = absurd (usage refl)
    by_stop stops.ReadFault e usage read write disk = absurd (read refl)
    by_stop stops.WriteFault e usage read write disk = absurd (write refl)
    by_stop stops.DiskFault e usage read write disk = absurd (disk refl)
    by_stop (stops.BadMark height) e usage read write disk = absurd (e.plays told first b).behind
    by_stop (stops.BadPage number) e usage read write disk = absurd (e.plays told first b).behind
    by_stop (stops.LongLine number) e usage read write disk = absurd (not_long tells begins all_shown closes ended old new taken gained number left limits e)
    by_stop stops.ManyLines e usage read write disk = absurd (not_many tells begins all_shown closes ended old new taken gained left limits e)
    by_stop stops.Memory e usage read write disk = inr refl

-- ---- an empty disk

none_there : (image : Files) → IsImageNow (disk_of_files (λ _. None)) image → (n : ℕ) → image (name.Mark n) ≡ None
none_there image (inl shows) n = shows.firm (name.Mark n) refl
none_there image (inr never) n = absurd never

pub empty_stands : EachImage (disk_of_files (λ _. None)) (λ image. StandsFor image [])
empty_stands image now = record {
  marks = record { ascending = λ k h. absurd (omega (arith, h)); each = λ n. rw (none_there image now n) refl };
  few = omega arith;
  versions = tt;
  each = tt;
}
