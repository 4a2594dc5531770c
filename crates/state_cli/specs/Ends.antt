-- How a run ends.
use Rattle.std.specs.Prelude.{◌≡◌, ◌⊎◌, ℕ, ◌+◌, ◌≤◌, ◌<◌, Bool, IsTrue, List, [], ◌∷◌, ◌++◌, length, Result, Ok, Err}
use Rattle.std.specs.List.{AllByRecursion}
use Rattle.format_spec.specs.Bytes.{Bytes}
use Rattle.format_spec.specs.declared.limits.TheConstants.{MAX_LINE, MAX_LINES}
use Rattle.io_edge.specs.Faults.{IsProperPrefix, Rose}
use Rattle.store_spec.specs.Image.{Published, StandsFor, Opens}
use Rattle.disk_model.specs.Files.{Files}
use Rattle.disk_model.specs.State.{DiskState}
use Rattle.disk_model.specs.View.{DiskView, EachImage, LeavesOnly}
use Rattle.height_store.specs.Bad.{IsFirstBadMark, IsFirstBadPage}
use Rattle.height_store.specs.Kept.{StandsForEither}
use Rattle.machine_spec.specs.Answers.{Turn, lines_of, answer, answers, after_turns, FitsLine, Plays}
use Rattle.machine_spec.specs.Machine.{Machine, start}
use Rattle.script_text.specs.Commands.{parsed_line}
use Rattle.script_text.specs.Endings.{status_of, closing_text}
use Rattle.script_text.specs.Script.{lines, text_of_lines, IsLine, IsShort}
use Rattle.script_text.specs.declared.ending.RunStop.{RunStop}
use Rattle.script_text.specs.declared.ending.RunStop.TheVariants as stops
use Rattle.script_text.specs.declared.status.Status.{Status}
use Rattle.script_text.specs.declared.status.Status.TheVariants.{Usage, DiskFault, BadRoot, Memory}

-- ---- what is written

-- how `closes` relates a last line and what is written of it
abbrev pub Closing : Type 1
Closing = Bytes → Bytes → Type 0

-- the last line is written, or a part of it where the sink failed
abbrev pub Closes : ℕ → ℕ → Closing
Closes faults_before faults_now text written =
    (written ≡ text) ⊎ (IsProperPrefix written text × Rose faults_before faults_now)

-- no last line is written yet
abbrev pub IsOpen : Closing
IsOpen text written = written ≡ []

-- the last line of a run; one that came to the end of its script has none
abbrev pub last_line : Result Unit RunStop → Bytes
last_line (Ok done) = []
last_line (Err stop) = closing_text stop

-- each reply is shown as it is
abbrev pub all_shown : Bytes → Bytes
all_shown text = text

-- ---- what is taken

-- a turn with a line within the limits, and with a reply exactly where that is a command
pub record IsTurn (turn : Turn) : Type 0 where
  pub one : IsLine turn.line
  pub short : IsShort turn.line
  pub replied : FitsLine (parsed_line turn.line) turn.reply

-- what is lacking of a script: the line feed of its last line, where the source has ended, or nothing
abbrev pub IsLacking : Type 0 → Bytes → Bytes → Type 0
IsLacking ended script lacking = (lacking ≡ []) ⊎ ((lacking ≡ 10 ∷ []) × (lines (script ++ 10 ∷ []) ≡ lines script) × ended)

-- what there is behind the lines that are answered
pub record Behind : Type 0 where
  -- the line that was taken whole and begun, if there is one
  pub begun : List Turn
  -- the bytes of the script behind the lines answered
  pub part : Bytes
  -- the line feed that the end of the script lacks
  pub lacking : Bytes
  -- what is written of the answer to the line begun
  pub cut : Bytes

-- no line is begun, and each that is answered has its line feed
pub record IsBetween (behind : Behind) : Type 0 where
  pub none_begun : behind.begun ≡ []
  pub fed : behind.lacking ≡ []
  pub none_cut : behind.cut ≡ []

-- nothing is taken
pub record IsAtStart (count : ℕ) (behind : Behind) : Type 0 where
  pub between : IsBetween behind
  pub none : count ≡ 0
  pub nothing : behind.part ≡ []

-- every line is answered, and the source has ended
pub record IsThrough (ended : Type 0) (behind : Behind) : Type 0 where
  pub none_begun : behind.begun ≡ []
  pub nothing : behind.part ≡ []
  pub none_cut : behind.cut ≡ []
  pub at_end : ended

-- a part of one line is taken, of at most so many bytes, or nothing
pub record IsInLine (most count : ℕ) (behind : Behind) : Type 0 where
  pub between : IsBetween behind
  pub one : IsLine behind.part
  pub short : length behind.part ≤ most
  pub few : count + length (lines behind.part) ≤ MAX_LINES

-- one line more is taken with its line feed, or to the end of the source, and begun
pub record IsBegun (count : ℕ) (behind : Behind) (turn : Turn) : Type 0 where
  pub begun_is : behind.begun ≡ turn ∷ []
  pub part_is : behind.part ≡ turn.line ++ 10 ∷ []
  pub one : IsLine turn.line
  pub short : IsShort turn.line
  pub few : count < MAX_LINES

-- it stopped in this line, before its answer was written
pub record IsStopped (count : ℕ) (behind : Behind) : Type 0 where
  pub turn : Turn
  pub line : IsBegun count behind turn
  pub none_cut : behind.cut ≡ []

-- the line is done, and a front of its answer is written
pub record IsCut (shown : Bytes → Bytes) (count : ℕ) (behind : Behind) : Type 0 where
  pub turn : Turn
  pub line : IsBegun count behind turn
  pub replied : FitsLine (parsed_line turn.line) turn.reply
  pub front : IsProperPrefix behind.cut (shown (answer turn))

-- the line behind so many, of this number, goes past its limit, and no byte behind that is taken
pub record IsTooLong (number count : ℕ) (behind : Behind) : Type 0 where
  pub between : IsBetween behind
  pub one : IsLine behind.part
  pub long : length behind.part ≡ MAX_LINE + 1
  pub few : count < MAX_LINES
  pub number_is : number ≡ count + 1

-- there are as many lines as may be, and one byte behind them is taken
pub record AreTooMany (count : ℕ) (behind : Behind) : Type 0 where
  pub between : IsBetween behind
  pub all : count ≡ MAX_LINES
  pub one : length behind.part ≡ 1

-- Where a run ends that has answered so many lines. `tells` says whether the disk tells its files, which are these on entry;
-- `ended` says that the source has nothing left; `shown` gives what is shown of an answer.
abbrev pub EndsBy : Result Unit RunStop → Bool → Files → Type 0 → (Bytes → Bytes) → ℕ → Behind → Type 0
EndsBy (Ok done) tells files ended shown count behind = IsThrough ended behind
EndsBy (Err stops.Usage) tells files ended shown count behind = IsAtStart count behind
EndsBy (Err stops.ReadFault) tells files ended shown count behind = IsInLine MAX_LINE count behind
EndsBy (Err stops.WriteFault) tells files ended shown count behind = IsCut shown count behind
EndsBy (Err stops.DiskFault) tells files ended shown count behind = IsAtStart count behind ⊎ IsStopped count behind
EndsBy (Err (stops.BadMark height)) tells files ended shown count behind = IsAtStart count behind × (IsTrue tells → IsFirstBadMark files height)
EndsBy (Err (stops.BadPage number)) tells files ended shown count behind = IsAtStart count behind × (IsTrue tells → IsFirstBadPage files number)
EndsBy (Err (stops.LongLine number)) tells files ended shown count behind = IsTooLong number count behind
EndsBy (Err stops.ManyLines) tells files ended shown count behind = AreTooMany count behind
EndsBy (Err stops.Memory) tells files ended shown count behind = IsInLine (MAX_LINE + 1) count behind ⊎ IsStopped count behind

-- ---- what the machine has to do with it

-- each image of the disk stands for these heights, from which the machine begins
pub record StandsAs (s : DiskState) (first : Machine) : Type 0 where
  pub heights : List Published
  pub first_is : first ≡ start heights
  pub each : EachImage s (λ image. StandsFor image heights)

-- the files stand for the heights after some front of these turns
pub record StandsAfterSome (first : Machine) (turns : List Turn) (image : Files) : Type 0 where
  pub front : List Turn
  pub others : List Turn
  pub turns_are : turns ≡ front ++ others
  pub stands : StandsFor image (after_turns first front).published

-- What each image stands for now, behind a machine that has answered, by the line begun: where its answer is cut, for the heights
-- after it, and its reply is the machine's; where it stopped, for those before it or after it. A disk that stands for heights opens.
abbrev pub PlaysBehind : Result Unit RunStop → Machine → List Turn → DiskState → Type 0
PlaysBehind (Err stops.WriteFault) m begun s = Plays m begun × EachImage s (λ image. StandsFor image (after_turns m begun).published)
PlaysBehind (Err stops.DiskFault) m begun s = EachImage s (StandsForEither m.published (after_turns m begun).published)
PlaysBehind (Err stops.Memory) m begun s = EachImage s (StandsForEither m.published (after_turns m begun).published)
PlaysBehind (Err (stops.BadMark height)) m begun s = ⊥
PlaysBehind (Err (stops.BadPage number)) m begun s = ⊥
PlaysBehind ending m begun s = EachImage s (λ image. StandsFor image m.published)

-- The replies are those of a machine that begins with this one. A crash at any moment since the start leaves the heights after
-- some front of the lines answered or begun.
pub record PlaysOn (ending : Result Unit RunStop) (first : Machine) (old new : DiskView) (answered begun : List Turn) : Type 0 where
  pub replies : Plays first answered
  pub behind : PlaysBehind ending (after_turns first answered) begun new.state
  pub moments : LeavesOnly old new (StandsAfterSome first (answered ++ begun))

-- ---- all of it

-- A run of a script ends, which begins behind so many lines, and gives these bytes. `begins` says with which machines it may begin.
pub record EndsFrom (before : ℕ) (ending : Result Unit RunStop) (tells : Bool) (begins : Machine → Type 0) (shown : Bytes → Bytes) (closes : Closing) (ended : Type 0) (old new : DiskView) (script gained : Bytes) : Type 0 where
  pub answered : List Turn
  pub behind : Behind
  pub last : Bytes
  pub script_is : script ++ behind.lacking ≡ text_of_lines (lines_of answered) ++ behind.part
  pub gained_is : gained ≡ shown (answers answered) ++ behind.cut ++ last
  pub turns : AllByRecursion IsTurn answered
  pub few : before + length answered ≤ MAX_LINES
  pub lacks : IsLacking ended script behind.lacking
  pub by : EndsBy ending tells old.state.files ended shown (before + length answered) behind
  pub closed : closes (last_line ending) last
  pub plays : IsTrue tells → (first : Machine) → begins first → PlaysOn ending first old new answered behind.begun

-- A run of a script ends by this status.
pub record Ends (status : Status) (tells : Bool) (begins : Machine → Type 0) (shown : Bytes → Bytes) (closes : Closing) (ended : Type 0) (old new : DiskView) (script gained : Bytes) : Type 0 where
  pub ending : Result Unit RunStop
  pub status_is : status ≡ status_of ending
  pub ends : EndsFrom 0 ending tells begins shown closes ended old new script gained

-- ---- disks that don't open

-- it stopped before the first line
abbrev pub IsUnbegun : {T : Type 0} → Result T RunStop → Type 0
IsUnbegun (Err stops.Usage) = Unit {0}
IsUnbegun (Err (stops.BadMark height)) = Unit {0}
IsUnbegun (Err (stops.BadPage number)) = Unit {0}
IsUnbegun result = ⊥

-- the files open, or the run stopped before it read
abbrev pub OpensBy : Status → Files → Type 0 → Type 0
OpensBy Usage files unread = unread
OpensBy BadRoot files unread = unread
OpensBy DiskFault files unread = Opens files ⊎ unread
OpensBy Memory files unread = Opens files ⊎ unread
OpensBy _ files unread = Opens files
