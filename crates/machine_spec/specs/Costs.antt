-- How many bytes a line appends to the disk, and how many it reads at most.
use Rattle.std.specs.Prelude.{ℕ, ◌*◌, ◌||◌, if◌then◌else◌, nat_le, length, sum_by, Option, None}
use Rattle.std.specs.List.{last_or}
use Rattle.std.specs.Option.{option_map_or}
use Rattle.format_spec.specs.declared.limits.TheConstants.{PAGE_SIZE, MAX_PUBLISHED}
use Rattle.state_spec.specs.State.{State, system_of, memory_bytes}
use Rattle.state_spec.specs.Memory.{pages_holding}
use Rattle.state_spec.specs.SystemText.{system_text}
use Rattle.store_spec.specs.Whole.{whole_length}
use Rattle.script_text.specs.declared.command.Command.{Command}
use Rattle.script_text.specs.declared.command.Command.TheVariants.{Read, Checkpoint, Reset, Scratch}
use Rattle.script_text.specs.declared.command.HeightOrLive.{HeightOrLive}
use Rattle.script_text.specs.declared.command.HeightOrLive.TheVariants.{Live, Height}
use Rattle.script_text.specs.declared.reply.Reply.{Reply}
use Rattle.script_text.specs.declared.reply.Reply.TheVariants.{Bytes}
use Rattle.machine_spec.specs.LiveSteps.{read_reply}
use Rattle.machine_spec.specs.Machine.{Machine, published_at}
use Rattle.machine_spec.specs.StoreSteps.{is_low, is_newest}

-- a published height of which all is written: a page file a memory that isn't empty, and the mark
unfoldable pub whole_bytes : State → ℕ
whole_bytes s = whole_length s.version (length (system_text (system_of s))) (memory_bytes s)

-- a checkpoint writes the newest height in memory, where it isn't refused
abbrev pub checkpoint_bytes : Machine → ℕ
checkpoint_bytes m = option_map_or (λ k.
    if is_low k.0 m.published || nat_le MAX_PUBLISHED (length m.published) then 0 else whole_bytes k.1)
    (last_or None m.memory) 0

-- the bytes that a line appends
abbrev pub appends : Machine → Command → ℕ
appends m Checkpoint = checkpoint_bytes m
appends m command = 0

-- the state that a line asks about, where its height is published: its bytes are on the disk then
abbrev pub on_disk : Machine → HeightOrLive → Option State
on_disk m Live = None
on_disk m (Height h) = published_at h m.published

-- the bytes of all memories
abbrev pub all_bytes : State → ℕ
all_bytes s = sum_by (λ bytes. length bytes) (memory_bytes s)

-- the pages that hold the bytes that a reply tells, and none where it tells none
abbrev pub pages_told : Reply → ℕ → ℕ → ℕ
pages_told (Bytes bytes) offset len = pages_holding offset len
pages_told reply offset len = 0

-- The bytes that a line reads at most: of a published height `read` reads the pages with the bytes that it tells, `scratch` all, and
-- `reset` all of the newest. No other line reads, and none that is refused.
abbrev pub reads : Machine → Command → ℕ
reads m (Read at id mem offset len) =
    option_map_or (λ s. PAGE_SIZE * pages_told (read_reply s id mem offset len) offset len) (on_disk m at) 0
reads m (Scratch at) = option_map_or all_bytes (on_disk m at) 0
reads m (Reset height) = if is_newest height m.published then option_map_or all_bytes (published_at height m.published) 0 else 0
reads m command = 0
