-- The steps of lines on the live state. Refusals stand in the order in which they are looked at.
use Rattle.std.specs.Prelude.{ℕ, ◌+◌, ◌-◌, ◌*◌, ◌&&◌, not, nat_le, nat_lt, List, [], ◌∷◌, length, is_some, Option, Some, None, if◌then◌else◌}
use Rattle.std.specs.FinMap.{find, put}
use Rattle.format_spec.specs.Bytes.{Bytes, path_cmp}
use Rattle.format_spec.specs.declared.limits.TheConstants.{PAGE_SIZE, MAX_CANISTERS, MAX_ENTRIES}
use Rattle.format_spec.specs.Versions.{memory_limit, state_limit}
use Rattle.state_spec.specs.State.{State, Canister, Memory, pages_of, is_reserved, has_conflict, without}
use Rattle.state_spec.specs.Memory.{read, grow, write}
use Rattle.sys_state.specs.declared.mem.Mem.{Mem}
use Rattle.script_text.specs.declared.command.HeightOrLive.{HeightOrLive}
use Rattle.script_text.specs.declared.reply.Refusal.TheVariants.{Exists, ManyCanisters, NoCanister, MemoryFull, StateFull}
use Rattle.script_text.specs.declared.reply.Refusal.TheVariants.{Reserved, PathConflict, TreeFull, NoPath, PastEnd}
use Rattle.script_text.specs.declared.reply.Reply.{Reply}
use Rattle.script_text.specs.declared.reply.Reply.TheVariants as replies
use Rattle.machine_spec.specs.Machine.{Machine, Outcome, outcome_of, unless, on_canister, on_state, now_live}
use Rattle.machine_spec.specs.States.{canister_in, with_canister, without_canister, newborn, memory_of, with_memory}
use Rattle.machine_spec.specs.States.{pages_with, state_pages}

-- `canister ID` adds an empty canister, born at the live height
abbrev pub canister_step : Machine → Bytes → Outcome
canister_step m id =
    unless (
    (is_some (canister_in m.live id), Exists)
    ∷ (nat_le MAX_CANISTERS (length m.live.canisters), ManyCanisters)
    ∷ []
    ) m (λ m. now_live m (with_canister m.live id (newborn m.height)))

-- `drop ID` removes it
abbrev pub drop_step : Machine → Bytes → Outcome
drop_step m id = on_canister m id (λ c. now_live m (without_canister m.live id))

-- `grow ID MEM N` adds N pages of zeros
abbrev pub grow_step : Machine → Bytes → Mem → ℕ → Outcome
grow_step m id mem n = on_canister m id (λ c.
    unless (
    (nat_lt (memory_limit m.live.version) (pages_of (memory_of c mem) + n), MemoryFull)
    ∷ (nat_lt (state_limit m.live.version) (state_pages m.live + n), StateFull)
    ∷ []
    ) m (λ m. now_live m (with_canister m.live id (with_memory c mem (grow (memory_of c mem) n)))))

-- `write ID MEM OFFSET HEX` writes, and a memory grows to the page of the last byte written
abbrev pub write_step : Machine → Bytes → Mem → ℕ → Bytes → Outcome
write_step m id mem at bytes = on_canister m id (λ c.
    let old = memory_of c mem in
    unless (
    (nat_lt (memory_limit m.live.version * PAGE_SIZE) (at + length bytes), MemoryFull)
    ∷ (nat_lt (state_limit m.live.version) (state_pages m.live + (pages_with old at (length bytes) - pages_of old)), StateFull)
    ∷ []
    ) m (λ m. now_live m (with_canister m.live id (with_memory c mem (write m.height old at bytes)))))

-- `module ID HEX` installs a module, `module ID none` removes it
abbrev pub module_step : Machine → Bytes → Option Bytes → Outcome
module_step m id wasm = on_canister m id (λ c. now_live m (with_canister m.live id (record c { wasm = wasm })))

-- `certify ID HEX` sets the certified data
abbrev pub certify_step : Machine → Bytes → Bytes → Outcome
certify_step m id bytes =
    on_canister m id (λ c. now_live m (with_canister m.live id (record c { certified = bytes })))

-- `time N` sets the time
abbrev pub time_step : Machine → ℕ → Outcome
time_step m n = now_live m (record m.live { time = n })

-- `put PATH HEX` sets an entry
abbrev pub put_step : Machine → List Bytes → Bytes → Outcome
put_step m path value =
    unless (
    (is_reserved path, Reserved)
    ∷ (has_conflict m.live.entries path, PathConflict)
    ∷ (not (is_some (find path_cmp path m.live.entries)) && nat_le MAX_ENTRIES (length m.live.entries), TreeFull)
    ∷ []
    ) m (λ m. now_live m (record m.live { entries = put path_cmp path value m.live.entries }))

-- `del PATH` removes an entry
abbrev pub del_step : Machine → List Bytes → Outcome
del_step m path =
    unless (
    (not (is_some (find path_cmp path m.live.entries)), NoPath)
    ∷ []
    ) m (λ m. now_live m (record m.live { entries = without path_cmp path m.live.entries }))

-- what is told of bytes of a memory
abbrev pub reply_of_bytes : Memory → ℕ → ℕ → Reply
reply_of_bytes memory from n =
    if nat_lt (length memory.bytes) (from + n) then replies.Refused PastEnd else replies.Bytes (read memory from n)

-- of those of a canister, if there is one
abbrev pub reply_of_canister : Option Canister → Mem → ℕ → ℕ → Reply
reply_of_canister None mem from n = replies.Refused NoCanister
reply_of_canister (Some c) mem from n = reply_of_bytes (memory_of c mem) from n

-- what `read` answers of a state
abbrev pub read_reply : State → Bytes → Mem → ℕ → ℕ → Reply
read_reply s id mem from n = reply_of_canister (canister_in s id) mem from n

-- `read HL ID MEM OFFSET LEN` answers bytes
abbrev pub read_step : Machine → HeightOrLive → Bytes → Mem → ℕ → ℕ → Outcome
read_step m at id mem from n = on_state m at (λ s. outcome_of (read_reply s id mem from n) m)
