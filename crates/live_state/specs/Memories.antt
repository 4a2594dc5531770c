-- The bytes of a memory, as growth and writes change them.
use Rattle.std.specs.Prelude.{ℕ, ◌+◌, ◌-◌, ◌*◌, ◌==◌, max, nat_lt, if◌then◌else◌, length, Option, Some}
use Rattle.format_spec.specs.Bytes.{Bytes}
use Rattle.format_spec.specs.declared.limits.TheConstants.{PAGE_SIZE}
use Rattle.format_spec.specs.Versions.{memory_limit}
use Rattle.state_spec.specs.Memory.{pages_for, with_zeros_up_to, with_bytes_at}
use Rattle.sys_state.specs.Calls.{extend_refusal}
use Rattle.sys_state.specs.System.{System}
use Rattle.sys_state.specs.declared.error.SysError.{SysError}
use Rattle.sys_state.specs.declared.error.SysError.TheVariants.{MemoryFull}
use Rattle.sys_state.specs.declared.mem.Mem.{Mem}

-- the pages that a write of n bytes at a place adds to a memory of so many pages
abbrev pub pages_more : ℕ → ℕ → ℕ → ℕ
pages_more pages at n = if n == 0 then 0 else max pages (pages_for (at + n)) - pages

-- the bytes once w is written, of a memory that grows to hold it
abbrev pub bytes_after_write : Bytes → ℕ → Bytes → Bytes
bytes_after_write memory at w =
    if length w == 0 then memory
    else with_bytes_at (with_zeros_up_to memory (pages_for (at + length w) * PAGE_SIZE)) at w

abbrev pub write_refusal : ℕ → System → Bytes → Mem → ℕ → ℕ → ℕ → Option SysError
write_refusal version s id mem pages at n =
    if nat_lt (memory_limit version * PAGE_SIZE) (at + n) then Some MemoryFull
    else extend_refusal version s id mem (pages_more pages at n)
