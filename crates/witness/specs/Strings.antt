-- The length in the head of a byte string, apart from the bytes behind it.
use Rattle.std.specs.Prelude.{ℕ, ◌-◌, ◌^◌, ◌==◌, ◌&&◌, nat_le, nat_lt, Option, Some, None, if◌then◌else◌}
use Rattle.std.specs.Int.{w16, w32, w64}
use Rattle.format_spec.specs.Fields.{Form, byte, number, nothing}

-- not below least
abbrev pub not_below : ℕ → Option (ℕ × ℕ) → Option (ℕ × ℕ)
not_below least None = None
not_below least (Some n) = if nat_lt n.0 least then None else Some n

-- behind the first byte of a head
abbrev pub length_behind : ℕ → Form ℕ
length_behind head s =
    if nat_le 0x40 head && nat_lt head 0x58 then nothing (head - 0x40) s
    else if head == 0x58 then not_below 24 (byte s)
    else if head == 0x59 then not_below (2 ^ 8) (number w16 s)
    else if head == 0x5a then not_below (2 ^ 16) (number w32 s)
    else if head == 0x5b then not_below (2 ^ 32) (number w64 s)
    else None
