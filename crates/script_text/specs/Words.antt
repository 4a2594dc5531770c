-- The words of a line: numbers, hexadecimal bytes, ids, hashes, memories, heights and paths.
use Rattle.std.specs.Prelude.{ℕ, ◌^◌, Bool, false, not, ◌&&◌, ◌||◌, ◌==◌, nat_lt, nat_le, if◌then◌else◌, List, [], ◌∷◌}
use Rattle.std.specs.Prelude.{length, drop, nat_eq, Option, Some, None, codes}
use Rattle.std.specs.List.{list_all, slice_split, starts_with}
use Rattle.std.specs.Option.{option_map, option_and_then}
use Rattle.std.specs.Str.{bytes_eq}
use Rattle.std.specs.Str.Parse.{digits_value}
use Rattle.format_spec.specs.Bytes.{Bytes}
use Rattle.format_spec.specs.declared.limits.TheConstants.{HASH_SIZE, MAX_HEIGHT, MAX_MODULE, MAX_PATHS}
use Rattle.state_spec.specs.State.{is_id, is_label, is_path}
use Rattle.byte_codec.specs.Hex.{bytes_of_hex}
use Rattle.sys_state.specs.declared.mem.Mem.{Mem}
use Rattle.sys_state.specs.declared.mem.Mem.TheVariants.{Heap, Stable}
use Rattle.script_text.specs.declared.command.HeightOrLive.{HeightOrLive}
use Rattle.script_text.specs.declared.command.HeightOrLive.TheVariants.{Live, Height}

-- the value, where it passes the test
abbrev pub such_that : {A : Type 0} → (A → Bool) → Option A → Option A
such_that test None = None
such_that test (Some x) = if test x then Some x else None

-- a decimal digit, `0` to `9`
abbrev pub is_digit : ℕ → Bool
is_digit byte = nat_le 48 byte && nat_le byte 57

-- decimal digits without a leading zero, or `0`
abbrev pub is_number : Bytes → Bool
is_number [] = false
is_number (first ∷ rest) = list_all is_digit (first ∷ rest) && (not (first == 48) || length rest == 0)

-- a number below 2 ^ 64
abbrev pub number_of : Bytes → Option ℕ
number_of word = such_that (λ n. nat_lt n (2 ^ 64)) (if is_number word then Some (digits_value 10 word) else None)

-- a number that is at most this
abbrev pub number_up_to : ℕ → Bytes → Option ℕ
number_up_to most word = such_that (λ n. nat_le n most) (number_of word)

-- bytes in hexadecimal, or `-` for none
abbrev pub hex_of : Bytes → Option Bytes
hex_of [] = None
hex_of (first ∷ rest) = if bytes_eq (first ∷ rest) (codes "-") then Some [] else bytes_of_hex (first ∷ rest)

-- an id, in hexadecimal
abbrev pub id_of : Bytes → Option Bytes
id_of word = such_that is_id (bytes_of_hex word)

-- a hash: 32 bytes in hexadecimal
abbrev pub hash_of : Bytes → Option Bytes
hash_of word = such_that (λ bytes. length bytes == HASH_SIZE) (bytes_of_hex word)

abbrev pub mem_of : Bytes → Option Mem
mem_of word =
    if bytes_eq word (codes "heap") then Some Heap
    else if bytes_eq word (codes "stable") then Some Stable
    else None

-- a height, 1 to 2 ^ 62
abbrev pub height_of : Bytes → Option ℕ
height_of word = such_that (λ n. nat_le 1 n && nat_le n MAX_HEIGHT) (number_of word)

abbrev pub height_or_live : Bytes → Option HeightOrLive
height_or_live word = if bytes_eq word (codes "live") then Some Live else option_map Height (height_of word)

-- at most so many bytes in hexadecimal
abbrev pub hex_up_to : ℕ → Bytes → Option Bytes
hex_up_to most word = such_that (λ bytes. nat_le (length bytes) most) (hex_of word)

-- a module in hexadecimal, or `none`
abbrev pub module_of : Bytes → Option (Option Bytes)
module_of word =
    if bytes_eq word (codes "none") then Some None
    else option_map (λ bytes. Some bytes) (hex_up_to MAX_MODULE word)

-- ---- paths

-- a letter, a digit, `_`, `-` or `.`
abbrev pub is_label_byte : ℕ → Bool
is_label_byte byte =
    (nat_le 97 byte && nat_le byte 122) || (nat_le 65 byte && nat_le byte 90)
    || is_digit byte || byte == 95 || byte == 45 || byte == 46

abbrev pub plain_label : Bytes → Option Bytes
plain_label word = if is_label word && list_all is_label_byte word then Some word else None

-- a label in hexadecimal behind `0x`, or as it is
abbrev pub label_of : Bytes → Option Bytes
label_of word =
    if starts_with nat_eq word (codes "0x") then such_that is_label (bytes_of_hex (drop 2 word)) else plain_label word

-- one more in front
abbrev pub onto : {A : Type 0} → A → Option (List A) → Option (List A)
onto x None = None
onto x (Some xs) = Some (x ∷ xs)

-- each word read, where each can be
abbrev pub each_of : {A : Type 0} → (Bytes → Option A) → List Bytes → Option (List A)
each_of read [] = Some []
each_of read (word ∷ rest) = option_and_then (λ x. onto x (each_of read rest)) (read word)

-- nothing before the first `/`, and 1 to 8 labels
abbrev pub path_by : Bytes → List Bytes → Option (List Bytes)
path_by [] words = such_that is_path (each_of label_of words)
path_by (byte ∷ bytes) words = None

abbrev pub path_of_parts : List Bytes → Option (List Bytes)
path_of_parts [] = None
path_of_parts (first ∷ rest) = path_by first rest

-- a `/` is 47
abbrev pub path_of : Bytes → Option (List Bytes)
path_of word = path_of_parts (slice_split (λ byte. byte == 47) word)

-- one line may ask for so many paths
abbrev pub is_path_count : ℕ → Bool
is_path_count count = nat_le 1 count && nat_le count MAX_PATHS

-- each word read as a path, where they are 1 to 64
abbrev pub paths_of : List Bytes → Option (List (List Bytes))
paths_of words = such_that (λ paths. is_path_count (length paths)) (each_of path_of words)
