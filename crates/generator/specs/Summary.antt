-- The four lines that are written for a generated script in place of its replies.
use Rattle.std.specs.Prelude.{◌≡◌, ℕ, ◌-◌, ◌^◌, min, Bool, List, [], ◌∷◌, ◌++◌, length, count_by, slice_index_or, nat_eq, codes, decimal}
use Rattle.std.specs.List.{flat_map, starts_with}
use Rattle.hex.specs.Hex.{encode_lower}
use Rattle.sha2.specs.Sha256.{sha256}
use Rattle.sha2.specs.Hashers.{Holds256}
use Rattle.format_spec.specs.Bytes.{Bytes}
use Rattle.generator.specs.declared.summary.Summary.{Summary}

-- replies, each with its line feed
abbrev pub text_of_replies : List Bytes → Bytes
text_of_replies replies = flat_map (λ reply. reply ++ 10 ∷ []) replies

abbrev pub is_refusal : Bytes → Bool
is_refusal reply = starts_with nat_eq reply (codes "refused")

abbrev pub count_refused : List Bytes → ℕ
count_refused replies = count_by is_refusal replies

-- the reply of `root live`, which is the last line but one
abbrev pub root_reply : List Bytes → Bytes
root_reply replies = slice_index_or replies (length replies - 2) []

-- the four lines for these replies
abbrev pub summary_lines : List Bytes → List Bytes
summary_lines replies =
    (codes "lines " ++ decimal (length replies))
    ∷ (codes "refused " ++ decimal (count_refused replies))
    ∷ (codes "digest " ++ encode_lower (sha256 (text_of_replies replies)))
    ∷ root_reply replies
    ∷ []

-- these lines as they are written
abbrev pub summary_text : List Bytes → Bytes
summary_text replies = text_of_replies (summary_lines replies)

-- a name, what is told under it, and a line feed
abbrev pub named : Bytes → Bytes → Bytes
named name told = name ++ told ++ codes "\n"

-- the same in pieces, by two counts, a hash in hexadecimal and a reply
abbrev pub pieces : ℕ → ℕ → Bytes → Bytes → Bytes
pieces lines refused digits root =
    named (codes "lines ") (decimal lines) ++ named (codes "refused ") (decimal refused)
    ++ named (codes "digest ") digits ++ named [] root

-- the summary took these replies; its counts stop at the end of their type
pub record HasTaken (summary : Summary) (replies : List Bytes) : Type 0 where
  pub lines_are : summary.lines ≡ min (length replies) (2 ^ 64 - 1)
  pub refused_are : summary.refused ≡ min (count_refused replies) (2 ^ 64 - 1)
  pub hashed : Holds256 summary.hasher (text_of_replies replies)
