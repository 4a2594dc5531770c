-- What decoding gives.
use Rattle.std.specs.Prelude.{◌≡◌, ◌++◌, ℕ, List, Result, Ok, Err, map}
use Rattle.std.specs.List.{AllByRecursion}
use Rattle.sha2.specs.Sha256.{sha256}
use Rattle.format_spec.specs.Bytes.{Bytes}
use Rattle.state_spec.specs.State.{SystemPart}
use Rattle.state_spec.specs.Manifest.{manifest_from, file_sums}
use Rattle.state_spec.specs.Root.{root_of_meta, meta_of}
use Rattle.sys_state.specs.System.{System, part_of}
use Rattle.store_spec.specs.Mark.{Mark, MarkMemory, mark_body, IsMark, IsMarkText}
use Rattle.mark_file.specs.declared.error.MarkError.{MarkError}
use Rattle.mark_file.specs.declared.error.MarkError.TheVariants as errors
use Rattle.mark_file.specs.declared.error.Stop.{Stop}
use Rattle.mark_file.specs.declared.error.Stop.TheVariants as stops

-- the text spells this mark for the height, of some state's parts
abbrev pub Spells : ℕ → Bytes → Mark → Type 0
Spells height text m = (s : SystemPart) × IsMarkText height text m s

-- the mark that the text spells; where the mark is refused, by this height, there is none
abbrev pub Decodes : ℕ → Bytes → Result Mark MarkError → Type 0
Decodes height text (Ok m) = Spells height text m
Decodes height text (Err (errors.BadMark h)) = (h ≡ height) × ((m : Mark) → Spells height text m → ⊥)
Decodes height text (Err errors.Memory) = Unit {0}

-- the text spells this mark for the height, of a state with these parts, whose canisters were born at the height
pub record SpellsBoth (height : ℕ) (text : Bytes) (both : Mark × System) : Type 0 where
  pub mark : IsMarkText height text both.0 (part_of both.1)
  pub births : AllByRecursion (λ c. c.1.birth ≡ height) both.1.canisters

-- the same with the parts
abbrev pub DecodesBoth : ℕ → Bytes → Result (Mark × System) MarkError → Type 0
DecodesBoth height text (Ok both) = SpellsBoth height text both
DecodesBoth height text (Err (errors.BadMark h)) = (h ≡ height) × ((m : Mark) → Spells height text m → ⊥)
DecodesBoth height text (Err errors.Memory) = Unit {0}

-- want of memory didn't end the call
abbrev pub IsAnswered : {T : Type 0} → Result T MarkError → Type 0
IsAnswered (Err errors.Memory) = ⊥
IsAnswered result = Unit {0}

-- ---- on the way

-- something with this property, or there is no mark with that one
abbrev pub Reads : {X : Type 0} → (X → Type 0) → (Mark → Type 0) → Result X Stop → Type 0
Reads P Q (Ok x) = P x
Reads P Q (Err stops.Broken) = (m : Mark) → Q m → ⊥
Reads P Q (Err stops.Memory) = Unit {0}

-- the bytes before the hash at the end of a text
abbrev pub Hashed : {X : Type 0} → (X → Bytes) → Bytes → Result X Stop → Type 0
Hashed view text (Ok body) = text ≡ view body ++ sha256 (view body)
Hashed view text (Err stops.Broken) = (body : Bytes) → text ≡ body ++ sha256 body → ⊥
Hashed view text (Err stops.Memory) = ⊥

-- without the hash over it
pub record IsBody (height : ℕ) (body : Bytes) (m : Mark) (s : SystemPart) : Type 0 where
  pub spelled : body ≡ mark_body m
  pub good : IsMark m s
  pub of_height : m.height ≡ height

abbrev pub SpellsBody : ℕ → Bytes → Mark → Type 0
SpellsBody height body m = (s : SystemPart) × IsBody height body m s

pub record IsBothBody (height : ℕ) (body : Bytes) (both : Mark × System) : Type 0 where
  pub mark : IsBody height body both.0 (part_of both.1)
  pub births : AllByRecursion (λ c. c.1.birth ≡ height) both.1.canisters

-- the root hash of a state of this version with these parts, whose memories have these sums
abbrev pub root_from : ℕ → SystemPart → List MarkMemory → Bytes
root_from version s memories =
    root_of_meta (meta_of (manifest_from version (file_sums s (map (λ memory. memory.sums) memories))))
