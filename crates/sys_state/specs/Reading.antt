-- What a call that reads a system text gave, against the reading that it stands for.
use Rattle.std.specs.Prelude.{◌≡◌, ◌==◌, ℕ, codes, Result, Ok, Err}
use Rattle.std.specs.Int.{w32, w64}
use Rattle.format_spec.specs.Fields.{Reading, ◌>>=◌, field, number, magic, any}
use Rattle.sys_state.specs.declared.error.SysError.{SysError}
use Rattle.sys_state.specs.declared.error.SysError.TheVariants as errors

-- the name, the version and the time
unfoldable pub head : Reading ℕ
head = do
  _ ← magic (codes "ICSY")
  _ ← field (number w32) (λ one. one == 1)
  field (number w64) any

-- memory ran out, or the place is that of the first bad field
abbrev pub Fails : {X : Type 0} → SysError → Result X ℕ → Type 0
Fails errors.Memory read = Unit {0}
Fails (errors.BadSystem place) read = read ≡ Err place
Fails _ read = ⊥

-- the value, seen by view
abbrev pub Gives : {X Y : Type 0} → (X → Y) → Result X SysError → Result Y ℕ → Type 0
Gives view (Ok x) read = read ≡ Ok (view x)
Gives view (Err e) read = Fails e read
