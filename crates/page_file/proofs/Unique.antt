-- A file is opened and read in one way only.
use Rattle.std.proofs.Common.{◌≡◌, ℕ, Result, Ok, Err, IsErrOf, refl, sym, ◌∙◌, ap, subst}
use Rattle.format_spec.specs.Bytes.{Bytes}
use Rattle.page_spec.specs.PageFile.{PageIndex, IsPageFile}
use Rattle.page_spec.proofs.PageFiles.{page_file_once}
use Rattle.disk_model.specs.Files.{Files}
use Rattle.page_file.specs.declared.error.PageError.{PageError}
use Rattle.page_file.specs.declared.error.PageError.TheVariants.{BadPage, Fault, Memory}
use Rattle.page_file.specs.Errors.{IsAnswered}
use Rattle.page_file.specs.Files.{NumberedFile, HasPages, IsAsKnown, Opens, ReadsAs}
use Rattle.page_file.proofs.Opened.{same_text}

-- what was opened is the only index of that file
pub only_index : (files : Files) (number n : ℕ) (kept i : PageIndex) (pages : Bytes) → n ≡ number → (p : Bytes) × HasPages files n kept p → HasPages files number i pages → i ≡ kept
only_index files number n kept i pages is has other =
    (page_file_once other.text i kept pages has.0 other.good (subst (λ text. IsPageFile text kept has.0) (same_text files n number has.1.text other.text is has.1.there other.there) has.1.good)).0

pub named_as : (n m : ℕ) → IsErrOf {T = NumberedFile} (Err (BadPage n)) (BadPage m) → m ≡ n
named_as n m is = cc

module _ (files : Files) (n : ℕ) where
  pub same_file : (f g : NumberedFile) → f.number ≡ n → g.number ≡ n → IsAsKnown files f → IsAsKnown files g → f ≡ g
  same_file f g is_f is_g kept_f kept_g =
      let same = is_g ∙ sym is_f in
      let index = only_index files f.number g.number g.index f.index kept_f.0 same kept_g kept_f.1 in
      λ i. record { number = sym same i; index = index i }

  not_bad : (f : NumberedFile) → f.number ≡ n → IsAsKnown files f → ((i : PageIndex) (pages : Bytes) → HasPages files n i pages → ⊥) → ⊥
  not_bad f is kept bad = bad f.index kept.0 (subst (λ (m : ℕ). HasPages files m f.index kept.0) is kept.1)

  pub open_once : (one other : Result NumberedFile PageError) → Opens files n one → Opens files n other → IsAnswered one → IsAnswered other → one ≡ other
  open_once (Ok f) (Ok g) a b _ _ = ap Ok (same_file f g a.same_number b.same_number a.opened b.opened)
  open_once (Ok f) (Err (BadPage m)) a b _ _ = absurd (not_bad f a.same_number a.opened (b.bad m refl))
  open_once (Err (BadPage m)) (Ok g) a b _ _ = absurd (not_bad g b.same_number b.opened (a.bad m refl))
  open_once (Err (BadPage m)) (Err (BadPage k)) a b _ _ = ap (λ (j : ℕ). Err (BadPage j)) (a.named m refl ∙ sym (b.named k refl))
  open_once (Err Fault) other a b free _ = absurd free
  open_once (Err Memory) other a b free _ = absurd free
  open_once (Ok f) (Err Fault) a b _ free = absurd free
  open_once (Ok f) (Err Memory) a b _ free = absurd free
  open_once (Err (BadPage m)) (Err Fault) a b _ free = absurd free
  open_once (Err (BadPage m)) (Err Memory) a b _ free = absurd free

pub read_once : (files : Files) (file : NumberedFile) (place : ℕ) (one other : Bytes) → IsAsKnown files file → ReadsAs files file place one → ReadsAs files file place other → one ≡ other
read_once files file place one other kept a b = a kept.0 kept.1 ∙ sym (b kept.0 kept.1)
