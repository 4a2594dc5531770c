-- A disk that is opened as it is asked.
use Rattle.std.proofs.Common.{◌≡◌, ℕ, List, Result, Ok, Err, Some, IsErrOf, IsErrAnd, IfOk, refl, sym, subst}
use Rattle.std.specs.List.{AllByRecursion}
use Rattle.format_spec.specs.Bytes.{Bytes}
use Rattle.store_spec.specs.Image.{Opens}
use Rattle.disk_model.specs.Files.{Files}
use Rattle.height_store.specs.declared.error.StoreError.{StoreError}
use Rattle.height_store.specs.declared.error.StoreError.TheVariants.{BadMark, BadPage}
use Rattle.height_store.specs.Bad.{IsFirstBadMark, IsFirstBadPage}
use Rattle.height_store.specs.Errors.{IsBadFile}
use Rattle.height_store.specs.Kept.{IsReadable}
use Rattle.height_store.specs.Laws.{stands_shown}
use Rattle.height_store.specs.Refused.{bad_mark_refused, bad_page_refused}
use Rattle.height_store.specs.Store.{StoredHeight, IsHeight}
use Rattle.sync_serve.specs.declared.error.ServeError.{ServeError}
use Rattle.sync_serve.specs.declared.error.ServeError.TheVariants as serve
use Rattle.sync_serve.specs.declared.root.RootError.{RootError}
use Rattle.sync_serve.specs.Roots.{IsAnswered}
use Rattle.sync_serve.specs.Served.{IsServed, Serves, answer_from}

-- files with a bad mark or page file don't open
pub bad_refused : {T : Type 0} (files : Files) (result : Result T StoreError) → ((height : ℕ) → IsErrOf result (BadMark height) → IsFirstBadMark files height) → ((number : ℕ) → IsErrOf result (BadPage number) → IsFirstBadPage files number)
    → IsErrAnd result IsBadFile → Opens files → ⊥
bad_refused files (Ok x) marks pages bad opens = bad
bad_refused files (Err (BadMark height)) marks pages bad opens = bad_mark_refused files height (marks height refl) opens
bad_refused files (Err (BadPage number)) marks pages bad opens = bad_page_refused files number (pages number refl) opens
bad_refused files (Err e) marks pages bad opens = bad

-- an answer over heights that the files have is one from the heights that they stand for
pub served_on : (files : Files) (hs : List StoredHeight) (ask : Bytes) (answer : Result Bytes ServeError) (result : Result Bytes RootError) → IsAnswered answer result → AllByRecursion IsHeight hs → IsReadable hs files → IsServed files hs ask answer → Serves files ask result
served_on files hs ask (Ok text) result is good readable served = λ ps stands. subst (λ (r : Result Bytes RootError). IfOk r (λ text. answer_from ps ask ≡ Some text)) (sym is) (served ps (stands_shown hs files ps good readable stands))
served_on files hs ask (Err serve.Memory) result is good readable served = λ ps stands. subst (λ (r : Result Bytes RootError). IfOk r (λ text. answer_from ps ask ≡ Some text)) (sym is) tt
served_on files hs ask (Err e) result is good readable served = λ ps stands. subst (λ (r : Result Bytes RootError). IfOk r (λ text. answer_from ps ask ≡ Some text)) (sym is) tt
