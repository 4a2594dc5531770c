-- What is so after each call that writes a mark.
use Rattle.std.proofs.Common.{◌≡◌, inl, inr, ℕ, Bool, true, false, List, [], ◌++◌, length, cond, Option, Some, None, Result, Ok, Err, IsTrue, OnOk, unwrap_or, refl, sym, ◌∙◌, ap, arith}
use Rattle.std.proofs.lemmas.Bool.{false≢true}
use Rattle.format_spec.specs.Bytes.{Bytes}
use Rattle.disk_model.specs.declared.disk.Disk.{Ghosts}
use Rattle.disk_model.specs.declared.disk.DiskError.{DiskError}
use Rattle.disk_model.specs.declared.name.Name.{Name}
use Rattle.disk_model.specs.declared.name.Name.TheVariants.{Mark, Draft}
use Rattle.disk_model.specs.Files.{same_name, files_with}
use Rattle.disk_model.specs.State.{DiskState, IsSettled, Shows, marks_with}
use Rattle.disk_model.specs.Call.{create, append, seal, rename, under_way}
use Rattle.disk_model.specs.View.{DiskView, EachImage, LeavesOnly, Done, Does, HasCause}
use Rattle.disk_model.specs.Laws.{IsSound, same_name_refl, replaced_here, replaced_apart, or_false, rename_images, image_of_settled}
use Rattle.disk_model.specs.Moments.{then, weaker, one_call}
use Rattle.disk_model.specs.Writing.{Writes, one_write, write_then}
use Rattle.disk_model.specs.Frame.{TouchesOnly, touches_call, touches_then, done_settles}
use Rattle.height_store.specs.Written.{is_of, IsBeforeOrAfter, HasWritten}

abbrev with_draft : ℕ → DiskState → Name → Bool
with_draft height s = marks_with s.loose (Draft height) true

marked_here : (m : Name → Bool) (n : Name) (b : Bool) (q : Name) → same_name n q ≡ true → marks_with m n b q ≡ b
marked_here m n b q h = rw h refl

-- a name that isn't loose, and not the draft
firm_apart : (height : ℕ) (s : DiskState) (q : Name) → with_draft height s q ≡ false → (same_name (Draft height) q ≡ false) × (s.loose q ≡ false)
firm_apart height s q firm = by_cases (same_name (Draft height) q) firm
  where
    by_cases : (b : Bool) → cond b true (s.loose q) ≡ false → (b ≡ false) × (s.loose q ≡ false)
    by_cases true e = absurd (false≢true (sym e))
    by_cases false e = (refl, e)

abbrev pub is_draft : ℕ → Name → Bool
is_draft height q = same_name (Draft height) q

-- While the draft is written, each image has the files from before.
pub draft_images : (height : ℕ) (old now : DiskView) → IsSettled old.state → TouchesOnly (is_draft height) old now → LeavesOnly old now (Shows (with_draft height old.state) old.state.files)
draft_images height old now settled touches = weaker old now _ _ (λ image from. record {
  firm = λ q firm.
      let parts = firm_apart height old.state q firm in
      from.2 q parts.0 ∙ (image_of_settled old.state from.0 settled from.1).firm q parts.1;
}) touches.images

pub only_before : (height : ℕ) (text : Bytes) (old now : DiskView) → IsSettled old.state → TouchesOnly (is_draft height) old now → LeavesOnly old now (IsBeforeOrAfter old.state height text)
only_before height text old now settled touches = weaker old now _ _ (λ image shows. inl shows) (draft_images height old now settled touches)

-- ---- which names the calls are given

module _ (height : ℕ) (given : Name → Bool) (within : (q : Name) → given q ≡ false → same_name (Draft height) q ≡ false) where
  pub touches_create : {T : Type 0} (result : Result T DiskError) (v0 v1 : DiskView) → IsSound v0.state → Does (create (Draft height)) result v0 v1 → TouchesOnly given v0 v1
  touches_create result v0 v1 sound does = touches_call (create (Draft height)) result v0 v1 given within sound does

  pub touches_append : {T : Type 0} (result : Result T DiskError) (text : Bytes) (v0 v1 v2 : DiskView) → TouchesOnly given v0 v1 → IsSound v1.state → Does (append (Draft height) text) result v1 v2 → TouchesOnly given v0 v2
  touches_append result text v0 v1 v2 so_far sound does = touches_then given v0 v1 v2 so_far (touches_call (append (Draft height) text) result v1 v2 given within sound does)

  pub touches_seal : {T : Type 0} (result : Result T DiskError) (v0 v2 v3 : DiskView) → TouchesOnly given v0 v2 → IsSound v2.state → Does (seal (Draft height)) result v2 v3 → TouchesOnly given v0 v3
  touches_seal result v0 v2 v3 so_far sound does = touches_then given v0 v2 v3 so_far (touches_call (seal (Draft height)) result v2 v3 given within sound does)

pub draft_within : (height : ℕ) (q : Name) → is_of height q ≡ false → same_name (Draft height) q ≡ false
draft_within height q apart = (or_false _ _ apart).0

-- the draft is written, and its seal is answered
pub draft_sealed : {D T : Type 0} (disk : Ghosts D) (height : ℕ) (text : Bytes) (result : Result T DiskError) (v0 v1 v2 v3 : D) → ((v : D) → IsTrue disk.tells → IsSound (disk.view v).state)
    → (IsTrue disk.tells → Done (create (Draft height)) (disk.view v0) (disk.view v1)) → HasCause {T = Unit {0}} (disk.faults v0) (disk.faults v1) (Ok tt)
    → (IsTrue disk.tells → Done (append (Draft height) text) (disk.view v1) (disk.view v2)) → HasCause {T = Unit {0}} (disk.faults v1) (disk.faults v2) (Ok tt)
    → (IsTrue disk.tells → Does (seal (Draft height)) result (disk.view v2) (disk.view v3)) → HasCause (disk.faults v2) (disk.faults v3) result → Writes disk (is_of height) (length text) v0 v3 result
draft_sealed disk height text result v0 v1 v2 v3 sound make made add added close closed =
    let within = draft_within height in
    let ok : Result (Unit {0}) DiskError = Ok tt in
    write_then disk ok result (is_of height) (length text) 0 (length text) v0 v2 v3 refl (omega arith)
    (write_then disk ok ok (is_of height) 0 (length text) (length text) v0 v1 v2 refl (omega arith)
    (one_write disk (create (Draft height)) ok (is_of height) v0 v1 within (sound v0) make made)
    (one_write disk (append (Draft height) text) ok (is_of height) v1 v2 within (sound v1) add added))
    (one_write disk (seal (Draft height)) result (is_of height) v2 v3 within (sound v2) close closed)

-- ---- the draft, when it is sealed

pub record IsSealed (height : ℕ) (text : Bytes) (old now : DiskView) : Type 0 where
  pub content : now.state.files (Draft height) ≡ Some text
  pub settled : IsSettled old.state → IsSettled now.state

pub sealed : (height : ℕ) (text : Bytes) (v0 v1 v2 v3 : DiskView) → Done (create (Draft height)) v0 v1 → Done (append (Draft height) text) v1 v2 → Done (seal (Draft height)) v2 v3 → IsSealed height text v0 v3
sealed height text v0 v1 v2 v3 make add close = record {
  content = ap (λ (s : DiskState). s.files (Draft height)) close.state ∙ ap (λ (s : DiskState). s.files (Draft height)) add.state
      ∙ replaced_here v1.state.files (Draft height) (Some (unwrap_or (v1.state.files (Draft height)) [] ++ text)) (Draft height) (same_name_refl (Draft height))
      ∙ ap (λ (o : Option (List ℕ)). Some (unwrap_or o [] ++ text)) (ap (λ (s : DiskState). s.files (Draft height)) make.state ∙ replaced_here v0.state.files (Draft height) (Some []) (Draft height) (same_name_refl (Draft height)));
  settled = λ settled. done_settles (seal (Draft height)) v2 v3 close (done_settles (append (Draft height) text) v1 v2 add (done_settles (create (Draft height)) v0 v1 make settled));
}

-- ---- the rename

pub renamed_images : {T : Type 0} (result : Result T DiskError) (height : ℕ) (text : Bytes) (v0 v3 v4 : DiskView) → IsSound v3.state → IsSealed height text v0 v3 → TouchesOnly (is_draft height) v0 v3
    → Does (rename (Draft height) (Mark height)) result v3 v4 → IsSettled v0.state → LeavesOnly v0 v4 (IsBeforeOrAfter v0.state height text)
renamed_images result height text v0 v3 v4 sound sealed touches does settled =
    let first = only_before height text v0 v3 settled touches in
    then v0 v3 v4 _ first (one_call (rename (Draft height) (Mark height)) result v3 v4 _ sound does first.now middle)
  where
    middle : EachImage (under_way (rename (Draft height) (Mark height)) v3.state) (IsBeforeOrAfter v0.state height text)
    middle image h = elim (rename_images v3.state (Draft height) (Mark height) image (sealed.settled settled) h) [
      | inl before ↦ inl (record {
        firm = λ q firm.
            let parts = firm_apart height v0.state q firm in
            before.firm q (touches.firm q parts.0 parts.1) ∙ touches.reads q parts.0;
      })
      | inr after ↦ inr (record {
        firm = λ q firm.
            let parts = firm_apart height v0.state q firm in
            after.firm q (touches.firm q parts.0 parts.1)
            ∙ (λ i. cond (same_name (Mark height) q) (sealed.content i) ((replaced_apart v3.state.files (Draft height) None q parts.0 ∙ touches.reads q parts.0) i));
      })
    ]

pub written : {T : Type 0} (result : Result T DiskError) (height : ℕ) (text : Bytes) (v0 v3 v4 : DiskView) → IsSealed height text v0 v3 → Does (rename (Draft height) (Mark height)) result v3 v4 → OnOk result (HasWritten height text v0 v4)
written (Err e) height text v0 v3 v4 sealed does = tt
written (Ok x) height text v0 v3 v4 sealed does = record {
  there = ap (λ (s : DiskState). s.files (Mark height)) does.state ∙ replaced_here (files_with v3.state.files (Draft height) None) (Mark height) (v3.state.files (Draft height)) (Mark height) (same_name_refl (Mark height)) ∙ sealed.content;
  firm = ap (λ (s : DiskState). s.loose (Mark height)) does.state ∙ marked_here (marks_with v3.state.loose (Draft height) false) (Mark height) false (Mark height) (same_name_refl (Mark height));
  no_draft = ap (λ (s : DiskState). s.files (Draft height)) does.state ∙ replaced_here v3.state.files (Draft height) None (Draft height) (same_name_refl (Draft height));
  settled = λ settled. done_settles (rename (Draft height) (Mark height)) v3 v4 does (sealed.settled settled);
}
