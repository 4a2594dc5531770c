-- What is answered to a witness that is checked.
use Rattle.std.proofs.Common.{◌≡◌, ◌≢◌, true, false, List, Result, Ok, Err, refl, ◌∙◌, ap, sym, inl, inr}
use Rattle.std.proofs.lemmas.Bool.{cases_Bool, false≢true}
use Rattle.std.specs.Result.{IfOk}
use Rattle.byte_codec.specs.declared.error.NoMemory.{NoMemory}
use Rattle.format_spec.proofs.Readings.{same_bytes_is, bytes_same}
use Rattle.format_spec.specs.Bytes.{Bytes, same_bytes}
use Rattle.tree_spec.specs.Cbor.{read_tree}
use Rattle.tree_spec.specs.Tree.{Tree, reconstruct}
use Rattle.witness.specs.Answers.{Checks, answer_of_check}
use Rattle.witness.specs.declared.checking.Checked.{Checked}
use Rattle.witness.specs.declared.error.WitnessError.{WitnessError}
use Rattle.witness.specs.declared.error.WitnessError.TheVariants.{BadWitness, WrongRoot, Memory}
use Rattle.script_text.specs.declared.reply.Reply.{Reply}
use Rattle.script_text.specs.declared.reply.Reply.TheVariants.{Refused}
use Rattle.script_text.specs.declared.reply.Refusal.TheVariants as refusals
use Rattle.machine_spec.specs.WitnessSteps.{reply_of_look, reply_of_witness}
use Rattle.live_state.specs.Changes.{RefusedBy}

same_root : (root : Bytes) (t : Tree) → reconstruct t ≡ root → same_bytes (reconstruct t) root ≡ true
same_root root t e = ap (same_bytes (reconstruct t)) (sym e) ∙ bytes_same (reconstruct t)

other_root : (root : Bytes) (t : Tree) → reconstruct t ≢ root → same_bytes (reconstruct t) root ≡ false
other_root root t other = elim (cases_Bool (same_bytes (reconstruct t) root)) [
  | inl same ↦ absurd (other (same_bytes_is (reconstruct t) root same))
  | inr apart ↦ apart
]

pub tells : (root text : Bytes) (path : List Bytes) (c : Checked) (reply : Reply) → Checks root text path (Ok c) → reply ≡ reply_of_look (answer_of_check c) → reply ≡ reply_of_witness root path (read_tree text)
tells root text path c reply h is = rw (h.1, same_root root h.0 h.2) (is ∙ ap reply_of_look h.3)

pub refuses : (root text : Bytes) (path : List Bytes) (error : WitnessError) (result : Result Reply NoMemory) → Checks root text path (Err error) → RefusedBy error result → IfOk result (λ reply. reply ≡ reply_of_witness root path (read_tree text))
refuses root text path (BadWitness place) result h is = rw (is, h) refl
refuses root text path (WrongRoot hash) result h is =
    rw (is, h.1, other_root root h.0 (λ e. h.3 (h.2 ∙ e))) (ap (λ (r : Bytes). Refused (refusals.WrongRoot r)) h.2)
refuses root text path Memory (Ok reply) h is = absurd (false≢true is)
refuses root text path Memory (Err e) h is = tt
