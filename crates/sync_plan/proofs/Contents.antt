-- What stands behind an ask in an answer.
use Rattle.std.proofs.Common.{◌≡◌, ℕ, ◌≤◌, Bool, true, false, ◌++◌, length, Option, Some, None, Result, Ok, Err, refl, sym, ap, ◌∙◌}
use Rattle.std.specs.Prelude.{◌==◌, option_map, IfSome, nat_le, if◌then◌else◌}
use Rattle.std.proofs.lemmas.Bool.{le-leb}
use Rattle.format_spec.specs.declared.limits.TheConstants.{MAX_ANSWER}
use Rattle.format_spec.specs.Bytes.{Bytes, IsBytes}
use Rattle.format_spec.specs.Fields.{Cursor, gives, value_at_end, and_then, ◌>>=◌, Reading, field, byte}
use Rattle.format_spec.proofs.Readings.{read_ok}
use Rattle.state_spec.specs.Root.{as_option}
use Rattle.sync_spec.specs.Messages.{Ask, Answer, Content, IsAnswer, ask_text, content_text, answer_text, ask_fields, content_behind, answer_fields, read_answer}
use Rattle.sync_spec.proofs.Answers.{answer_found}
use Rattle.sync_plan.specs.declared.answer.Answer as code
use Rattle.sync_plan.specs.Views.{answer_of}
use Rattle.sync_plan.specs.Reading.{content_fields}

module _ {A B : Type 0} (make : A → B) where
  made_if : (b : Bool) (x : A) (place : ℕ) → as_option (if b then read_ok (make x) else Err place) ≡ option_map make (as_option (if b then read_ok x else Err place))
  made_if true x place = refl
  made_if false x place = refl

  -- the value that is made of what all of a text gives
  pub made_of_whole : (r : Result (A × Cursor) ℕ) → as_option (value_at_end (and_then r (λ x. gives (make x)))) ≡ option_map make (as_option (value_at_end r))
  made_of_whole (Err place) = refl
  made_of_whole (Ok x) = made_if (length x.1.rest == 0) x.0 x.1.at

abbrev pub with_ask : Ask → Content → Answer
with_ask ask content = record { ask = ask; content = content }

behind : (ask : Ask) (r : Result (ℕ × Cursor) ℕ) → as_option (value_at_end (and_then r (λ flag. content_behind flag >>= λ content. gives (with_ask ask content)))) ≡ option_map (with_ask ask) (as_option (value_at_end (and_then r content_behind)))
behind ask (Err place) = refl
behind ask (Ok x) = made_of_whole (with_ask ask) (content_behind x.0 x.1)

pub behind_ask : (ask : Ask) (c : Cursor) → as_option (value_at_end ((field byte (λ f. nat_le f 1) >>= λ flag. content_behind flag >>= λ content. gives (with_ask ask content)) c)) ≡ option_map (with_ask ask) (as_option (value_at_end (content_fields c)))
unfolding content_fields
behind_ask ask c = behind ask (field byte (λ f. nat_le f 1) c)

-- the text of an answer, by what it contains
pub answer_spelled : (a : Answer) (content : Content) → a.content ≡ content → answer_text a ≡ ask_text a.ask ++ content_text content
unfolding answer_text
answer_spelled a content is = ap (λ (x : Content). ask_text a.ask ++ content_text x) is

abbrev pub front : Bytes → Result (Ask × Cursor) ℕ
front s = ask_fields (record { at = 0; rest = s })

module _ (s : Bytes) (short : length s ≤ MAX_ANSWER) where
  as_read : read_answer s ≡ as_option (value_at_end (answer_fields (record { at = 0; rest = s })))
  unfolding read_answer
  as_read = rw (le-leb (length s) MAX_ANSWER short) refl

  none_behind : (r : Result (Ask × Cursor) ℕ) (more : Ask → Reading Answer) → as_option r ≡ None → as_option (value_at_end (and_then r more)) ≡ None
  none_behind (Err place) more e = refl
  none_behind (Ok x) more e = absurd cc

  -- no ask at the front
  pub no_ask : as_option (front s) ≡ None → read_answer s ≡ None
  unfolding answer_fields
  no_ask e = as_read ∙ none_behind (front s) _ e

  -- an ask, and what stands behind it
  pub ask_first : (ask : Ask) (d : Cursor) → front s ≡ Ok (ask, d) → read_answer s ≡ option_map (with_ask ask) (as_option (value_at_end (content_fields d)))
  unfolding answer_fields
  ask_first ask d e = as_read ∙ (rw e (behind_ask ask d))

-- an answer that was read is one, and the text is its spelling
pub answer_in : (s : Bytes) → IsBytes s → (o : Option code.Answer) → option_map answer_of o ≡ read_answer s → IfSome o (λ a. (s ≡ answer_text (answer_of a)) × IsAnswer (answer_of a))
answer_in s bytes None e = tt
answer_in s bytes (Some a) e = answer_found s (answer_of a) bytes (sym e)
