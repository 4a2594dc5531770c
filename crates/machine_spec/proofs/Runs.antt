-- Turns that are taken in parts.
use Rattle.std.proofs.Common.{◌≡◌, List, [], ◌∷◌, ◌++◌, refl, ◌∙◌, ap, sym, append_assoc}
use Rattle.format_spec.specs.Bytes.{Bytes}
use Rattle.machine_spec.specs.Machine.{Machine}
use Rattle.machine_spec.specs.Answers.{Turn, answer, answers, after_turn, after_turns, lines_of, turn_of, reply_to, Plays, turns_of_lines}

pub answers-append : (xs ys : List Turn) → answers (xs ++ ys) ≡ answers xs ++ answers ys
answers-append [] ys = refl
answers-append (x ∷ xs) ys = ap (λ t. answer x ++ t) (answers-append xs ys) ∙ sym (append_assoc (answer x) (answers xs) (answers ys))

pub after_turns-append : (m : Machine) (xs ys : List Turn) → after_turns m (xs ++ ys) ≡ after_turns (after_turns m xs) ys
after_turns-append m [] ys = refl
after_turns-append m (x ∷ xs) ys = after_turns-append (after_turn m x) xs ys

pub plays-append : (m : Machine) (xs ys : List Turn) → Plays m xs → Plays (after_turns m xs) ys → Plays m (xs ++ ys)
plays-append m [] ys first second = second
plays-append m (x ∷ xs) ys first second = (first.0, plays-append (after_turn m x) xs ys first.1 second)

-- the replies are fixed by the lines
pub plays_once : (m : Machine) (turns : List Turn) (some_lines : List Bytes) → Plays m turns → lines_of turns ≡ some_lines → turns ≡ turns_of_lines m some_lines
plays_once m turns some_lines plays are = as_played m turns plays ∙ ap (turns_of_lines m) are
  where
    as_played : (m : Machine) (turns : List Turn) → Plays m turns → turns ≡ turns_of_lines m (lines_of turns)
    as_played m [] plays = refl
    as_played m (turn ∷ turns) plays = ap (λ reply. turn_of turn.line reply ∷ turns) plays.0 ∙ ap (λ ts. turn_of turn.line (reply_to m turn.line) ∷ ts) (as_played (after_turn m turn) turns plays.1)
