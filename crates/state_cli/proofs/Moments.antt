-- The images of a run so far: each stands for the heights after some front of its turns.
use Rattle.std.proofs.Common.{◌≡◌, List, [], ◌∷◌, ◌++◌, refl, ◌∙◌, ap, sym, subst, append_assoc, inl, inr}
use Rattle.store_spec.specs.Image.{Published, StandsFor}
use Rattle.disk_model.specs.Files.{Files}
use Rattle.height_store.specs.Kept.{StandsForEither}
use Rattle.machine_spec.specs.Answers.{Turn, after_turn, after_turns}
use Rattle.machine_spec.specs.Machine.{Machine}
use Rattle.machine_spec.proofs.Runs.{after_turns-append}
use Rattle.state_cli.specs.Ends.{StandsAfterSome}

-- the heights before a turn, or those after it
pub either_first : (m : Machine) (turn : Turn) (image : Files) → StandsForEither m.published (after_turn m turn).published image → StandsAfterSome m (turn ∷ []) image
either_first m turn image (inl before) = record { front = []; others = turn ∷ []; turns_are = refl; stands = before }
either_first m turn image (inr after) = record { front = turn ∷ []; others = []; turns_are = refl; stands = after }

-- with more turns behind
pub some_front : (first : Machine) (xs ys : List Turn) (image : Files) → StandsAfterSome first xs image → StandsAfterSome first (xs ++ ys) image
some_front first xs ys image s = record {
  front = s.front;
  others = s.others ++ ys;
  turns_are = ap (λ ts. ts ++ ys) s.turns_are ∙ append_assoc s.front s.others ys;
  stands = s.stands;
}

-- with more turns before
pub some_behind : (first : Machine) (xs ys : List Turn) (image : Files) → StandsAfterSome (after_turns first xs) ys image → StandsAfterSome first (xs ++ ys) image
some_behind first xs ys image s = record {
  front = xs ++ s.front;
  others = s.others;
  turns_are = ap (λ ts. xs ++ ts) s.turns_are ∙ sym (append_assoc xs s.front s.others);
  stands = subst (λ (m : Machine). StandsFor image m.published) (sym (after_turns-append first xs s.front)) s.stands;
}
