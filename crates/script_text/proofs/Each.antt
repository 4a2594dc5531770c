-- Words, read one by one.
use Rattle.std.proofs.Common.{◌≡◌, ◌<◌, ◌≤◌, ◌+◌, ℕ, suc, List, [], ◌∷◌, ◌++◌, length, map, get_or, drop, drop-cons, add-one, Option, Some, None, refl, ◌∙◌, ap, sym, append_assoc}
use Rattle.std.proofs.lemmas.List.{append-nil, drop_all}
use Rattle.std.specs.Option.{option_map}
use Rattle.format_spec.specs.Bytes.{Bytes}
use Rattle.script_text.specs.Words.{each_of, onto}

-- those read so far before those to come
abbrev pub behind : {A : Type 0} → List A → Option (List A) → Option (List A)
behind done rest = option_map (λ more. done ++ more) rest

onto-behind : {A : Type 0} (done : List A) (x : A) (rest : Option (List A)) → behind done (onto x rest) ≡ behind (done ++ x ∷ []) rest
onto-behind done x None = refl
onto-behind {A} done x (Some more) = ap (λ (t : List A). Some t) (sym (append_assoc done (x ∷ []) more))

pub behind_more : {A : Type 0} (read : Bytes → Option A) (done : List A) (word : Bytes) (rest : List Bytes) (x : A) → Some x ≡ read word
    → behind done (each_of read (word ∷ rest)) ≡ behind (done ++ x ∷ []) (each_of read rest)
behind_more read done word rest x h = rw (← h) (onto-behind done x (each_of read rest))

-- the word at a place is read
pub step_more : {A W : Type 0} (read : Bytes → Option A) (bytes : W → Bytes) (words : List W) (i : ℕ) (d : W) (done : List A) (x : A) (all : Option (List A)) → i < length words
    → Some x ≡ read (bytes (get_or words i d)) → behind done (each_of read (map bytes (drop i words))) ≡ all
    → behind (done ++ x ∷ []) (each_of read (map bytes (drop (i + 1) words))) ≡ all
step_more read bytes words i d done x all h found so_far =
    let e = drop-cons words i d h in
    rw add-one (sym (behind_more read done (bytes (get_or words i d)) (map bytes (drop (suc i) words)) x found) ∙ ap (λ t. behind done (each_of read (map bytes t))) (sym e) ∙ so_far)

pub step_end : {A W : Type 0} (read : Bytes → Option A) (bytes : W → Bytes) (words : List W) (i : ℕ) (done : List A) (all : Option (List A)) → length words ≤ i
    → behind done (each_of read (map bytes (drop i words))) ≡ all → Some done ≡ all
step_end {A} read bytes words i done all h so_far =
    let e = drop_all i words h in
    ap (λ (t : List A). Some t) (sym (append-nil done)) ∙ ap (λ t. behind done (each_of read (map bytes t))) (sym e) ∙ so_far

pub behind_nothing : {A : Type 0} (rest : Option (List A)) → behind [] rest ≡ rest
behind_nothing None = refl
behind_nothing (Some more) = refl
