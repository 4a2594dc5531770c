-- How many paths are read from words.
use Rattle.std.proofs.Common.{◌≡◌, ◌≤◌, ◌&&◌, nat_le, ℕ, suc, Bool, true, false, List, [], ◌∷◌, length, map, Option, Some, None, refl, ◌∙◌, ap, sym}
use Rattle.std.proofs.lemmas.Bool.{leb-true}
use Rattle.std.proofs.lemmas.List.{length-map}
use Rattle.std.specs.Option.{IfSome, option_and_then}
use Rattle.std.specs.Prelude.{if◌then◌else◌}
use Rattle.std.proofs.lemmas.Option.{same_Some}
use Rattle.format_spec.specs.Bytes.{Bytes}
use Rattle.format_spec.specs.declared.limits.TheConstants.{MAX_PATHS}
use Rattle.script_text.specs.Words.{each_of, onto, path_of, is_path_count, paths_of, such_that}

length-onto : {A : Type 0} (x : A) (rest : Option (List A)) (n : ℕ) → ((xs : List A) → rest ≡ Some xs → length xs ≡ n)
    → (xs : List A) → onto x rest ≡ Some xs → length xs ≡ suc n
length-onto x None n h xs e = absurd (cc e)
length-onto x (Some more) n h xs e = ap length (sym (same_Some (x ∷ more) xs e)) ∙ ap suc (h more refl)

length-then : {A : Type 0} (first : Option A) (rest : Option (List A)) (n : ℕ) → ((xs : List A) → rest ≡ Some xs → length xs ≡ n)
    → (xs : List A) → option_and_then (λ x. onto x rest) first ≡ Some xs → length xs ≡ suc n
length-then None rest n h xs e = absurd (cc e)
length-then (Some x) rest n h xs e = length-onto x rest n h xs e

-- as many as there are words
length-each : {A : Type 0} (read : Bytes → Option A) (ws : List Bytes) (xs : List A) → each_of read ws ≡ Some xs → length xs ≡ length ws
length-each read [] xs e = ap length (sym (same_Some [] xs e))
length-each read (w ∷ ws) xs e = length-then (read w) (each_of read ws) (length ws) (λ more k. length-each read ws more k) xs e

pub path_count : (n : ℕ) → is_path_count n ≡ true → (1 ≤ n) × (n ≤ MAX_PATHS)
path_count n h = by (nat_le 1 n) (nat_le n 64) refl refl h
  where
    by : (a b : Bool) → nat_le 1 n ≡ a → nat_le n 64 ≡ b → (a && b) ≡ true → (1 ≤ n) × (n ≤ 64)
    by true true p q h = (leb-true 1 n p, leb-true n 64 q)
    by true false p q h = absurd (cc h)
    by false b p q h = absurd (cc h)

other_count : (words : List Bytes) (paths : Option (List (List Bytes))) → each_of path_of words ≡ paths → is_path_count (length words) ≡ false
    → None ≡ such_that (λ found. is_path_count (length found)) paths
other_count words None e h = refl
other_count words (Some paths) e h = rw (ap is_path_count (length-each path_of words paths e) ∙ h) refl

pub no_paths : {W : Type 0} (bytes : W → Bytes) (words : List W) → is_path_count (length words) ≡ false → None ≡ paths_of (map bytes words)
no_paths bytes words h = other_count (map bytes words) (each_of path_of (map bytes words)) refl (ap is_path_count (length-map words bytes) ∙ h)

pub some_paths : {W : Type 0} (bytes : W → Bytes) (words : List W) (paths : List (List Bytes)) → is_path_count (length words) ≡ true
    → Some paths ≡ each_of path_of (map bytes words) → Some paths ≡ paths_of (map bytes words)
some_paths bytes words paths h e =
    let same = length-each path_of (map bytes words) paths (sym e) ∙ length-map words bytes in
    rw (← e, ap is_path_count same ∙ h) refl

pub paths_within : (words : List Bytes) → IfSome (paths_of words) (λ paths. (1 ≤ length paths) × (length paths ≤ MAX_PATHS))
paths_within words = within (each_of path_of words)
  where
    counted : (paths : List (List Bytes)) (good : Bool) → is_path_count (length paths) ≡ good → IfSome (if good then Some paths else None) (λ found. (1 ≤ length found) × (length found ≤ MAX_PATHS))
    counted paths true e = path_count (length paths) e
    counted paths false e = tt

    within : (found : Option (List (List Bytes))) → IfSome (such_that (λ paths. is_path_count (length paths)) found) (λ paths. (1 ≤ length paths) × (length paths ≤ MAX_PATHS))
    within None = tt
    within (Some paths) = counted paths (is_path_count (length paths)) refl
