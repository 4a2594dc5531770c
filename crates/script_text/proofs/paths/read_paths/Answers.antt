use Rattle.std.proofs.Common.{◌≡◌, ◌≤◌, ◌∙◌, ap, sym, subst, length, map, Some}
use Rattle.std.specs.Option.{IfSome, option_map}
use Rattle.format_spec.specs.declared.limits.TheConstants.{MAX_PATHS}
use Rattle.script_text.specs.Words.{paths_of}
use Rattle.script_text.proofs.PathCounts.{no_paths, some_paths, paths_within}
use Rattle.script_text.proofs.paths.read_paths.Goals as goal

pub returns-then-not-is_good_count-clause-paths : goal.returns-then-not-is_good_count-clause-paths
returns-then-not-is_good_count-clause-paths c = no_paths (λ w. w.now) c.args.words.now (sym c.is_good_count.ensures ∙ c.if-not-is_good_count.true)

pub returns-clause-paths : goal.returns-clause-paths
returns-clause-paths c =
    let read = ap (option_map (λ found. found.items)) (sym c.in-Some.is) ∙ c.in_ok-paths.ensures in
    ap (λ t. Some t) c.new.ensures ∙ some_paths (λ w. w.now) c.args.words.now c.in-Some.paths.items (sym c.is_good_count.ensures ∙ c.if-not-is_good_count.false) read

pub returns-clause-within : goal.returns-clause-within
returns-clause-within c =
    subst (λ found. IfSome found (λ paths. (1 ≤ length paths) × (length paths ≤ MAX_PATHS))) (sym (returns-clause-paths c)) (paths_within (map (λ w. w.now) c.args.words.now))
