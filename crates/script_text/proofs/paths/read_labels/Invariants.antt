use Rattle.std.proofs.Common.{◌≡◌, map, drop}
use Rattle.script_text.specs.Words.{each_of, label_of}
use Rattle.script_text.proofs.Each.{behind}
use Rattle.script_text.proofs.paths.read_labels.Given as goal

-- the labels read so far and those to come are those of all words
abbrev pub invariant-loop-word : goal.invariant-loop-word
invariant-loop-word l = behind l.labels.items (each_of label_of (map (λ w. w.now) (drop l.word-index l.words))) ≡ each_of label_of (map (λ w. w.now) l.words)
