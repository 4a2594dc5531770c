use Rattle.std.proofs.Common.{◌∙◌, List, Option, length, map, refl, sym, subst, Vec, Global}
use Rattle.format_spec.specs.Bytes.{Bytes}
use Rattle.state_spec.specs.Manifest.{manifest_from}
use Rattle.sys_state.specs.System.{part_of}
use Rattle.manifest.specs.Fits.{FitsText}
use Rattle.manifest.proofs.Bounds.{fits_text}
use Rattle.manifest.proofs.States.{made, few_files, few_hashes}
use Rattle.manifest.proofs.rows.Manifest.from_sums.Goals as goal

abbrev items : Vec (Option Bytes) Global → List (Option Bytes)
items hashes = hashes.items

pub add_memories-requires-clause-empty : goal.add_memories-requires-clause-empty
unfolding manifest_from
add_memories-requires-clause-empty c = λ i. record { version = c.args.version; files = c.new.ensures.items i; chunks = c.new-2.ensures.items i }

pub add_file-requires-clause-files : goal.add_file-requires-clause-files
add_file-requires-clause-files c =
    let done = c.in_ok-add_memories.ensures in
    few_files c.args.version c.add_memories.new.self (part_of c.args.sys.now) (map items c.args.sums.now) done.kept.system c.requires.fit done.rows

pub add_file-requires-clause-hashes : goal.add_file-requires-clause-hashes
add_file-requires-clause-hashes c =
    few_hashes (part_of c.args.sys.now) c.args.system.now c.deref.result.now c.in_ok-add_memories.ensures.kept.system
    (c.deref.ensures.value ∙ c.in_ok-hashes.ensures) c.requires.text

pub returns-clause-value : goal.returns-clause-value
returns-clause-value c =
    made c.args.version c.add_memories.new.self c.add_file.new.self (part_of c.args.sys.now) (map items c.args.sums.now)
    c.in_ok-name.name c.args.system.now (length c.args.system.now) c.deref.result.now
    c.in_ok-add_memories.ensures.rows c.in_ok-add_file.ensures c.in_ok-name.ensures.value refl (c.deref.ensures.value ∙ c.in_ok-hashes.ensures) c.requires.text

pub returns-clause-fits : goal.returns-clause-fits
returns-clause-fits c =
    subst FitsText (sym (returns-clause-value c))
    (fits_text c.args.version (part_of c.args.sys.now) (map items c.args.sums.now) c.in_ok-add_memories.ensures.kept.system c.requires.fit)
