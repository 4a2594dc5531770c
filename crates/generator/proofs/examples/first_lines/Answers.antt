-- The lines compute, once all definitions and std's digits may be seen.
use Rattle.std.proofs.Common.{refl}
use Rattle.std.specs.Fmt.{digits}
use Rattle.hex.specs.Hex.{encode_with}
use Rattle.generator.specs.Draws.{next_x, drawn}
use Rattle.generator.specs.Script.{canister_line, write_line, write_lines, lines_behind, blocks_from, generated}
use Rattle.generator.proofs.examples.first_lines.Goals as goal

pub returns-clause-count : goal.returns-clause-count
unfolding generated blocks_from lines_behind write_lines
returns-clause-count c = refl

pub returns-clause-canisters : goal.returns-clause-canisters
unfolding generated canister_line encode_with
returns-clause-canisters c = refl

pub returns-clause-first_write : goal.returns-clause-first_write
unfolding generated blocks_from write_lines write_line next_x drawn encode_with digits
returns-clause-first_write c = refl

pub returns-clause-last_write : goal.returns-clause-last_write
unfolding generated blocks_from write_lines write_line next_x drawn encode_with digits
returns-clause-last_write c = refl

pub returns-clause-behind : goal.returns-clause-behind
unfolding generated blocks_from write_lines lines_behind
returns-clause-behind c = refl
