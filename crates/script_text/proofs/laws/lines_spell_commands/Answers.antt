use Rattle.script_text.proofs.Spelled.{line_spells}
use Rattle.script_text.proofs.laws.lines_spell_commands.Goals as goal

pub returns : goal.returns
returns c = line_spells
