-- What the words of the command line say.
use Rattle.std.specs.Prelude.{List, [], Option, Some, None}
use Rattle.format_spec.specs.Bytes.{Bytes}
use Rattle.script_text.specs.declared.options.Options.{Options}

-- where no word says otherwise: a cache of 256 pages
abbrev pub defaults : Options
defaults = record { cache = 256 }

-- none where a word is no option; so far no word is one
abbrev pub options_of : List Bytes → Option Options
options_of [] = Some defaults
options_of words = None
