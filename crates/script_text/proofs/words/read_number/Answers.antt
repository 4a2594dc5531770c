use Rattle.std.proofs.Common.{List, ℕ, sym, ◌∙◌, subst}
use Rattle.std.specs.Str.Parse.{ParsesUnsigned}
use Rattle.script_text.proofs.Numerals.{number_is, number_utf8, text_read, text_found}
use Rattle.script_text.proofs.words.read_number.Goals as goal

pub returns-in_err-text : goal.returns-in_err-text
returns-in_err-text c =
    let numeral = sym c.is_numeral.ensures ∙ c.if-not-is_numeral.false in
    absurd (text_found _ c.args.word.now _ c.from_utf8.result c.from_utf8.ensures.cases (number_utf8 c.args.word.now numeral) (sym c.ok.ensures.value ∙ c.in_err-text.was))

pub returns : goal.returns
returns c =
    let numeral = sym c.is_numeral.ensures ∙ c.if-not-is_numeral.false in
    let same = text_read (λ s. s.now) c.args.word.now _ c.from_utf8.result c.in_ok-text.text c.from_utf8.ensures.cases (sym c.ok.ensures.value ∙ c.in_ok-text.was) in
    c.ok-2.ensures.value ∙ number_is c.args.word.now c.parse.result numeral (subst (λ (t : List ℕ). ParsesUnsigned 64 10 t c.parse.result) same c.parse.ensures.value.0)
