use Rattle.std.proofs.Common.{◌∙◌, ◌≡◌, ap, rules}
use Rattle.std.specs.Prelude.{Some, pos}
use Rattle.clap.specs.declared.builder.value_parser.ValueParser.TheVariants as value
use Rattle.command_words.proofs.reading.number_word.Goals as goal

pub returns-clause-rule : goal.returns-clause-rule
returns-clause-rule c =
    let given = c.value_parser-2.ensures.given in
    let parser : c.value_parser-2.result.value_parser ≡ Some (value.Signed (pos 0) (pos 4294967295)) = given.1 ∙ ap Some (given.2 ∙ c.value_parser.ensures) in
    search rules
