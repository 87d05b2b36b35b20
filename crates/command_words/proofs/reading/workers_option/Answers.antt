use Rattle.std.proofs.Common.{◌∙◌, ◌≡◌, ap, ap₂, rules}
use Rattle.std.specs.Prelude.{Some, pos}
use Rattle.std.specs.Int.{int_max, int_min}
use Rattle.clap.specs.Words.{signed_between}
use Rattle.clap.specs.declared.builder.value_parser.ValueParser.TheVariants as value
use Rattle.command_words.proofs.reading.workers_option.Goals as goal

pub returns-clause-rule : goal.returns-clause-rule
returns-clause-rule c =
    let narrowed = rw c.value_parser.ensures at c.range-workers.ensures in
    let made : c.range-workers.result ≡ value.Signed (pos 1) (pos 64) =
    narrowed ∙ ap₂ (λ low high. signed_between (int_max (pos 0) low) (int_min (pos 255) high)) c.new.ensures.start c.new.ensures.end in
    let given = c.value_parser-2.ensures.given in
    let parser : c.value_parser-2.result.value_parser ≡ Some (value.Signed (pos 1) (pos 64)) = given.1 ∙ ap Some (given.2 ∙ made) in
    search rules
