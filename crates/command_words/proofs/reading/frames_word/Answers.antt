use Rattle.std.proofs.Common.{◌∙◌, ◌≡◌, ap, ap₂, rules}
use Rattle.std.specs.Prelude.{Some, pos}
use Rattle.std.specs.Int.{int_max, int_min}
use Rattle.clap.specs.Words.{signed_between}
use Rattle.clap.specs.declared.builder.value_parser.ValueParser.TheVariants as value
use Rattle.command_words.proofs.reading.frames_word.Goals as goal

pub returns-clause-rule : goal.returns-clause-rule
returns-clause-rule c =
    let narrowed = rw c.value_parser.ensures at c.range-frames.ensures in
    let made : c.range-frames.result ≡ value.Signed (pos 1) (pos 1000) =
    narrowed ∙ ap₂ (λ low high. signed_between (int_max (pos 0) low) (int_min (pos 4294967295) high)) c.new.ensures.start c.new.ensures.end in
    let given = c.value_parser-2.ensures.given in
    let parser : c.value_parser-2.result.value_parser ≡ Some (value.Signed (pos 1) (pos 1000)) = given.1 ∙ ap Some (given.2 ∙ made) in
    search rules
