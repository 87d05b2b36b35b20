use Rattle.std.proofs.Common.{◌∙◌, ap}
use Rattle.std.specs.Option.{option_map_or}
use Rattle.std.specs.Str.Parse.{ParsesUnsigned, ExplainsUnsignedError, HasUnsignedDigitsIfOk}
use Rattle.command_words.specs.Words.{number_or_zero}
use Rattle.clap.specs.Words.{found_of}
use Rattle.clap.proofs.WalkLemmas.{one_text-rows}
use Rattle.command_words.proofs.Options.{given_read}
use Rattle.command_words.proofs.reading.given.Goals as goal

pub returns : goal.returns
returns c =
    c.unwrap_or.ensures
    ∙ given_read (λ t r. ParsesUnsigned 32 10 t r × ExplainsUnsignedError 10 t r × HasUnsignedDigitsIfOk t r) _ c.get_one.result (λ u x h. h.0)
    c.get_one.ensures.none c.get_one.ensures.value
    ∙ ap (λ o. option_map_or number_or_zero o 0) (one_text-rows (found_of c.args.matches.now) c.args.id.now)
