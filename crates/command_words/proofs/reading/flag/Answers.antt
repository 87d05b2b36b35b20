use Rattle.std.proofs.Common.{◌∙◌, ap, false}
use Rattle.std.specs.Option.{option_map_or}
use Rattle.std.specs.Str.{bytes_eq}
use Rattle.std.specs.Prelude.{codes}
use Rattle.std.specs.Str.Parse.{ParsesBool}
use Rattle.clap.specs.Words.{found_of}
use Rattle.clap.proofs.WalkLemmas.{one_text-rows}
use Rattle.command_words.proofs.Options.{flag_read}
use Rattle.command_words.proofs.reading.flag.Goals as goal

pub returns : goal.returns
returns c =
    c.unwrap_or.ensures
    ∙ flag_read (λ t r. ParsesBool t r) _ c.get_one.result (λ u x h. h) c.get_one.ensures.none c.get_one.ensures.value
    ∙ ap (λ o. option_map_or (λ t. bytes_eq t (codes "true")) o false) (one_text-rows (found_of c.args.matches.now) c.args.id.now)
