use Rattle.std.proofs.Common.{◌∙◌, ap, codes}
use Rattle.std.specs.Prelude.{option_and_then}
use Rattle.clap.specs.Words.{found_of}
use Rattle.clap.proofs.WalkLemmas.{first_value-rows}
use Rattle.command_words.specs.Words.{format_named}
use Rattle.command_words.proofs.reading.format_in.Goals as goal

pub returns-in_err-get_str : goal.returns-in_err-get_str
returns-in_err-get_str c =
    rw c.from_residual.ensures (ap (option_and_then format_named) (c.in_err-get_str.ensures ∙ first_value-rows (found_of c.args.matches.now) (codes "format")))

pub returns : goal.returns
returns c =
    c.format_named.ensures
    ∙ ap (option_and_then format_named) (c.in_ok-get_str.ensures ∙ first_value-rows (found_of c.args.matches.now) (codes "format"))
