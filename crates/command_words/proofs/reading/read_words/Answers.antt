use Rattle.command_words.proofs.Parses.{reads}
use Rattle.command_words.proofs.reading.read_words.Goals as goal

pub returns : goal.returns
returns c =
    let parse = c.try_get_matches_from in
    reads _ _ parse.result c.answer.result c.in_ok-program.ensures parse.ensures.matches parse.ensures.kinds c.answer.ensures
