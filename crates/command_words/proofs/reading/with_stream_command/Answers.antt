use Rattle.std.proofs.Common.{◌∙◌, ◌≡◌, ap, ap₂, rules}
use Rattle.std.proofs.lemmas.Result.{IfOk-weaker}
use Rattle.clap.specs.Words.{App, app_of, with_rule, with_subcommand}
use Rattle.command_words.specs.Words.{stream_app}
use Rattle.command_words.proofs.reading.with_stream_command.Goals as goal

pub returns : goal.returns
returns c =
    let command_is : app_of c.in_ok-command.command ≡ stream_app c.args.name.now = c.in_ok-command.ensures.shape c.frames_word.ensures.own
    ∙ ap₂ with_rule (c.in_ok-arg.ensures.shape c.number_word.ensures.own
    ∙ ap₂ with_rule c.new.ensures.app c.number_word.ensures.rule) c.frames_word.ensures.rule in
    IfOk-weaker c.subcommand.result _ _
    (λ m h. h.shape (search rules) ∙ ap (λ (a : App). with_subcommand (app_of c.args.program) a.top) command_is)
    c.subcommand.ensures
