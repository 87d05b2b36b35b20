use Rattle.std.proofs.Common.{◌∙◌, ◌≡◌, ap, ap₂, rules, codes, true}
use Rattle.std.proofs.lemmas.Result.{IfOk-weaker}
use Rattle.clap.specs.Simple.{on_top}
use Rattle.clap.specs.Words.{App, app_of, new_app, with_rule, with_subcommand}
use Rattle.command_words.specs.Words.{decode_app, stream_app}
use Rattle.command_words.proofs.reading.vp9dec.Goals as goal

pub returns : goal.returns
returns c =
    let decode_is : app_of c.in_ok-decode.decode ≡ decode_app = c.in_ok-decode.ensures.shape c.format_option.ensures.own
    ∙ ap₂ with_rule (c.in_ok-arg-3.ensures.shape c.window_option.ensures.own
    ∙ ap₂ with_rule (c.in_ok-arg-2.ensures.shape c.workers_option.ensures.own
    ∙ ap₂ with_rule (c.in_ok-arg.ensures.shape c.plain_option.ensures.own
    ∙ ap₂ with_rule c.new.ensures.app c.plain_option.ensures.rule) c.workers_option.ensures.rule) c.window_option.ensures.rule) c.format_option.ensures.rule in
    let alone : app_of c.subcommand_required.result ≡ on_top (λ program. record program { subcommand_required = true }) (new_app (codes "vp9dec")) = search rules in
    let lists = c.in_ok-subcommand.ensures.shape (search rules) ∙ ap₂ with_subcommand alone (ap (λ (a : App). a.top) c.new-list.ensures.app) in
    let decodes = c.in_ok-program.ensures.shape (search rules) ∙ ap₂ with_subcommand lists (ap (λ (a : App). a.top) decode_is) in
    let makes = c.in_ok-program-2.ensures ∙ ap (λ a. with_subcommand a (stream_app (codes "make")).top) decodes in
    IfOk-weaker c.with_stream_command-2.result _ _
    (λ m h. h ∙ ap (λ a. with_subcommand a (stream_app (codes "trial")).top) makes)
    c.with_stream_command-2.ensures
