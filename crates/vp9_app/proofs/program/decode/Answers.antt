use Rattle.vp9_app.proofs.Decodes.{crew_decodes}
use Rattle.vp9_app.proofs.program.decode.Goals as goal

pub returns-clause-work : goal.returns-clause-work
returns-clause-work g c =
    crew_decodes c.args.options _ _ c.decode_source-outcome.result.outcome c.from.result c.if-options.false c.decode_source-outcome.ensures.decodes c.from.ensures
