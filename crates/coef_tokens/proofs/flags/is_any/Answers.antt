use Rattle.std.proofs.Common.{◌∙◌}
use Rattle.coef_tokens.proofs.Spans.{any_true}
use Rattle.coef_tokens.proofs.flags.is_any.Goals as goal

pub returns : goal.returns
returns c = c.contains.ensures.value ∙ any_true c.args.flags.now
