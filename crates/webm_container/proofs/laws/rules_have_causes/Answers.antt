use Rattle.webm_container.proofs.Causes.{stops_with_cause}
use Rattle.webm_container.proofs.laws.rules_have_causes.Goals as goal

pub returns : goal.returns
returns c = stops_with_cause
