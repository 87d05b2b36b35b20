use Rattle.std.proofs.Common.{◌∙◌}
use Rattle.backward_adapt.specs.Adaptation.{rate_of}
use Rattle.backward_adapt.specs.Laws.{prob_at}
use Rattle.backward_adapt.proofs.Steps.{uncoded}
use Rattle.backward_adapt.proofs.Places.{each_place}
use Rattle.backward_adapt.proofs.laws.each_probability_is_adapted_alone.Goals as goal

pub returns-clause-each : goal.returns-clause-each
returns-clause-each c = each_place

pub returns-clause-uncoded : goal.returns-clause-uncoded
returns-clause-uncoded c = λ frame times saved forward kind place sizes low none same.
    each_place frame times saved forward kind place sizes low
    ∙ uncoded (rate_of frame kind) times kind place (prob_at saved kind place) (prob_at forward kind place) none same
