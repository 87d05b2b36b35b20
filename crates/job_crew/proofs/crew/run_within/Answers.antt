use Rattle.std.proofs.Common.{◌∙◌, ap}
use Rattle.std.proofs.lemmas.List.Elements.{All-append, All-take, All-drop}
use Rattle.job_crew.specs.Code.{IsSeated}
use Rattle.job_crew.proofs.crew.run_within.Goals as goal

pub given_back-requires : goal.given_back-requires
given_back-requires g c =
    (c.new-2.result, ap (λ p. p.content) c.in-Err.ensures.refused.1 ∙ c.placed-outlet.ensures.content, ap g.K.Output.taken c.new-2.ensures.output ∙ c.requires.taken)

pub join_all-requires-clause-seats : goal.join_all-requires-clause-seats
join_all-requires-clause-seats g c =
    All-take (λ s. IsSeated c.in-Ok-new.made.0 s) _ _
    (All-append (λ s. IsSeated c.in-Ok-new.made.0 s) _ _ c.work_all.ensures.seats (All-drop (λ s. IsSeated c.in-Ok-new.made.0 s) _ _ c.make_seats-seats.ensures.seats))
