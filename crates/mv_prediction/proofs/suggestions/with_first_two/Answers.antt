use Rattle.std.proofs.Common.{◌∙◌, ap}
use Rattle.mv_prediction.specs.Candidates.{own_at}
use Rattle.mv_prediction.specs.Code.{with_vectors}
use Rattle.mv_prediction.proofs.Founds.{two_places}
use Rattle.mv_prediction.specs.declared.found.Found.TheVariants.{Nothing}
use Rattle.mv_prediction.proofs.suggestions.with_first_two.Goals as goal

pub returns-clause-is : goal.returns-clause-is
returns-clause-is g c =
    let f = own_at (g.N.Neighbours.blocks c.args.earlier.now) c.args.search.now c.args.wanted.reference c.args.wanted.sub in
    c.with_own_at.ensures.is ∙ (ap (λ found. with_vectors found (f 1)) c.with_own_at-found.ensures.is ∙ two_places f Nothing)
