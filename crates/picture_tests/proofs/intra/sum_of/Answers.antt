use Rattle.vp9_types.specs.Sizes.{side}
use Rattle.picture_tests.proofs.intra.sum_of.Goals as goal

pub predict-requires-clause-small : goal.predict-requires-clause-small
predict-requires-clause-small c =
    rw c.greatest-most.ensures.value at (c.drawn_edges-edges.ensures (side c.args.row.now.size))
