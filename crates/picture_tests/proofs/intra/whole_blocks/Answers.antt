use Rattle.picture_tests.proofs.intra.whole_blocks.Goals as goal

pub predict-requires-clause-small : goal.predict-requires-clause-small
predict-requires-clause-small g c = c.drawn_edges-edges.ensures 4
