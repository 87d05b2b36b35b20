use Rattle.vp9_types.specs.Maps.{HoldsRows}
use Rattle.intra_predict.specs.PredictedModes.{true_motion}
use Rattle.intra_predict.proofs.flat.predict_tm.Given as goal

abbrev pub invariant-loop-i : goal.invariant-loop-i
invariant-loop-i g l = HoldsRows l.block g.row.N l.i (true_motion l.most l.line l.left l.corner)
