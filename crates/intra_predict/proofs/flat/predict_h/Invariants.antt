use Rattle.vp9_types.specs.Maps.{HoldsRows}
use Rattle.intra_predict.specs.PredictedModes.{horizontal}
use Rattle.intra_predict.proofs.flat.predict_h.Given as goal

abbrev pub invariant-loop-i : goal.invariant-loop-i
invariant-loop-i l = HoldsRows l.block l.size l.i (horizontal l.left)
