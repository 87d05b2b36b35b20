use Rattle.std.proofs.Common.{◌+◌, map}
use Rattle.vp9_types.specs.Maps.{HoldsRows}
use Rattle.inter_places.specs.Axes.{straight}
use Rattle.inter_predict.specs.InterSamples.{along}
use Rattle.inter_predict.proofs.rows.run_lines.Given as goal

abbrev pub invariant-loop-r : goal.invariant-loop-r
invariant-loop-r g l = HoldsRows (map g.P.Sample.value l.lines) l.place.columns l.r (λ r j. along l.by.most l.by.kind l.place.across (g.S.Samples.map l.view l.place.plane (straight l.place.down (l.first + r))) j)
