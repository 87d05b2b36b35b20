use Rattle.std.proofs.Common.{◌+◌, map}
use Rattle.vp9_types.specs.Maps.{HoldsRows}
use Rattle.inter_places.specs.Axes.{straight}
use Rattle.inter_predict.proofs.rows.copy_lines.Given as goal

abbrev pub invariant-loop-r : goal.invariant-loop-r
invariant-loop-r g l = HoldsRows (map g.P.Sample.value l.lines) l.place.columns l.r (λ r j. g.S.Samples.map l.view l.place.plane (straight l.place.down (l.first + r)) (straight l.place.across (3 + j)))
