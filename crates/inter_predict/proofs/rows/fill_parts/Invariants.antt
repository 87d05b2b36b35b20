use Rattle.std.proofs.Common.{◌+◌, ◌-◌, ◌≤◌, ◌≡◌, length, map}
use Rattle.vp9_types.specs.Maps.{HoldsRows}
use Rattle.inter_places.specs.Axes.{straight}
use Rattle.inter_predict.specs.InterSamples.{along}
use Rattle.inter_predict.proofs.rows.fill_parts.Given as goal

abbrev pub invariant-loop-done : goal.invariant-loop-done
invariant-loop-done g l =
    record {
      within : l.done ≤ l.count;
      rows : HoldsRows (map g.P.Sample.value l.lines) l.place.columns l.done (λ r j. along l.by.most l.by.kind l.place.across (g.S.Samples.map l.view l.place.plane (straight l.place.down (l.first + r))) j);
    }

abbrev pub decreases-loop-done : goal.decreases-loop-done
decreases-loop-done g l = l.count - l.done
