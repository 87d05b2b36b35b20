use Rattle.line_filter.specs.declared.lanes.Lanes.{Lanes}
use Rattle.line_filter.specs.Code.{lanes_of, line_of, near_at}
use Rattle.line_filter.proofs.LaneLemmas.{AreFull, AreLines}
use Rattle.line_filter.proofs.lanes.filtered_rows.Given as goal

abbrev pub invariant-loop-j : goal.invariant-loop-j
invariant-loop-j g l =
    let x : Lanes = record { r0 = l.r0; r1 = l.r1; r2 = l.r2; r3 = l.r3; r4 = l.r4; r5 = l.r5; r6 = l.r6; r7 = l.r7 } in
    AreFull x × AreLines x (λ j. g.F.LineFilter.line l.l (line_of (near_at (lanes_of l.x) j))) l.j
