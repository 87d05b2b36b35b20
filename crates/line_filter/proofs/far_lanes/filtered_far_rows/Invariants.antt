use Rattle.line_filter.specs.declared.lanes.Lanes.{Lanes}
use Rattle.line_filter.specs.Code.{lanes_of}
use Rattle.line_filter.proofs.LaneLemmas.{AreFull, AreWideLines, wide_at}
use Rattle.line_filter.proofs.far_lanes.filtered_far_rows.Given as goal

abbrev pub invariant-loop-j : goal.invariant-loop-j
invariant-loop-j g l =
    let a : Lanes = record { r0 = l.a0; r1 = l.a1; r2 = l.a2; r3 = l.a3; r4 = l.a4; r5 = l.a5; r6 = l.a6; r7 = l.a7 } in
    let b : Lanes = record { r0 = l.b0; r1 = l.b1; r2 = l.b2; r3 = l.b3; r4 = l.b4; r5 = l.b5; r6 = l.b6; r7 = l.b7 } in
    AreFull a × AreFull b × AreWideLines a b (λ j. g.F.FarFilter.line l.l (wide_at (lanes_of l.above) (lanes_of l.below) j)) l.j
