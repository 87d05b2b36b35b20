use Rattle.std.proofs.Common.{refl, arith}
use Rattle.line_filter.specs.declared.lanes.Lanes.{Lanes}
use Rattle.line_filter.specs.Code.{lanes_of}
use Rattle.line_filter.proofs.LaneLemmas.{full_more, wide_line_more, wide_at, upper_of, lower_of}
use Rattle.line_filter.proofs.far_lanes.filtered_far_rows.Goals as goal

pub loop-j-init : goal.loop-j-init
loop-j-init g c = (
  record { r0 = refl; r1 = refl; r2 = refl; r3 = refl; r4 = refl; r5 = refl; r6 = refl; r7 = refl },
  record { r0 = refl; r1 = refl; r2 = refl; r3 = refl; r4 = refl; r5 = refl; r6 = refl; r7 = refl },
  λ j low. absurd (omega arith),
)

pub loop-j-preserved : goal.loop-j-preserved
loop-j-preserved g c =
    let i = c.loop-j.invariant in let l = c.loop-j in
    let a : Lanes = record { r0 = l.a0; r1 = l.a1; r2 = l.a2; r3 = l.a3; r4 = l.a4; r5 = l.a5; r6 = l.a6; r7 = l.a7 } in
    let b : Lanes = record { r0 = l.b0; r1 = l.b1; r2 = l.b2; r3 = l.b3; r4 = l.b4; r5 = l.b5; r6 = l.b6; r7 = l.b7 } in
    let w = c.filtered_far-line.result in (
      full_more a l.j (upper_of w) i.0,
      full_more b l.j (lower_of w) i.1,
      wide_line_more (λ j. g.F.FarFilter.line c.args.l (wide_at (lanes_of c.args.above.now) (lanes_of c.args.below.now) j)) a b l.j w i.0 i.1 c.loop-j-test.true
          (rw (c.near.ensures, c.far.ensures) at c.filtered_far-line.ensures) i.2,
    )

pub returns : goal.returns
returns g c = λ j low. c.loop-j.invariant.2 j (omega (arith, c.loop-j-test.false))
