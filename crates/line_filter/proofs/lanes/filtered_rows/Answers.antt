use Rattle.std.proofs.Common.{◌∙◌, ap, refl, arith}
use Rattle.line_filter.specs.declared.lanes.Lanes.{Lanes}
use Rattle.line_filter.specs.declared.near.Near.{Near}
use Rattle.line_filter.specs.Code.{lanes_of, line_of, near_at}
use Rattle.line_filter.proofs.LaneLemmas.{full_more, line_more}
use Rattle.line_filter.proofs.lanes.filtered_rows.Goals as goal

pub loop-j-init : goal.loop-j-init
loop-j-init g c = (record { r0 = refl; r1 = refl; r2 = refl; r3 = refl; r4 = refl; r5 = refl; r6 = refl; r7 = refl }, λ j low. absurd (omega arith))

pub loop-j-preserved : goal.loop-j-preserved
loop-j-preserved g c =
    let i = c.loop-j.invariant in
    let now : Lanes = record { r0 = c.loop-j.r0; r1 = c.loop-j.r1; r2 = c.loop-j.r2; r3 = c.loop-j.r3; r4 = c.loop-j.r4; r5 = c.loop-j.r5; r6 = c.loop-j.r6; r7 = c.loop-j.r7 } in
    let line = c.filtered-line.result in (
      full_more now c.loop-j.j line i.0,
      line_more (λ j. g.F.LineFilter.line c.args.l (line_of (near_at (lanes_of c.args.x.now) j))) now c.loop-j.j line i.0 c.loop-j-test.true
          (c.filtered-line.ensures ∙ ap (λ (z : Near). g.F.LineFilter.line c.args.l (line_of z)) c.near.ensures) i.1,
    )

pub returns : goal.returns
returns g c = λ j low. c.loop-j.invariant.1 j (omega (arith, c.loop-j-test.false))
