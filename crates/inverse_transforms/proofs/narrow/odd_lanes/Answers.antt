use Rattle.std.proofs.Common.{rules, refl, ◌^◌, arith, slice_index}
use Rattle.inverse_transforms.specs.Straight.{odd_quad}
use Rattle.inverse_transforms.proofs.LaneLemmas.{four_begin, four_step, four_end, FourSmall, FourFits}
use Rattle.inverse_transforms.proofs.narrow.odd_lanes.Goals as goal

pub loop-j-init : goal.loop-j-init
loop-j-init c = four_begin _ _ _ _ _ _ _ _ _ _ refl refl refl refl

pub loop-j-preserved : goal.loop-j-preserved
loop-j-preserved c =
    let in_i32 : FourFits c.odd_quad-v.result = record { first = search rules; second = search rules; third = search rules; fourth = search rules } in
    let low = c.loop-j-test.true in
    let small : FourSmall c.args.a.now c.args.b.now c.args.c.now c.args.d.now c.loop-j.j = record {
      first = omega (arith, c.requires.few c.loop-j.j low);
      second = omega (arith, c.requires.few c.loop-j.j low);
      third = omega (arith, c.requires.few c.loop-j.j low);
      fourth = omega (arith, c.requires.few c.loop-j.j low);
    } in
    four_step (2 ^ 15) (odd_quad (slice_index c.args.angles 0) (slice_index c.args.angles 1) (slice_index c.args.angles 2)) c.args.a.now c.args.b.now c.args.c.now c.args.d.now
    _ _ _ _ _ _ _ c.odd_quad-v.result in_i32 low small c.odd_quad-v.ensures c.four_fit-fit.ensures c.loop-j.invariant

pub returns-clause-made : goal.returns-clause-made
returns-clause-made c = (four_end _ _ _ _ _ _ _ _ _ _ _ _ c.loop-j.auto.j-end c.loop-j-test.false c.loop-j.invariant).made

pub returns-clause-fit : goal.returns-clause-fit
returns-clause-fit c = (four_end _ _ _ _ _ _ _ _ _ _ _ _ c.loop-j.auto.j-end c.loop-j-test.false c.loop-j.invariant).fit
