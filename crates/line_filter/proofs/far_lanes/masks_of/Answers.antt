use Rattle.std.proofs.Common.{arith}
use Rattle.line_filter.specs.Code.{lanes_of, line_between, is_flat_far, is_near_alone}
use Rattle.line_filter.specs.Lines.{filter_mask}
use Rattle.line_filter.proofs.KeptLines.{none_more, calm_at, flat_at}
use Rattle.line_filter.proofs.NearMasks.{near_alone_at}
use Rattle.line_filter.proofs.far_lanes.masks_of.Goals as goal

pub loop-j-init : goal.loop-j-init
loop-j-init c = record { calm = λ none j low. absurd (omega arith); flat = λ none j low. absurd (omega arith); near = λ none j low. absurd (omega arith) }

pub loop-j-preserved : goal.loop-j-preserved
loop-j-preserved c =
    let i = c.loop-j.invariant in let l = c.args.l in let a = lanes_of c.args.above.now in let b = lanes_of c.args.below.now in record {
      calm = none_more (λ j. filter_mask l (line_between a b j)) c.loop-j.calm c.filter_mask-is_calm.result c.loop-j.j
          (calm_at l a b c.loop-j.j c.near-x.result c.far-y.result c.filter_mask-is_calm.result c.near-x.ensures c.far-y.ensures c.filter_mask-is_calm.ensures) i.calm;
      flat = none_more (λ j. is_flat_far l (line_between a b j)) c.loop-j.flat _ c.loop-j.j
          (flat_at l a b c.loop-j.j c.near-x.result c.far-y.result c.filter_mask-is_calm.result c.flat_mask.result c.flat_mask2.result c.near-x.ensures c.far-y.ensures
          c.filter_mask-is_calm.ensures c.flat_mask.ensures c.flat_mask2.ensures) i.flat;
      near = none_more (λ j. is_near_alone l (line_between a b j)) c.loop-j.other _ c.loop-j.j
          (near_alone_at l a b c.loop-j.j c.near-x.result c.far-y.result c.filter_mask-is_calm.result c.flat_mask.result c.flat_mask2.result c.near-x.ensures c.far-y.ensures
          c.filter_mask-is_calm.ensures c.flat_mask.ensures c.flat_mask2.ensures) i.near;
    }

pub returns-clause-calm : goal.returns-clause-calm
returns-clause-calm c = λ none j low. c.loop-j.invariant.calm none j (omega (arith, low, c.loop-j-test.false))

pub returns-clause-flat : goal.returns-clause-flat
returns-clause-flat c = λ none j low. c.loop-j.invariant.flat none j (omega (arith, low, c.loop-j-test.false))

pub returns-clause-near : goal.returns-clause-near
returns-clause-near c = λ none j low. c.loop-j.invariant.near none j (omega (arith, low, c.loop-j-test.false))
