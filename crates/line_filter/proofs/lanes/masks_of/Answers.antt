use Rattle.std.proofs.Common.{arith}
use Rattle.line_filter.specs.Code.{is_narrowed, is_smoothed, lanes_of, line_of, near_at}
use Rattle.line_filter.proofs.KeptLines.{none_more}
use Rattle.line_filter.proofs.NearMasks.{narrow_at, smooth_at}
use Rattle.line_filter.proofs.lanes.masks_of.Goals as goal

pub loop-j-init : goal.loop-j-init
loop-j-init c = record { narrow = λ none j low. absurd (omega arith); smooth = λ none j low. absurd (omega arith) }

pub loop-j-preserved : goal.loop-j-preserved
loop-j-preserved c =
    let i = c.loop-j.invariant in let l = c.args.l in let x = lanes_of c.args.x.now in record {
      narrow = none_more (λ j. is_narrowed l (line_of (near_at x j))) c.loop-j.narrow _ c.loop-j.j
          (narrow_at l x c.loop-j.j c.near-line.result c.filter_mask-calm.result c.flat_mask-flat.result c.near-line.ensures c.filter_mask-calm.ensures c.flat_mask-flat.ensures) i.narrow;
      smooth = none_more (λ j. is_smoothed l (line_of (near_at x j))) c.loop-j.smooth _ c.loop-j.j
          (smooth_at l x c.loop-j.j c.near-line.result c.filter_mask-calm.result c.flat_mask-flat.result c.near-line.ensures c.filter_mask-calm.ensures c.flat_mask-flat.ensures) i.smooth;
    }

pub returns-clause-narrow : goal.returns-clause-narrow
returns-clause-narrow c = λ none j low. c.loop-j.invariant.narrow none j (omega (arith, low, c.loop-j-test.false))

pub returns-clause-smooth : goal.returns-clause-smooth
returns-clause-smooth c = λ none j low. c.loop-j.invariant.smooth none j (omega (arith, low, c.loop-j-test.false))
