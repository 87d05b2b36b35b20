use Rattle.std.proofs.Common.{◌+◌, ◌*◌, ◌/◌, get_or, map}
use Rattle.vp9_tables.specs.Filters.{taps_of}
use Rattle.tap_filter.specs.Filter.{filtered}
use Rattle.inter_places.specs.Axes.{offset, phase}
use Rattle.inter_predict.proofs.Blocks.{rows_more}
use Rattle.inter_predict.proofs.down.scale_down.Goals as goal

pub loop-i-preserved : goal.loop-i-preserved
loop-i-preserved g c = let a = c.args in let f = a.down.now in let v = g.P.Sample.value in
    rows_more (λ i j. filtered f.most (taps_of f.kind (phase f.axis i)) (λ k. get_or (map v a.lines.now) ((offset f.axis i / 16 + k) * a.n + j) 0)) a.n c.loop-i.i
    (map v c.loop-i.out) (map v c.scale_row.new.out) c.loop-i.invariant c.scale_row.ensures.row c.scale_row.ensures.before
