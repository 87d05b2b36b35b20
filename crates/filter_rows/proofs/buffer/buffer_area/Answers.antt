use Rattle.std.proofs.Common.{arith}
use Rattle.filter_rows.proofs.Places.{area_is}
use Rattle.filter_rows.proofs.buffer.buffer_area.Goals as goal

pub returns-clause-value : goal.returns-clause-value
returns-clause-value c = let a = c.args in
    area_is a.shape.now a.plane a.sr c.coded_area-whole.result c.sub_y-ss_y.result c.min-rows.result c.saturating_sub-changed.result c.min.result
    c.coded_area-whole.ensures.value c.sub_y-ss_y.ensures (omega (arith, c.halved.ensures)) (omega (arith, c.halved-2.ensures)) (omega arith)

pub returns-clause-near : goal.returns-clause-near
returns-clause-near c = let near = c.coded_area-whole.ensures.near in record { high = omega (arith, near.high); wide = omega (arith, near.wide) }
