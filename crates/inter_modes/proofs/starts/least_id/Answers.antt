use Rattle.std.proofs.Common.{◌≤◌}
use Rattle.block_geometry.specs.Parts.{part_inside}
use Rattle.block_plan.specs.SegmentMaps.{id_map}
use Rattle.inter_modes.proofs.Least.{least_below}
use Rattle.inter_modes.proofs.starts.least_id.Goals as goal

pub returns-clause-most : goal.returns-clause-most
returns-clause-most c =
    let m = c.args.map.now in
    let at = c.args.at in
    rw c.predicted.ensures (least_below (id_map m) (part_inside (record { rows = m.rows; cols = m.cols }) at.row at.col at.size))
