use Rattle.std.proofs.Common.{◌≡◌, take}
use Rattle.block_plan.specs.SegmentMaps.{id_map}
use Rattle.inter_modes.specs.LeftSegments.{segments_of}
use Rattle.inter_modes.proofs.segments.put_segments.Given as goal

abbrev pub invariant-loop-block : goal.invariant-loop-block
invariant-loop-block l = record {
  rows : l.map.rows ≡ l.initial.map.rows;
  cols : l.map.cols ≡ l.initial.map.cols;
  map : id_map l.map ≡ segments_of (record { rows = l.initial.map.rows; cols = l.initial.map.cols }) (take l.block-index l.blocks) (id_map l.initial.map);
}
