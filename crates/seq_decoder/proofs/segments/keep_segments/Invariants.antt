use Rattle.std.proofs.Common.{◌≡◌, Some, take}
use Rattle.block_geometry.specs.FrameShapes.{places_of}
use Rattle.frame_headers.specs.HeaderState.{shape_of}
use Rattle.frame_state.specs.KeptColumns.{blocks_of}
use Rattle.frame_state.specs.FrameReading.{all_blocks}
use Rattle.inter_modes.specs.LeftSegments.{segments_after}
use Rattle.block_plan.specs.SegmentMaps.{id_map}
use Rattle.seq_decoder.specs.Code.{HasPlaces}
use Rattle.seq_decoder.proofs.segments.keep_segments.Given as goal

abbrev pub invariant-loop-column : goal.invariant-loop-column
invariant-loop-column l = record {
  places : HasPlaces (Some l.header.size) (Some l.map);
  held : id_map l.map ≡ segments_after l.header.params.segmentation (places_of (shape_of l.header)) (all_blocks (blocks_of (take l.column-index l.columns))) (id_map l.initial.map);
}
