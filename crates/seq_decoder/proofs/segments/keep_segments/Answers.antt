use Rattle.std.proofs.Common.{◌≡◌, ◌∙◌, sym, ap, subst, take}
use Rattle.std.specs.Prelude.{Some}
use Rattle.block_geometry.specs.FrameShapes.{places_of}
use Rattle.block_geometry.specs.declared.transform_blocks.FramePlaces.{FramePlaces}
use Rattle.frame_headers.specs.HeaderState.{shape_of}
use Rattle.frame_state.specs.KeptColumns.{blocks_of}
use Rattle.frame_state.specs.FrameReading.{all_blocks}
use Rattle.frame_state.specs.declared.columns.TileColumn.{TileColumn}
use Rattle.inter_modes.specs.LeftSegments.{segments_after}
use Rattle.block_plan.specs.SegmentMaps.{id_map}
use Rattle.seq_decoder.specs.Code.{HasPlaces}
use Rattle.seq_decoder.proofs.SegmentLemmas.{no_column_yet, one_column_more}
use Rattle.seq_decoder.proofs.segments.keep_segments.Goals as goal

pub loop-column-init : goal.loop-column-init
loop-column-init c = record {
  places = subst (HasPlaces (Some c.args.header.now.size)) c.in-Some.is c.requires.places;
  held = no_column_yet c.args.header.now.params.segmentation (places_of (shape_of c.args.header.now)) (id_map c.in-Some.map);
}

pub loop-column-preserved : goal.loop-column-preserved
loop-column-preserved c =
    let segmentation = c.args.header.now.params.segmentation in
    let places = c.loop-column.invariant.places in
    let frame : ◌≡◌ {A = FramePlaces} (record { rows = c.loop-column.map.rows; cols = c.loop-column.map.cols }) (places_of (shape_of c.args.header.now)) =
    (λ i. record { rows = places.0 i; cols = places.1 i }) in
    let updated = c.update_segments.ensures in record {
      places = (updated.rows ∙ places.0, updated.cols ∙ places.1);
      held = updated.map
          ∙ (λ i. segments_after segmentation (frame i) (c.blocks-in-loop-column.ensures i) (c.loop-column.invariant.held i))
          ∙ ap (λ (column : TileColumn). segments_after segmentation (places_of (shape_of c.args.header.now)) column.grid.blocks
          (segments_after segmentation (places_of (shape_of c.args.header.now)) (all_blocks (blocks_of (take c.loop-column.column-index c.args.columns.now))) (id_map c.in-Some.map))) c.column-item.is
          ∙ sym (one_column_more segmentation (places_of (shape_of c.args.header.now)) c.args.columns.now c.loop-column.column-index c.column-item.result (id_map c.in-Some.map) c.loop-column-test.true);
    }
