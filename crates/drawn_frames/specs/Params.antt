-- The parameters that end a header (6.2.8 to 6.2.14 of the standard), as they are drawn.
use Rattle.std.specs.Prelude.{ℕ, pos, true, false, nat_eq, Some, None, replicate, if◌then◌else◌}
use Rattle.frame_headers.specs.Segments.{no_features}
use Rattle.frame_headers.specs.HeaderState.{default_deltas}
use Rattle.frame_headers.specs.declared.header.FrameParams.{FrameParams}
use Rattle.frame_headers.specs.declared.segments.Segmentation.{Segmentation}
use Rattle.frame_headers.specs.declared.tiles.TileInfo.{TileInfo}
use Rattle.drawn_symbols.specs.Draws.{Drawn, stay, ◌>>=◌, draw}
use Rattle.drawn_frames.specs.FrameStarts.{draw_chance}

abbrev pub segmentation_off : Segmentation
segmentation_off = record { enabled = false; map = None; features = no_features }

-- segments with a map of their own, and without features
abbrev pub mapped_segments : Segmentation
mapped_segments = record {
  enabled = true;
  map = Some (record { tree = replicate 7 128; temporal = false; prediction = replicate 3 255 });
  features = no_features;
}

-- one frame of four has segments
unfoldable pub draw_segmentation : Drawn Segmentation
draw_segmentation = draw_chance 4 >>= λ enabled. stay (if enabled then mapped_segments else segmentation_off)

-- 520 samples can be divided into two columns, 260 cannot (6.2.14)
unfoldable pub draw_columns : ℕ → Drawn ℕ
draw_columns width = if nat_eq width 520 then draw 2 else stay 0

unfoldable pub draw_tiles : ℕ → Drawn TileInfo
draw_tiles width = do
  columns ← draw_columns width
  rows ← draw 3
  stay (record { columns_log2 = columns; rows_log2 = rows })

-- The compressed header is written later, and its size with it.
unfoldable pub draw_params : ℕ → Drawn FrameParams
draw_params width = do
  level ← draw 64
  sharpness ← draw 8
  base ← draw 128
  segmentation ← draw_segmentation
  tiles ← draw_tiles width
  stay (record {
    loop_filter = record { level = level; sharpness = sharpness; delta_enabled = true; deltas = default_deltas };
    quantizer = record { base = base; y_dc_delta = pos 0; uv_dc_delta = pos 0; uv_ac_delta = pos 0 };
    segmentation = segmentation;
    tiles = tiles;
    compressed_size = 1;
  })
