-- Tests of the parameters that end a header (6.2.8 to 6.2.14 of the standard).
use Rattle.std.specs.Prelude.{ℕ, max, ℤ, unsigned_abs, Bool, true, ◌&&◌, ◌||◌, nat_eq, nat_le, nat_lt, replicate, Option, Some, None}
use Rattle.std.specs.Cmp.Lexicographic.{pointwise}
use Rattle.std.specs.List.{list_all}
use Rattle.std.specs.Option.{is_none}
use Rattle.std.specs.Ordering.{int_eq}
use Rattle.frame_headers.specs.Tiles.{superblocks, min_log2, max_log2}
use Rattle.frame_headers.specs.declared.filter.LoopDeltas.{LoopDeltas}
use Rattle.frame_headers.specs.declared.filter.LoopFilter.{LoopFilter}
use Rattle.frame_headers.specs.declared.header.FrameParams.{FrameParams}
use Rattle.frame_headers.specs.declared.quantizer.Quantizer.{Quantizer as Quantisers}
use Rattle.frame_headers.specs.declared.segments.Features.{Features}
use Rattle.frame_headers.specs.declared.segments.MapUpdate.{MapUpdate}
use Rattle.frame_headers.specs.declared.segments.SegmentFeatures.{SegmentFeatures}
use Rattle.frame_headers.specs.declared.segments.Segmentation.{Segmentation}
use Rattle.frame_headers.specs.declared.tiles.TileInfo.{TileInfo}
use Rattle.header_checks.specs.Same.{same_deltas, same_features}

---- The loop filter ----

-- a delta that isn't the one before has 6 bits and a sign
abbrev pub is_delta : ℤ → ℤ → Bool
is_delta old delta = int_eq delta old || nat_lt (unsigned_abs delta) 64

-- the deltas that are allowed, and coded over the old ones
unfoldable pub are_deltas : LoopDeltas → LoopFilter → Bool
are_deltas old filter =
    (filter.delta_enabled || same_deltas filter.deltas old)
    && pointwise is_delta old.reference filter.deltas.reference && pointwise is_delta old.mode filter.deltas.mode

unfoldable pub is_loop_filter : LoopDeltas → LoopFilter → Bool
is_loop_filter old filter = nat_lt filter.level 64 && nat_lt filter.sharpness 8 && are_deltas old filter

---- The quantizer ----

-- 4 bits and a sign each
abbrev pub is_quantizer : Quantisers → Bool
is_quantizer q = nat_lt (unsigned_abs q.y_dc_delta) 16 && nat_lt (unsigned_abs q.uv_dc_delta) 16 && nat_lt (unsigned_abs q.uv_ac_delta) 16

---- Segments ----

abbrev pub is_below : ℕ → Option ℤ → Bool
is_below limit (Some value) = nat_lt (unsigned_abs value) limit
is_below limit None = true

-- quantiser indices of 8 bits and a sign, levels of 6
abbrev pub are_features : SegmentFeatures → Bool
are_features features = is_below 256 features.quantizer && is_below 64 features.level

-- without prediction its probabilities aren't coded
abbrev pub is_map : Option MapUpdate → Bool
is_map (Some map) = map.temporal || pointwise nat_eq map.prediction (replicate 3 255)
is_map None = true

-- without segments neither a map nor features are coded
unfoldable pub is_coded : Features → Segmentation → Bool
is_coded old segmentation = segmentation.enabled || is_none segmentation.map && same_features segmentation.features old

unfoldable pub is_segmentation : Features → Segmentation → Bool
is_segmentation old segmentation = is_coded old segmentation && is_map segmentation.map && list_all are_features segmentation.features.segments

---- Tiles ----

-- as many columns as the width allows
unfoldable pub is_tile_info : ℕ → TileInfo → Bool
is_tile_info width tiles =
    nat_le (min_log2 (superblocks width)) tiles.columns_log2
    && nat_le tiles.columns_log2 (max (min_log2 (superblocks width)) (max_log2 (superblocks width)))
    && nat_le tiles.rows_log2 2

---- All of it ----

-- over the deltas and features before
unfoldable pub are_params : LoopDeltas → Features → ℕ → FrameParams → Bool
are_params deltas features width params =
    is_loop_filter deltas params.loop_filter && is_quantizer params.quantizer && is_segmentation features params.segmentation
    && is_tile_info width params.tiles && nat_le 1 params.compressed_size
