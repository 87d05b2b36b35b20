-- The frames that blocks are drawn for, as a test.
use Rattle.std.specs.Prelude.{Bool, true, false, not, ◌&&◌, ◌||◌, Option, Some, None}
use Rattle.std.specs.List.{list_all}
use Rattle.std.specs.Option.{is_none}
use Rattle.compressed_header.specs.ReferenceProbs.{is_switchable}
use Rattle.frame_headers.specs.declared.header.FrameFilter.{FrameFilter}
use Rattle.frame_headers.specs.declared.header.FrameFilter.TheVariants.{Switchable}
use Rattle.frame_headers.specs.declared.header.FrameKind.{FrameKind}
use Rattle.frame_headers.specs.declared.header.FrameKind.TheVariants as frame
use Rattle.frame_headers.specs.declared.header.Header.{Header}
use Rattle.frame_headers.specs.declared.segments.MapUpdate.{MapUpdate}
use Rattle.frame_headers.specs.declared.segments.SegmentFeatures.{SegmentFeatures}
use Rattle.frame_headers.specs.declared.segments.Segmentation.{Segmentation}

-- a segment without features
abbrev pub is_plain : SegmentFeatures → Bool
is_plain f = is_none f.quantizer && is_none f.level && is_none f.reference && not f.skip

-- the map is updated, and not predicted from the one before it
abbrev pub is_updated_anew : Option MapUpdate → Bool
is_updated_anew (Some update) = not update.temporal
is_updated_anew None = false

-- no segments, or such that have a map of their own, and no features (6.2.11: segmentation_params)
abbrev pub draws_segments : Segmentation → Bool
draws_segments s = not s.enabled || (is_updated_anew s.map && list_all is_plain s.features.segments)

-- the blocks of an inter frame name their filters
abbrev pub names_filters : FrameKind → Bool
names_filters (frame.Inter fields) = is_switchable fields.filter
names_filters _ = true

unfoldable pub is_drawn_frame : Header → Bool
is_drawn_frame header = draws_segments header.params.segmentation && names_filters header.kind
