-- The quantisers of a block's plane (8.6.1 of the standard: get_qindex, dc_q, ac_q).
use Rattle.std.specs.Prelude.{ℕ, ℤ, pos, ◌+ℤ◌, ◌*◌, ◌+◌, Bool, Option, Some, None, slice_index, slice_index_or, if◌then◌else◌}
use Rattle.vp9_types.specs.Shapes.{is_chroma}
use Rattle.vp9_types.specs.Sizes.{clip}
use Rattle.vp9_types.specs.declared.shape.Depth.{Depth}
use Rattle.vp9_types.specs.declared.shape.Plane.{Plane}
use Rattle.vp9_tables.specs.Numbers.{depth_number}
use Rattle.vp9_tables.specs.declared.data.quantisers.TheConstants.{DC_Q, AC_Q}
use Rattle.frame_headers.specs.declared.header.Header.{Header}
use Rattle.frame_headers.specs.declared.quantizer.Quantizer.{Quantizer}
use Rattle.frame_headers.specs.declared.segments.Segmentation.{Segmentation}
use Rattle.frame_headers.specs.Quantizer.{is_lossless}
use Rattle.frame_headers.specs.Segments.{no_segment_features}
use Rattle.residue_transforms.specs.declared.quant.Quant.{Quant}

-- a segment's own index stands in place of the frame's, or is added to it
abbrev pub with_feature : Bool → ℕ → Option ℤ → ℕ
with_feature absolute base None = base
with_feature absolute base (Some value) = clip 255 (if absolute then value else pos base +ℤ value)

-- a feature is on only in frames that have segments
unfoldable pub quantiser_index : ℕ → Segmentation → ℕ → ℕ
quantiser_index base segmentation segment =
    if segmentation.enabled
    then with_feature segmentation.features.absolute base (slice_index_or segmentation.features.segments segment no_segment_features).quantizer
    else base

abbrev pub dc_step : Depth → ℕ → ℤ → ℕ
dc_step depth index delta = slice_index DC_Q (256 * depth_number depth + clip 255 (pos index +ℤ delta))

abbrev pub ac_step : Depth → ℕ → ℤ → ℕ
ac_step depth index delta = slice_index AC_Q (256 * depth_number depth + clip 255 (pos index +ℤ delta))

-- luma has a delta for the first coefficient alone
abbrev pub quant_by_index : Depth → Quantizer → ℕ → Plane → Quant
quant_by_index depth q index plane =
    if is_chroma plane
    then record { dc = dc_step depth index q.uv_dc_delta; ac = ac_step depth index q.uv_ac_delta; depth = depth; lossless = is_lossless q }
    else record { dc = dc_step depth index q.y_dc_delta; ac = ac_step depth index (pos 0); depth = depth; lossless = is_lossless q }

unfoldable pub quant_of : Header → ℕ → Plane → Quant
quant_of header segment plane =
    quant_by_index header.color.depth header.params.quantizer (quantiser_index header.params.quantizer.base header.params.segmentation segment) plane
