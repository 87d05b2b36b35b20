-- Tests that two parts of headers are the same.
use Rattle.std.specs.Prelude.{ℕ, Bool, false, true, ◌&&◌, ◌==◌, nat_eq, Option, Some, None}
use Rattle.std.specs.Cmp.Lexicographic.{pointwise}
use Rattle.std.specs.Option.{option_eq}
use Rattle.std.specs.Ordering.{int_eq}
use Rattle.vp9_types.specs.declared.shape.Shape.{Shape}
use Rattle.vp9_types.specs.Shapes.{depth_bits}
use Rattle.frame_headers.specs.References.{same_bit}
use Rattle.frame_headers.specs.declared.color.ColorConfig.{ColorConfig}
use Rattle.frame_headers.specs.declared.color.ColorSpace.{ColorSpace as Space}
use Rattle.frame_headers.specs.declared.color.ColorSpace.TheVariants.{Unknown, Bt601, Bt709, Smpte170, Smpte240, Bt2020, Reserved, Rgb}
use Rattle.frame_headers.specs.declared.filter.LoopDeltas.{LoopDeltas}
use Rattle.frame_headers.specs.declared.segments.FeatureReference.{FeatureReference}
use Rattle.frame_headers.specs.declared.segments.FeatureReference.TheVariants.{Intra, Last, Golden, Altref}
use Rattle.frame_headers.specs.declared.segments.Features.{Features}
use Rattle.frame_headers.specs.declared.segments.SegmentFeatures.{SegmentFeatures}

-- color_space (7.2.2 of the standard)
abbrev pub space_number : Space → ℕ
space_number Unknown = 0
space_number Bt601 = 1
space_number Bt709 = 2
space_number Smpte170 = 3
space_number Smpte240 = 4
space_number Bt2020 = 5
space_number Reserved = 6
space_number Rgb = 7

abbrev pub same_color : ColorConfig → ColorConfig → Bool
same_color color other =
    depth_bits color.depth == depth_bits other.depth && space_number color.space == space_number other.space
    && same_bit color.full_range other.full_range && same_bit color.ss_x other.ss_x && same_bit color.ss_y other.ss_y

-- a slot holds a frame of the shape
abbrev pub holds : Option Shape → Shape → Bool
holds (Some held) shape =
    nat_eq held.w shape.w && nat_eq held.h shape.h && depth_bits held.depth == depth_bits shape.depth
    && same_bit held.ss_x shape.ss_x && same_bit held.ss_y shape.ss_y
holds None shape = false

abbrev pub same_deltas : LoopDeltas → LoopDeltas → Bool
same_deltas deltas other = pointwise int_eq deltas.reference other.reference && pointwise int_eq deltas.mode other.mode

---- Features ----

-- the value of the feature (6.2.11)
abbrev pub feature_reference_number : FeatureReference → ℕ
feature_reference_number Intra = 0
feature_reference_number Last = 1
feature_reference_number Golden = 2
feature_reference_number Altref = 3

abbrev pub same_reference : Option FeatureReference → Option FeatureReference → Bool
same_reference (Some r) (Some s) = nat_eq (feature_reference_number r) (feature_reference_number s)
same_reference (Some r) None = false
same_reference None (Some s) = false
same_reference None None = true

unfoldable pub same_segment : SegmentFeatures → SegmentFeatures → Bool
same_segment f g =
    option_eq int_eq f.quantizer g.quantizer && option_eq int_eq f.level g.level && same_reference f.reference g.reference && same_bit f.skip g.skip

unfoldable pub same_features : Features → Features → Bool
same_features features other = same_bit features.absolute other.absolute && pointwise same_segment features.segments other.segments
