-- The frames that blocks are drawn for.
use Rattle.std.specs.Prelude.{◌≡◌, ℕ, true, false, Option, Some, None, slice_index_or}
use Rattle.frame_headers.specs.Segments.{no_segment_features}
use Rattle.frame_headers.specs.declared.header.FrameFilter.TheVariants.{Switchable}
use Rattle.frame_headers.specs.declared.header.FrameKind.{FrameKind}
use Rattle.frame_headers.specs.declared.header.FrameKind.TheVariants as frame
use Rattle.frame_headers.specs.declared.header.Header.{Header}
use Rattle.frame_headers.specs.declared.segments.MapUpdate.{MapUpdate}
use Rattle.frame_headers.specs.declared.segments.Segmentation.{Segmentation}

-- the map is updated, and not predicted from the one before it
abbrev pub IsUpdatedAnew : Option MapUpdate → Type 0
IsUpdatedAnew (Some update) = update.temporal ≡ false
IsUpdatedAnew None = ⊥

-- no segments, or such that have a map of their own, and no features (6.2.11: segmentation_params)
pub record AreDrawnSegments (segmentation : Segmentation) : Type 0 where
  pub updated : segmentation.enabled ≡ true → IsUpdatedAnew segmentation.map
  pub plain : segmentation.enabled ≡ true → (k : ℕ) → slice_index_or segmentation.features.segments k no_segment_features ≡ no_segment_features

-- the blocks of an inter frame name their filters
abbrev pub IsDrawnKind : FrameKind → Type 0
IsDrawnKind (frame.Inter fields) = fields.filter ≡ Switchable
IsDrawnKind _ = Unit {0}

pub record IsDrawnFrame (header : Header) : Type 0 where
  pub segments : AreDrawnSegments header.params.segmentation
  pub kind : IsDrawnKind header.kind
