-- What the calls of the code answer, in parts.
use Rattle.std.specs.Prelude.{◌≡◌, true, false, ℕ, None}
use Rattle.frame_headers.specs.Color.{is_odd_profile}
use Rattle.frame_headers.specs.declared.color.ColorConfig.{ColorConfig}
use Rattle.frame_headers.specs.declared.color.ColorSpace.TheVariants.{Rgb}
use Rattle.frame_headers.specs.declared.filter.LoopDeltas.{LoopDeltas}
use Rattle.frame_headers.specs.declared.filter.LoopFilter.{LoopFilter}
use Rattle.frame_headers.specs.declared.segments.Features.{Features}
use Rattle.frame_headers.specs.declared.segments.Segmentation.{Segmentation}
use Rattle.header_writer.specs.WellFormed.{AreDeltas}

-- the sampling of colours is one of the profile
pub record IsSampling (profile : ℕ) (color : ColorConfig) : Type 0 where
  pub rgb : color.space ≡ Rgb → (is_odd_profile profile ≡ true) × (color.full_range ≡ true) × (color.ss_x ≡ false) × (color.ss_y ≡ false)
  pub even : is_odd_profile profile ≡ false → (color.ss_x ≡ true) × (color.ss_y ≡ true)
  pub odd : is_odd_profile profile ≡ true → color.ss_x ≡ true → color.ss_y ≡ false

-- the deltas of a loop filter can be coded
pub record CanCodeDeltas (old : LoopDeltas) (filter : LoopFilter) : Type 0 where
  pub disabled : filter.delta_enabled ≡ false → filter.deltas ≡ old
  pub reference : AreDeltas old.reference filter.deltas.reference
  pub mode : AreDeltas old.mode filter.deltas.mode

-- without segments nothing of them is coded
abbrev pub IsCoded : Features → Segmentation → Type 0
IsCoded old segmentation = segmentation.enabled ≡ false → (segmentation.map ≡ None) × (segmentation.features ≡ old)
