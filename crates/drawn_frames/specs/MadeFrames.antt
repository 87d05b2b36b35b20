-- The frames of a made stream: of two sizes, with 8 bits and 4:2:0. None codes deltas or features, so the first ones stay.
use Rattle.std.specs.Prelude.{◌≡◌, ◌⊎◌, ◌<◌, ℕ, false, true, Option, Some, None, slice_index_or}
use Rattle.vp9_types.specs.declared.shape.Depth.TheVariants.{Eight}
use Rattle.vp9_types.specs.declared.shape.Shape.{Shape}
use Rattle.frame_headers.specs.Color.{default_color}
use Rattle.frame_headers.specs.Segments.{no_features}
use Rattle.frame_headers.specs.HeaderState.{default_deltas}
use Rattle.frame_headers.specs.declared.color.ColorConfig.{ColorConfig}
use Rattle.frame_headers.specs.declared.color.ColorSpace.TheVariants.{Unknown}
use Rattle.frame_headers.specs.declared.header.FrameSize.{FrameSize}
use Rattle.frame_headers.specs.declared.persist.Persist.{Persist}

---- Sizes ----

abbrev pub whole_size : FrameSize
whole_size = record { width = 520; height = 136 }

-- half of it
abbrev pub small_size : FrameSize
small_size = record { width = 260; height = 68 }

abbrev pub IsMadeSize : FrameSize → Type 0
IsMadeSize size = (size ≡ whole_size) ⊎ (size ≡ small_size)

---- Colours ----

-- what key frames code; intra-only frames code none and have the default ones (7.2 of the standard), inter frames those before
abbrev pub key_color : ColorConfig
key_color = record { depth = Eight; space = Unknown; full_range = false; ss_x = true; ss_y = true }

abbrev pub IsMadeColor : ColorConfig → Type 0
IsMadeColor color = (color ≡ key_color) ⊎ (color ≡ default_color)

---- Between frames ----

abbrev pub made_shape : FrameSize → Shape
made_shape size = record { w = size.width; h = size.height; depth = Eight; ss_x = true; ss_y = true }

abbrev pub IsMadeShape : Shape → Type 0
IsMadeShape shape = (shape ≡ made_shape whole_size) ⊎ (shape ≡ made_shape small_size)

-- a slot holds a frame
abbrev pub IsMadeSlot : Option Shape → Type 0
IsMadeSlot (Some shape) = IsMadeShape shape
IsMadeSlot None = ⊥

-- what persists behind each frame of a made stream, from its first key frame on
pub record IsMade (before : Persist) : Type 0 where
  pub slots : (i : ℕ) → i < 8 → IsMadeSlot (slice_index_or before.slots i None)
  pub color : IsMadeColor before.color
  pub deltas : before.deltas ≡ default_deltas
  pub features : before.features ≡ no_features
