-- The colour configuration (6.2.2 and 7.2.2 of the standard).
use Rattle.std.specs.Prelude.{ℕ, true, not, ◌==◌, if◌then◌else◌, Bool, false, nat_lt, ◌%◌, ◌&&◌}
use Rattle.vp9_types.specs.declared.rule.Rule.TheVariants.{ColourConfig, ReservedBit}
use Rattle.vp9_types.specs.declared.shape.Depth.{Depth}
use Rattle.vp9_types.specs.declared.shape.Depth.TheVariants.{Eight, Ten, Twelve}
use Rattle.vp9_types.specs.Syntax.{done, ◌>>=◌, ◌>>◌, check, broken}
use Rattle.frame_headers.specs.declared.color.ColorConfig.{ColorConfig}
use Rattle.frame_headers.specs.declared.color.ColorSpace.{ColorSpace as Space}
use Rattle.frame_headers.specs.declared.color.ColorSpace.TheVariants.{Unknown, Bt601, Bt709, Smpte170, Smpte240, Bt2020, Reserved, Rgb}
use Rattle.frame_headers.specs.declared.field.FieldName.TheVariants as name
use Rattle.frame_headers.specs.Fields.{Table, f, flag_field}

abbrev pub color_space_of : ℕ → Space
color_space_of code =
    if code == 0 then Unknown else (if code == 1 then Bt601 else (if code == 2 then Bt709 else (if code == 3 then Smpte170
    else (if code == 4 then Smpte240 else (if code == 5 then Bt2020 else (if code == 6 then Reserved else Rgb))))))

-- profiles 1 and 3 code the subsampling of chroma, 0 and 2 have 4:2:0
abbrev pub is_odd_profile : ℕ → Bool
is_odd_profile profile = profile % 2 == 1

unfoldable pub bit_depth : ℕ → Table Depth
bit_depth profile = if nat_lt profile 2 then done Eight else (flag_field name.TenOrTwelveBit >>= λ twelve. done (if twelve then Twelve else Ten))

unfoldable pub reserved_zero : Table (Unit {0})
reserved_zero = do
  reserved ← flag_field name.ReservedZero
  check (not reserved) ReservedBit

unfoldable pub coded_subsampling : Table (Bool × Bool)
coded_subsampling = do
  ss_x ← flag_field name.SubsamplingX
  ss_y ← flag_field name.SubsamplingY
  check (not (ss_x && ss_y)) ColourConfig
  reserved_zero
  done (ss_x, ss_y)

unfoldable pub subsampling : ℕ → Table (Bool × Bool)
subsampling profile = if is_odd_profile profile then coded_subsampling else done (true, true)

unfoldable pub yuv_config : ℕ → Depth → ℕ → Table ColorConfig
yuv_config profile depth space = do
  full ← flag_field name.ColorRange
  sampling ← subsampling profile
  done (record { depth = depth; space = color_space_of space; full_range = full; ss_x = sampling.0; ss_y = sampling.1 })

unfoldable pub rgb_config : ℕ → Depth → Table ColorConfig
rgb_config profile depth =
    if is_odd_profile profile
    then (reserved_zero >> done (record { depth = depth; space = Rgb; full_range = true; ss_x = false; ss_y = false }))
    else broken ColourConfig

unfoldable pub color_config : ℕ → Table ColorConfig
color_config profile = do
  depth ← bit_depth profile
  space ← f name.ColorSpace 3
  if space == 7 then rgb_config profile depth else yuv_config profile depth space

-- what a frame of profile 0 has that codes none: 8 bits, 4:2:0
abbrev pub default_color : ColorConfig
default_color = record { depth = Eight; space = Bt601; full_range = false; ss_x = true; ss_y = true }

unfoldable pub intra_only_color : ℕ → Table ColorConfig
intra_only_color profile = if profile == 0 then done default_color else color_config profile
