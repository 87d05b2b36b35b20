-- Tests of colours (6.2.2 and 7.2.2 of the standard).
use Rattle.std.specs.Prelude.{ℕ, Bool, true, false, not, ◌&&◌, nat_eq, nat_lt, if◌then◌else◌}
use Rattle.vp9_types.specs.declared.shape.Depth.{Depth}
use Rattle.vp9_types.specs.declared.shape.Depth.TheVariants.{Eight}
use Rattle.frame_headers.specs.Color.{default_color, is_odd_profile}
use Rattle.frame_headers.specs.declared.color.ColorConfig.{ColorConfig}
use Rattle.frame_headers.specs.declared.color.ColorSpace.{ColorSpace as Space}
use Rattle.frame_headers.specs.declared.color.ColorSpace.TheVariants.{Rgb}
use Rattle.header_checks.specs.Same.{same_color}

abbrev pub is_eight : Depth → Bool
is_eight Eight = true
is_eight _ = false

abbrev pub is_rgb : Space → Bool
is_rgb Rgb = true
is_rgb _ = false

-- a profile below 2 has 8 bits, the others more
abbrev pub is_depth : ℕ → Depth → Bool
is_depth profile depth = if nat_lt profile 2 then is_eight depth else not (is_eight depth)

-- RGB isn't subsampled and has the full range, all else of odd profiles isn't 4:2:0
abbrev pub is_odd_sampling : ColorConfig → Bool
is_odd_sampling color = if is_rgb color.space then color.full_range && not color.ss_x && not color.ss_y else not (color.ss_x && color.ss_y)

-- even profiles have 4:2:0, and no RGB
abbrev pub is_even_sampling : ColorConfig → Bool
is_even_sampling color = not (is_rgb color.space) && color.ss_x && color.ss_y

abbrev pub is_sampling : ℕ → ColorConfig → Bool
is_sampling profile color = if is_odd_profile profile then is_odd_sampling color else is_even_sampling color

unfoldable pub is_color : ℕ → ColorConfig → Bool
is_color profile color = is_depth profile color.depth && is_sampling profile color

-- an intra-only frame of profile 0 codes no colours
unfoldable pub is_intra_only_color : ℕ → ColorConfig → Bool
is_intra_only_color profile color = if nat_eq profile 0 then same_color color default_color else is_color profile color
