-- Colours that are read (6.2.2 of the standard) can be written.
use Rattle.std.proofs.Common.{◌≡◌, ◌∙◌, ℕ, ◌≤◌, ◌<◌, Bool, true, false, refl, sym, ap, arith}
use Rattle.std.specs.Prelude.{◌≢◌, not, ◌&&◌, ◌==◌, nat_lt, if◌then◌else◌}
use Rattle.std.proofs.lemmas.Bool.{agree_below_at, eqb-true, eqb-false, ltb-true, ltb-false}
use Rattle.vp9_types.specs.declared.rule.Rule.TheVariants.{ColourConfig}
use Rattle.vp9_types.specs.declared.shape.Depth.{Depth}
use Rattle.vp9_types.specs.declared.shape.Depth.TheVariants.{Eight, Ten, Twelve}
use Rattle.vp9_types.specs.Syntax.{check}
use Rattle.frame_headers.specs.declared.color.ColorSpace.TheVariants.{Rgb}
use Rattle.frame_headers.specs.declared.field.FieldName.TheVariants as name
use Rattle.frame_headers.specs.Color.{color_space_of, is_odd_profile, bit_depth, reserved_zero, coded_subsampling, subsampling, yuv_config, rgb_config, color_config, intra_only_color}
use Rattle.frame_headers.specs.Fields.{f, flag_field}
use Rattle.header_writer.specs.WellFormed.{IsColor, IsIntraOnlyColor}
use Rattle.header_checks.specs.ColorTests.{is_rgb}
use Rattle.header_checks.proofs.Readings.{Yields, yields_bind, yields_map, yields_after, yields_if, yields_check, field_yields, no_true}

---- Depths ----

record IsDepth (profile : ℕ) (depth : Depth) : Type 0 where
  eight : profile < 2 → depth ≡ Eight
  more : 2 ≤ profile → depth ≢ Eight

not_eight : (twelve : Bool) → (if twelve then Twelve else Ten) ≢ Eight
not_eight true is = cc
not_eight false is = cc

depth_yields : (profile : ℕ) → Yields (bit_depth profile) (IsDepth profile)
unfolding bit_depth
depth_yields profile = yields_if (nat_lt profile 2) _ _ (IsDepth profile)
    (λ is. let low = ltb-true profile 2 is in record { eight = λ h. refl; more = λ h. absurd (omega (arith, low, h)) })
    (λ is. let high = ltb-false profile 2 is in yields_after (flag_field name.TenOrTwelveBit) _ (IsDepth profile)
    (λ twelve. record { eight = λ h. absurd (omega (arith, high, h)); more = λ h. not_eight twelve }))

---- Subsampling ----

record IsSampling (profile : ℕ) (sampling : Bool × Bool) : Type 0 where
  even : is_odd_profile profile ≡ false → (sampling.0 ≡ true) × (sampling.1 ≡ true)
  odd : is_odd_profile profile ≡ true → sampling.0 ≡ true → sampling.1 ≡ false

not_both : (ss_x ss_y : Bool) → not (ss_x && ss_y) ≡ true → ss_x ≡ true → ss_y ≡ false
not_both true true is horizontal = no_true is
not_both true false is horizontal = refl
not_both false ss_y is horizontal = no_true horizontal

sampling_yields : (profile : ℕ) → Yields (subsampling profile) (IsSampling profile)
unfolding subsampling coded_subsampling
sampling_yields profile = yields_if (is_odd_profile profile) _ _ (IsSampling profile)
    (λ is. yields_after (flag_field name.SubsamplingX) _ (IsSampling profile) (λ ss_x. yields_after (flag_field name.SubsamplingY) _ (IsSampling profile)
    (λ ss_y. let one = not (ss_x && ss_y) in
    yields_bind (check one ColourConfig) _ (λ u. one ≡ true) (IsSampling profile) (yields_check one ColourConfig)
    (λ u is_one. yields_after reserved_zero _ (IsSampling profile) (λ v. record { even = λ no. absurd cc; odd = λ yes. not_both ss_x ss_y is_one })))))
    (λ is. record { even = λ no. (refl, refl); odd = λ yes. absurd cc })

---- Colours ----

not_rgb : (space : ℕ) → space < 7 → color_space_of space ≢ Rgb
not_rgb space low is = no_true (sym (agree_below_at (λ code. is_rgb (color_space_of code)) (λ code. false) 7 space refl low) ∙ ap is_rgb is)

yuv_yields : (profile : ℕ) (depth : Depth) (space : ℕ) → IsDepth profile depth → space < 7 → Yields (yuv_config profile depth space) (IsColor profile)
unfolding yuv_config
yuv_yields profile depth space is_depth low =
    yields_after (flag_field name.ColorRange) _ (IsColor profile)
    (λ full. yields_bind (subsampling profile) _ (IsSampling profile) (IsColor profile) (sampling_yields profile)
    (λ sampling is. record { eight = is_depth.eight; more = is_depth.more; rgb = λ rgb. absurd (not_rgb space low rgb); even = is.even; odd = is.odd }))

rgb_yields : (profile : ℕ) (depth : Depth) → IsDepth profile depth → Yields (rgb_config profile depth) (IsColor profile)
unfolding rgb_config
rgb_yields profile depth is_depth = yields_if (is_odd_profile profile) _ _ (IsColor profile)
    (λ is. yields_after reserved_zero _ (IsColor profile)
    (λ u. record { eight = is_depth.eight; more = is_depth.more; rgb = λ rgb. (is, refl, refl, refl); even = λ no. absurd cc; odd = λ yes horizontal. refl }))
    (λ is. tt)

pub color_yields : (profile : ℕ) → Yields (color_config profile) (IsColor profile)
unfolding color_config
color_yields profile =
    yields_bind (bit_depth profile) _ (IsDepth profile) (IsColor profile) (depth_yields profile)
    (λ depth is_depth. yields_bind (f name.ColorSpace 3) _ (λ v. v < 8) (IsColor profile) (field_yields name.ColorSpace 3)
    (λ space low. yields_if (space == 7) _ _ (IsColor profile) (λ is. rgb_yields profile depth is_depth)
    (λ is. yuv_yields profile depth space is_depth (let other = eqb-false space 7 is in omega (arith, low, other)))))

pub intra_color_yields : (profile : ℕ) → Yields (intra_only_color profile) (IsIntraOnlyColor profile)
unfolding intra_only_color
intra_color_yields profile = yields_if (profile == 0) _ _ (IsIntraOnlyColor profile)
    (λ is. (λ low. refl, λ high. absurd (high (eqb-true profile 0 is))))
    (λ is. yields_map (color_config profile) (IsColor profile) (IsIntraOnlyColor profile) (color_yields profile)
    (λ color is_color. (λ low. absurd (eqb-false profile 0 is low), λ high. is_color)))
