-- The quantisers' parameters (6.2.9, 6.2.10 and 7.2.9 of the standard).
use Rattle.std.specs.Prelude.{ℤ, pos, negsuc, Bool, false, ◌==◌, ◌&&◌, if◌then◌else◌}
use Rattle.vp9_types.specs.Syntax.{done, ◌>>=◌}
use Rattle.frame_headers.specs.declared.field.FieldName.TheVariants as name
use Rattle.frame_headers.specs.declared.quantizer.Quantizer.{Quantizer as Params}
use Rattle.frame_headers.specs.Fields.{Table, f, flag_field, su}

unfoldable pub delta_q : Table ℤ
delta_q = do
  coded ← flag_field name.DeltaCoded
  if coded then su name.DeltaQ 4 else done (pos 0)

unfoldable pub quantization_params : Table Params
quantization_params = do
  base ← f name.BaseQIdx 8
  y_dc ← delta_q
  uv_dc ← delta_q
  uv_ac ← delta_q
  done (record { base = base; y_dc_delta = y_dc; uv_dc_delta = uv_dc; uv_ac_delta = uv_ac })

abbrev pub is_zero : ℤ → Bool
is_zero (pos n) = n == 0
is_zero (negsuc n) = false

-- index 0 and no deltas
abbrev pub is_lossless : Params → Bool
is_lossless q = q.base == 0 && is_zero q.y_dc_delta && is_zero q.uv_dc_delta && is_zero q.uv_ac_delta
