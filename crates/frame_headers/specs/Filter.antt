-- The loop filter's parameters (6.2.8 and 7.2.8 of the standard).
use Rattle.std.specs.Prelude.{ℤ, if◌then◌else◌}
use Rattle.vp9_types.specs.Syntax.{done, ◌>>=◌}
use Rattle.vp9_types.specs.Each.{each}
use Rattle.frame_headers.specs.declared.field.FieldName.{FieldName}
use Rattle.frame_headers.specs.declared.field.FieldName.TheVariants as name
use Rattle.frame_headers.specs.declared.filter.LoopDeltas.{LoopDeltas}
use Rattle.frame_headers.specs.declared.filter.LoopFilter.{LoopFilter}
use Rattle.frame_headers.specs.Fields.{Table, f, flag_field, su}

-- a delta is coded, or stays as it was
unfoldable pub coded_delta : FieldName → FieldName → ℤ → Table ℤ
coded_delta update delta old = do
  coded ← flag_field update
  if coded then su delta 6 else done old

unfoldable pub coded_deltas : LoopDeltas → Table LoopDeltas
coded_deltas old = do
  reference ← each (coded_delta name.UpdateRefDelta name.LoopFilterRefDelta) old.reference
  mode ← each (coded_delta name.UpdateModeDelta name.LoopFilterModeDelta) old.mode
  done (record { reference = reference; mode = mode })

unfoldable pub delta_changes : LoopDeltas → Table LoopDeltas
delta_changes old = do
  update ← flag_field name.LoopFilterDeltaUpdate
  if update then coded_deltas old else done old

unfoldable pub loop_filter_params : LoopDeltas → Table LoopFilter
loop_filter_params old = do
  level ← f name.LoopFilterLevel 6
  sharpness ← f name.LoopFilterSharpness 3
  enabled ← flag_field name.LoopFilterDeltaEnabled
  deltas ← if enabled then delta_changes old else done old
  done (record { level = level; sharpness = sharpness; delta_enabled = enabled; deltas = deltas })
