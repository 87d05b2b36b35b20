-- Segmentation (6.2.11, 6.2.12 and 7.2.10 of the standard).
use Rattle.std.specs.Prelude.{ℕ, ℤ, Bool, true, false, List, Option, Some, None, ◌==◌, replicate, if◌then◌else◌}
use Rattle.vp9_types.specs.Syntax.{done, ◌>>=◌}
use Rattle.vp9_types.specs.Each.{each}
use Rattle.frame_headers.specs.declared.field.FieldName.TheVariants as name
use Rattle.frame_headers.specs.declared.segments.FeatureReference.{FeatureReference}
use Rattle.frame_headers.specs.declared.segments.FeatureReference.TheVariants.{Intra, Last, Golden, Altref}
use Rattle.frame_headers.specs.declared.segments.SegmentFeatures.{SegmentFeatures}
use Rattle.frame_headers.specs.declared.segments.Features.{Features}
use Rattle.frame_headers.specs.declared.segments.MapUpdate.{MapUpdate}
use Rattle.frame_headers.specs.declared.segments.Segmentation.{Segmentation}
use Rattle.frame_headers.specs.Fields.{Table, f, flag_field, su}

-- a probability is coded, or 255
unfoldable pub probability : Table ℕ
probability = do
  coded ← flag_field name.ProbCoded
  if coded then f name.Prob 8 else done 255

abbrev pub probability_for : ℕ → Table ℕ
probability_for old = probability

unfoldable pub prediction_probabilities : Bool → Table (List ℕ)
prediction_probabilities true = each probability_for (replicate 3 255)
prediction_probabilities false = done (replicate 3 255)

unfoldable pub update_map : Table MapUpdate
update_map = do
  tree ← each probability_for (replicate 7 255)
  temporal ← flag_field name.SegmentationTemporalUpdate
  prediction ← prediction_probabilities temporal
  done (record { tree = tree; temporal = temporal; prediction = prediction })

-- a feature with a value of some bits and a sign
unfoldable pub signed_feature : ℕ → Table (Option ℤ)
signed_feature width = do
  enabled ← flag_field name.FeatureEnabled
  if enabled then (su name.FeatureValue width >>= λ value. done (Some value)) else done None

abbrev pub reference_of : ℕ → FeatureReference
reference_of code = if code == 0 then Intra else (if code == 1 then Last else (if code == 2 then Golden else Altref))

unfoldable pub reference_feature : Table (Option FeatureReference)
reference_feature = do
  enabled ← flag_field name.FeatureEnabled
  if enabled then (f name.FeatureValue 2 >>= λ code. done (Some (reference_of code))) else done None

unfoldable pub segment_features : Table SegmentFeatures
segment_features = do
  quantizer ← signed_feature 8
  level ← signed_feature 6
  reference ← reference_feature
  skip ← flag_field name.FeatureEnabled
  done (record { quantizer = quantizer; level = level; reference = reference; skip = skip })

abbrev pub features_for : SegmentFeatures → Table SegmentFeatures
features_for old = segment_features

abbrev pub no_segment_features : SegmentFeatures
no_segment_features = record { quantizer = None; level = None; reference = None; skip = false }

abbrev pub no_features : Features
no_features = record { absolute = false; segments = replicate 8 no_segment_features }

-- all features are cleared, and read anew
unfoldable pub update_features : Table Features
update_features = do
  absolute ← flag_field name.SegmentationAbsOrDeltaUpdate
  segments ← each features_for (replicate 8 no_segment_features)
  done (record { absolute = absolute; segments = segments })

unfoldable pub map_or_none : Bool → Table (Option MapUpdate)
map_or_none true = update_map >>= λ map. done (Some map)
map_or_none false = done None

unfoldable pub features_or_old : Bool → Features → Table Features
features_or_old true old = update_features
features_or_old false old = done old

unfoldable pub enabled_params : Features → Table Segmentation
enabled_params old = do
  updates_map ← flag_field name.SegmentationUpdateMap
  map ← map_or_none updates_map
  updates_data ← flag_field name.SegmentationUpdateData
  features ← features_or_old updates_data old
  done (record { enabled = true; map = map; features = features })

-- the features in force stay where they aren't read
unfoldable pub segmentation_params : Features → Table Segmentation
segmentation_params old = do
  enabled ← flag_field name.SegmentationEnabled
  if enabled then enabled_params old else done (record { enabled = false; map = None; features = old })
