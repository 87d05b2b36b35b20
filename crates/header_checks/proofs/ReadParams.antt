-- What is read of the parameters that end a header (6.2.8 to 6.2.14 of the standard) can be written.
use Rattle.std.proofs.Common.{◌≡◌, ℕ, zero, suc, ◌+◌, ◌-◌, ◌^◌, ◌<◌, ◌≤◌, Bool, true, false, List, ℤ, refl, sym, subst, arith, lit<, replicate}
use Rattle.std.specs.Prelude.{◌≢◌, All, IfSome, pos, negsuc, unsigned_abs, ◌-ℤ◌, not, ◌==◌, if◌then◌else◌}
use Rattle.std.proofs.lemmas.Int.{ints}
use Rattle.vp9_types.specs.Each.{each}
use Rattle.vp9_types.specs.declared.rule.Rule.TheVariants.{HeaderSizeZero}
use Rattle.vp9_types.specs.Syntax.{done, check}
use Rattle.frame_headers.specs.declared.field.FieldName.{FieldName}
use Rattle.frame_headers.specs.declared.field.FieldName.TheVariants as name
use Rattle.frame_headers.specs.declared.filter.LoopDeltas.{LoopDeltas}
use Rattle.frame_headers.specs.declared.segments.Features.{Features}
use Rattle.frame_headers.specs.Fields.{f, flag_field, su}
use Rattle.frame_headers.specs.Filter.{coded_delta, coded_deltas, delta_changes, loop_filter_params}
use Rattle.frame_headers.specs.Header.{frame_params}
use Rattle.frame_headers.specs.Quantizer.{delta_q, quantization_params}
use Rattle.frame_headers.specs.Segments.{probability_for, prediction_probabilities, update_map, map_or_none, signed_feature, reference_feature, segment_features, features_for, no_segment_features, update_features, features_or_old, enabled_params, segmentation_params}
use Rattle.frame_headers.specs.Tiles.{superblocks, min_log2, max_log2, more_columns, tile_columns_log2, tile_rows_log2, tile_info}
use Rattle.header_writer.specs.WellFormed.{IsSigned, AreDeltas, IsLoopFilter, IsQuantizer, AreSegmentFeatures, IsMapUpdate, IsSegmentation, IsTileInfo, IsParams}
use Rattle.header_checks.proofs.Readings.{Yields, AreFor, yields_bind, yields_all, yields_map, yields_after, yields_if, yields_either, yields_check, field_yields, each_yields, each_all, no_false, no_true}

---- Numbers with a sign ----

unsigned_neg : (n : ℕ) → unsigned_abs (pos 0 -ℤ pos n) ≡ n
unsigned_neg zero = refl
unsigned_neg (suc n) = let is : pos 0 -ℤ pos (suc n) ≡ negsuc n = omega (arith, ints) in rw is refl

signed_by : (negative : Bool) (n magnitude : ℕ) → magnitude < 2 ^ n → IsSigned n (if negative then pos 0 -ℤ pos magnitude else pos magnitude)
signed_by true n magnitude low = subst (λ (m : ℕ). m < 2 ^ n) (sym (unsigned_neg magnitude)) low
signed_by false n magnitude low = low

signed_yields : (field : FieldName) (n : ℕ) → Yields (su field n) (IsSigned n)
unfolding su
signed_yields field n =
    yields_bind (f field n) _ (λ v. v < 2 ^ n) (IsSigned n) (field_yields field n)
    (λ magnitude low. yields_after (flag_field name.Sign) _ (IsSigned n) (λ negative. signed_by negative n magnitude low))

---- The loop filter ----

abbrev IsDelta : ℤ → ℤ → Type 0
IsDelta old delta = delta ≢ old → IsSigned 6 delta

delta_yields : (update field : FieldName) (old : ℤ) → Yields (coded_delta update field old) (IsDelta old)
unfolding coded_delta
delta_yields update field old = yields_either update _ _ (IsDelta old)
    (yields_map (su field 6) (IsSigned 6) (IsDelta old) (signed_yields field 6) (λ new is other. is)) (λ other. absurd (other refl))

abbrev AreCoded : LoopDeltas → LoopDeltas → Type 0
AreCoded old deltas = AreDeltas old.reference deltas.reference × AreDeltas old.mode deltas.mode

deltas_yield : (old : LoopDeltas) → Yields (coded_deltas old) (AreCoded old)
unfolding coded_deltas
deltas_yield old =
    let reference = coded_delta name.UpdateRefDelta name.LoopFilterRefDelta in
    let mode = coded_delta name.UpdateModeDelta name.LoopFilterModeDelta in
    yields_bind (each reference old.reference) _ (AreFor IsDelta old.reference) (AreCoded old)
    (each_yields reference IsDelta old.reference (delta_yields name.UpdateRefDelta name.LoopFilterRefDelta))
    (λ references are. yields_bind (each mode old.mode) _ (AreFor IsDelta old.mode) (AreCoded old)
    (each_yields mode IsDelta old.mode (delta_yields name.UpdateModeDelta name.LoopFilterModeDelta))
    (λ modes are_too. (λ i low. are i (pos 0) (pos 0) low, λ i low. are_too i (pos 0) (pos 0) low)))

record AreAllowed (enabled : Bool) (old deltas : LoopDeltas) : Type 0 where
  disabled : enabled ≡ false → deltas ≡ old
  coded : AreCoded old deltas

old_deltas : (enabled : Bool) (old : LoopDeltas) → AreAllowed enabled old old
old_deltas enabled old = record { disabled = λ is. refl; coded = (λ i low other. absurd (other refl), λ i low other. absurd (other refl)) }

filter_yields : (old : LoopDeltas) → Yields (loop_filter_params old) (IsLoopFilter old)
unfolding loop_filter_params delta_changes
filter_yields old =
    yields_bind (f name.LoopFilterLevel 6) _ (λ v. v < 64) (IsLoopFilter old) (field_yields name.LoopFilterLevel 6)
    (λ level is_level. yields_bind (f name.LoopFilterSharpness 3) _ (λ v. v < 8) (IsLoopFilter old) (field_yields name.LoopFilterSharpness 3)
    (λ sharpness is_sharpness. yields_after (flag_field name.LoopFilterDeltaEnabled) _ (IsLoopFilter old)
    (λ enabled. yields_bind (if enabled then delta_changes old else done old) _ (AreAllowed enabled old) (IsLoopFilter old)
    (yields_if enabled _ _ (AreAllowed enabled old)
    (λ yes. yields_either name.LoopFilterDeltaUpdate _ _ (AreAllowed enabled old)
    (yields_map (coded_deltas old) (AreCoded old) (AreAllowed enabled old) (deltas_yield old) (λ deltas are. record { disabled = λ is. absurd cc; coded = are }))
    (old_deltas enabled old)) (λ no. old_deltas enabled old))
    (λ deltas are. record { level = is_level; sharpness = is_sharpness; disabled = are.disabled; reference = are.coded.0; mode = are.coded.1 }))))

---- The quantizer ----

delta_q_yields : Yields delta_q (IsSigned 4)
unfolding delta_q
delta_q_yields = yields_either name.DeltaCoded _ _ (IsSigned 4) (signed_yields name.DeltaQ 4) (lit< tt)

quantizer_yields : Yields quantization_params IsQuantizer
unfolding quantization_params
quantizer_yields =
    yields_after (f name.BaseQIdx 8) _ IsQuantizer
    (λ base. yields_bind delta_q _ (IsSigned 4) IsQuantizer delta_q_yields
    (λ y_dc is_y_dc. yields_bind delta_q _ (IsSigned 4) IsQuantizer delta_q_yields
    (λ uv_dc is_uv_dc. yields_bind delta_q _ (IsSigned 4) IsQuantizer delta_q_yields
    (λ uv_ac is_uv_ac. record { y_dc = is_y_dc; uv_dc = is_uv_dc; uv_ac = is_uv_ac }))))

---- Segments ----

abbrev IsPrediction : Bool → List ℕ → Type 0
IsPrediction temporal prediction = temporal ≡ false → prediction ≡ replicate 3 255

prediction_yields : (temporal : Bool) → Yields (prediction_probabilities temporal) (IsPrediction temporal)
unfolding prediction_probabilities
prediction_yields true =
    let read = each probability_for (replicate 3 255) in
    yields_map read (λ values. Unit {0}) (IsPrediction true) (yields_all read) (λ values u is. no_false is)
prediction_yields false = λ is. refl

map_yields : Yields update_map IsMapUpdate
unfolding update_map
map_yields =
    yields_after (each probability_for (replicate 7 255)) _ IsMapUpdate (λ tree. yields_after (flag_field name.SegmentationTemporalUpdate) _ IsMapUpdate
    (λ temporal. yields_bind (prediction_probabilities temporal) _ (IsPrediction temporal) IsMapUpdate (prediction_yields temporal) (λ prediction is. is)))

map_or_none_yields : (updates : Bool) → Yields (map_or_none updates) (λ map. IfSome map IsMapUpdate)
unfolding map_or_none
map_or_none_yields true = yields_bind update_map _ IsMapUpdate (λ map. IfSome map IsMapUpdate) map_yields (λ map is. is)
map_or_none_yields false = tt

feature_yields : (width : ℕ) → Yields (signed_feature width) (λ feature. IfSome feature (IsSigned width))
unfolding signed_feature
feature_yields width = yields_either name.FeatureEnabled _ _ (λ feature. IfSome feature (IsSigned width))
    (yields_bind (su name.FeatureValue width) _ (IsSigned width) (λ feature. IfSome feature (IsSigned width)) (signed_yields name.FeatureValue width) (λ value is. is)) tt

segment_yields : Yields segment_features AreSegmentFeatures
unfolding segment_features
segment_yields =
    yields_bind (signed_feature 8) _ (λ feature. IfSome feature (IsSigned 8)) AreSegmentFeatures (feature_yields 8)
    (λ quantizer is_quantizer. yields_bind (signed_feature 6) _ (λ feature. IfSome feature (IsSigned 6)) AreSegmentFeatures (feature_yields 6)
    (λ level is_level. yields_after reference_feature _ AreSegmentFeatures (λ reference. yields_after (flag_field name.FeatureEnabled) _ AreSegmentFeatures (λ skip. (is_quantizer, is_level)))))

abbrev pub FitFields : Features → Type 0
FitFields features = All AreSegmentFeatures features.segments

features_yield : (updates : Bool) (old : Features) → FitFields old → Yields (features_or_old updates old) FitFields
unfolding features_or_old update_features
features_yield true old fit =
    yields_after (flag_field name.SegmentationAbsOrDeltaUpdate) _ FitFields
    (λ absolute. yields_bind (each features_for (replicate 8 no_segment_features)) _ (All AreSegmentFeatures) FitFields
    (each_all features_for AreSegmentFeatures (replicate 8 no_segment_features) (λ before. segment_yields)) (λ segments are. are))
features_yield false old fit = fit

segmentation_yields : (old : Features) → FitFields old → Yields (segmentation_params old) (IsSegmentation old)
unfolding segmentation_params enabled_params
segmentation_yields old fit = yields_either name.SegmentationEnabled _ _ (IsSegmentation old)
    (yields_after (flag_field name.SegmentationUpdateMap) _ (IsSegmentation old)
    (λ updates_map. yields_bind (map_or_none updates_map) _ (λ map. IfSome map IsMapUpdate) (IsSegmentation old) (map_or_none_yields updates_map)
    (λ map is_map. yields_after (flag_field name.SegmentationUpdateData) _ (IsSegmentation old)
    (λ updates. yields_bind (features_or_old updates old) _ FitFields (IsSegmentation old) (features_yield updates old fit)
    (λ features are. record { disabled = λ is. no_false is; map = is_map; features = are })))))
    (record { disabled = λ is. (refl, refl); map = tt; features = fit })

---- Tiles ----

-- doubled at most so many times
record IsDoubled (times log2 greatest : ℕ) : Type 0 where
  least : log2 ≤ greatest
  most : greatest ≤ log2 + times

columns_yield : (times log2 : ℕ) → Yields (more_columns times log2) (IsDoubled times log2)
unfolding more_columns
columns_yield zero log2 = record { least = omega arith; most = omega arith }
columns_yield (suc times) log2 = yields_either name.IncrementTileColsLog2 _ _ (IsDoubled (suc times) log2)
    (yields_map (more_columns times (log2 + 1)) (IsDoubled times (log2 + 1)) (IsDoubled (suc times) log2) (columns_yield times (log2 + 1))
    (λ greatest is. record { least = let l = is.least in omega (arith, l); most = let m = is.most in omega (arith, m) }))
    (record { least = omega arith; most = omega arith })

twice_fits : (twice : Bool) → (if twice then 2 else 1) ≤ 2
twice_fits true = omega arith
twice_fits false = omega arith

rows_yield : Yields tile_rows_log2 (λ rows. rows ≤ 2)
unfolding tile_rows_log2
rows_yield = yields_either name.TileRowsLog2 _ _ (λ rows. rows ≤ 2)
    (yields_after (flag_field name.IncrementTileRowsLog2) _ (λ rows. rows ≤ 2) twice_fits) (omega arith)

tiles_yield : (width : ℕ) → Yields (tile_info width) (IsTileInfo width)
unfolding tile_info tile_columns_log2
tiles_yield width =
    let least = min_log2 (superblocks width) in
    let times = max_log2 (superblocks width) - least in
    yields_bind (more_columns times least) _ (IsDoubled times least) (IsTileInfo width) (columns_yield times least)
    (λ log2 is. yields_bind tile_rows_log2 _ (λ rows. rows ≤ 2) (IsTileInfo width) rows_yield
    (λ rows few. record { least = is.least; most = let m = is.most in omega (arith, m); rows = few }))

---- All of it ----

some_bytes : (size : ℕ) → not (size == 0) ≡ true → 1 ≤ size
some_bytes zero is = no_true is
some_bytes (suc n) is = omega arith

pub params_yield : (deltas : LoopDeltas) (features : Features) (width : ℕ) → FitFields features → Yields (frame_params deltas features width) (IsParams deltas features width)
unfolding frame_params
params_yield deltas features width fit =
    let Are = IsParams deltas features width in
    yields_bind (loop_filter_params deltas) _ (IsLoopFilter deltas) Are (filter_yields deltas)
    (λ loop_filter is_filter. yields_bind quantization_params _ IsQuantizer Are quantizer_yields
    (λ quantizer is_quantizer. yields_bind (segmentation_params features) _ (IsSegmentation features) Are (segmentation_yields features fit)
    (λ segmentation is_segmentation. yields_bind (tile_info width) _ (IsTileInfo width) Are (tiles_yield width)
    (λ tiles are_tiles. yields_after (f name.HeaderSizeInBytes 16) _ Are
    (λ size. yields_bind (check (not (size == 0)) HeaderSizeZero) _ (λ u. not (size == 0) ≡ true) Are (yields_check (not (size == 0)) HeaderSizeZero)
    (λ u is. record { loop_filter = is_filter; quantizer = is_quantizer; segmentation = is_segmentation; tiles = are_tiles; some = some_bytes size is }))))))
