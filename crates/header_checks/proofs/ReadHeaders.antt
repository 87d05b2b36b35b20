-- Headers that are read (6.2 of the standard) can be written.
use Rattle.std.proofs.Common.{◌≡◌, ℕ, ◌<◌, Bool, true, false, refl, arith}
use Rattle.std.specs.Prelude.{Option, Some, None, not, ◌&&◌, ◌==◌, slice_index_or}
use Rattle.std.proofs.lemmas.List.Elements.{All-replicate}
use Rattle.vp9_types.specs.declared.rule.Rule.{Rule}
use Rattle.vp9_types.specs.declared.rule.Rule.TheVariants as rule
use Rattle.vp9_types.specs.declared.shape.Shape.{Shape}
use Rattle.vp9_types.specs.Syntax.{check}
use Rattle.frame_headers.specs.declared.field.FieldName.{FieldName}
use Rattle.frame_headers.specs.declared.field.FieldName.TheVariants as name
use Rattle.frame_headers.specs.declared.header.FrameContexts.{FrameContexts}
use Rattle.frame_headers.specs.declared.header.FrameFields.{FrameFields}
use Rattle.frame_headers.specs.declared.header.FrameParams.{FrameParams}
use Rattle.frame_headers.specs.declared.header.FrameStart.{FrameStart}
use Rattle.frame_headers.specs.declared.header.Header.{Header}
use Rattle.frame_headers.specs.declared.header.Reference.{Reference}
use Rattle.frame_headers.specs.declared.header.References.{References}
use Rattle.frame_headers.specs.declared.persist.Persist.{Persist}
use Rattle.frame_headers.specs.Color.{color_config, intra_only_color, reserved_zero}
use Rattle.frame_headers.specs.Fields.{f, flag_field}
use Rattle.frame_headers.specs.Header.{coded_profile, frame_profile, frame_sync_code, frame_contexts, frame_params, key_fields, intra_only_fields, intra_only_flag, reset_frame_context, intra_and_reset, other_fields, frame_fields, frame_start, forgets, kept_deltas, kept_features, coded_frame, uncompressed_header}
use Rattle.frame_headers.specs.References.{held_by, slot_shape, reference, references, has_format, has_allowed_scale, all_of, some_of, HaveFrameSizes, found_size, interpolation_filter, inter_fields}
use Rattle.frame_headers.specs.Segments.{no_segment_features}
use Rattle.frame_headers.specs.FrameSizes.{frame_size, render_size, IsFrameSize, HasFrameSize}
use Rattle.frame_headers.specs.HeaderState.{SlotsHaveSizes, next_persist, start_persist}
use Rattle.frame_headers.proofs.SizeLemmas.{next_has_sizes, slot_has_size, start_has_sizes}
use Rattle.header_writer.specs.WellFormed.{AreSegmentFeatures, IsColor, IsContexts, IsHeader, IsIntraOnlyColor, IsOfKind, IsParams, IsReference, IsReset, IsWellFormed}
use Rattle.header_checks.specs.Laws.{IsLeftByFrames}
use Rattle.header_checks.proofs.Readings.{Yields, yields_bind, yields_all, yields_map, yields_after, yields_if, yields_either, yields_check, field_yields, no_true}
use Rattle.header_checks.proofs.ReadColors.{color_yields, intra_color_yields}
use Rattle.header_checks.proofs.ReadParams.{FitFields, params_yield}

---- Slots and references ----

record IsHeld (before : Persist) (held : ℕ × Shape) : Type 0 where
  slot : held.0 < 8
  shape : slice_index_or before.slots held.0 None ≡ Some held.1

held_yields : (before : Persist) (slot : ℕ) (missing : Rule) (shape : Option Shape) → slot < 8 → slice_index_or before.slots slot None ≡ shape
    → Yields (held_by slot missing shape) (IsHeld before)
held_yields before slot missing (Some shape) low is = record { slot = low; shape = is }
held_yields before slot missing None low is = tt

slot_yields : (field : FieldName) (before : Persist) (missing : Rule) → Yields (slot_shape field before missing) (IsHeld before)
unfolding slot_shape
slot_yields field before missing =
    yields_bind (f field 3) _ (λ v. v < 8) (IsHeld before) (field_yields field 3)
    (λ slot low. held_yields before slot missing (slice_index_or before.slots slot None) low refl)

no_bias : (resilient bias : Bool) → resilient ≡ true → (not resilient && bias) ≡ false
no_bias true bias is = refl
no_bias false bias is = no_true is

reference_yields : (before : Persist) (resilient : Bool) → Yields (reference before resilient) (IsReference before resilient)
unfolding reference
reference_yields before resilient =
    yields_bind (slot_shape name.RefFrameIdx before rule.RefMissing) _ (IsHeld before) (IsReference before resilient) (slot_yields name.RefFrameIdx before rule.RefMissing)
    (λ held is. yields_after (flag_field name.RefFrameSignBias) _ (IsReference before resilient)
    (λ bias. record { slot = is.slot; held = is.shape; bias = no_bias resilient bias }))

record AreRead (before : Persist) (resilient : Bool) (refs : References) : Type 0 where
  last : IsReference before resilient refs.last
  golden : IsReference before resilient refs.golden
  altref : IsReference before resilient refs.altref

references_yield : (before : Persist) (resilient : Bool) → Yields (references before resilient) (AreRead before resilient)
unfolding references
references_yield before resilient =
    let one = reference_yields before resilient in
    yields_bind (reference before resilient) _ (IsReference before resilient) (AreRead before resilient) one
    (λ last is_last. yields_bind (reference before resilient) _ (IsReference before resilient) (AreRead before resilient) one
    (λ golden is_golden. yields_bind (reference before resilient) _ (IsReference before resilient) (AreRead before resilient) one
    (λ altref is_altref. record { last = is_last; golden = is_golden; altref = is_altref })))

---- Sizes ----

size_yields : Yields frame_size IsFrameSize
unfolding frame_size
size_yields =
    yields_bind (f name.FrameWidthMinus1 16) _ (λ v. v < 65536) IsFrameSize (field_yields name.FrameWidthMinus1 16)
    (λ width narrow. yields_bind (f name.FrameHeightMinus1 16) _ (λ v. v < 65536) IsFrameSize (field_yields name.FrameHeightMinus1 16)
    (λ height low. (omega arith, omega (arith, narrow), omega arith, omega (arith, low))))

found_yields : (refs : References) → HaveFrameSizes refs → Yields (found_size refs) IsFrameSize
unfolding found_size
found_yields refs have =
    yields_either name.FoundRef _ _ IsFrameSize have.0
    (yields_either name.FoundRef _ _ IsFrameSize have.1 (yields_either name.FoundRef _ _ IsFrameSize have.2 size_yields))

---- The fields of a frame, up to its size ----

-- a header of these fields
abbrev header_of : ℕ → FrameStart → FrameFields → FrameContexts → FrameParams → Header
header_of profile start fields contexts params = record {
  profile = profile;
  kind = fields.kind;
  show_frame = start.show_frame;
  error_resilient = start.error_resilient;
  reset_context = fields.reset_context;
  color = fields.color;
  size = fields.size;
  refresh = fields.refresh;
  contexts = contexts;
  params = params;
}

-- they suit the frame's kind, whatever stands behind them
record AreFields (before : Persist) (profile : ℕ) (start : FrameStart) (fields : FrameFields) : Type 0 where
  size : IsFrameSize fields.size
  kind : (contexts : FrameContexts) (params : FrameParams) → IsOfKind before (header_of profile start fields contexts params) fields.kind

key_yields : (before : Persist) (profile : ℕ) (start : FrameStart) → Yields (key_fields profile) (AreFields before profile start)
unfolding key_fields
key_yields before profile start =
    let Are = AreFields before profile start in
    yields_after frame_sync_code _ Are (λ u. yields_bind (color_config profile) _ (IsColor profile) Are (color_yields profile)
    (λ color is_color. yields_bind frame_size _ IsFrameSize Are size_yields
    (λ size is_size. yields_after render_size _ Are (λ v. record { size = is_size; kind = λ contexts params. (refl, refl, is_color) }))))

intra_yields : (before : Persist) (profile reset : ℕ) (start : FrameStart) → start.show_frame ≡ false → IsReset start.error_resilient reset
    → Yields (intra_only_fields profile reset) (AreFields before profile start)
unfolding intra_only_fields
intra_yields before profile reset start hidden is_reset =
    let Are = AreFields before profile start in
    yields_after frame_sync_code _ Are (λ u. yields_bind (intra_only_color profile) _ (IsIntraOnlyColor profile) Are (intra_color_yields profile)
    (λ color is_color. yields_after (f name.RefreshFrameFlags 8) _ Are
    (λ refresh. yields_bind frame_size _ IsFrameSize Are size_yields
    (λ size is_size. yields_after render_size _ Are (λ v. record { size = is_size; kind = λ contexts params. (hidden, is_reset, is_color) })))))

inter_yields : (before : Persist) (profile reset : ℕ) (start : FrameStart) → SlotsHaveSizes before → IsReset start.error_resilient reset
    → Yields (inter_fields before start.error_resilient reset) (AreFields before profile start)
unfolding inter_fields
inter_yields before profile reset start sizes is_reset =
    let Are = AreFields before profile start in
    let resilient = start.error_resilient in
    let held_size : (r : Reference) → IsReference before resilient r → HasFrameSize r.shape = λ r is. slot_has_size before r.slot r.shape is.held sizes in
    yields_after (f name.RefreshFrameFlags 8) _ Are
    (λ refresh. yields_bind (references before resilient) _ (AreRead before resilient) Are (references_yield before resilient)
    (λ refs are.
    let format = all_of (has_format before.color) refs in
    yields_bind (check format rule.RefFormat) _ (λ u. format ≡ true) Are (yields_check format rule.RefFormat)
    (λ u is_format. yields_bind (found_size refs) _ IsFrameSize Are (found_yields refs (held_size refs.last are.last, held_size refs.golden are.golden, held_size refs.altref are.altref))
    (λ size is_size.
    let range = some_of (has_allowed_scale size) refs in
    yields_bind (check range rule.RefScale) _ (λ v. range ≡ true) Are (yields_check range rule.RefScale)
    (λ v is_range. yields_after render_size _ Are (λ w. yields_after (flag_field name.AllowHighPrecisionMv) _ Are (λ precise. yields_after interpolation_filter _ Are
    (λ filter. record {
      size = is_size;
      kind = λ contexts params. (is_reset, refl, record { last = are.last; golden = are.golden; altref = are.altref; format = is_format; range = is_range });
    }))))))))

intra_flag_yields : (show : Bool) → Yields (intra_only_flag show) (λ intra. intra ≡ true → show ≡ false)
intra_flag_yields true = λ is. no_true is
intra_flag_yields false = yields_map (flag_field name.IntraOnly) (λ intra. Unit {0}) (λ intra. intra ≡ true → false ≡ false) (yields_all (flag_field name.IntraOnly)) (λ intra u is. refl)

reset_yields : (resilient : Bool) → Yields (reset_frame_context resilient) (IsReset resilient)
reset_yields true = record { small = omega arith; none = λ is. refl }
reset_yields false =
    yields_map (f name.ResetFrameContext 2) (λ v. v < 4) (IsReset false) (field_yields name.ResetFrameContext 2)
    (λ reset low. record { small = low; none = λ is. no_true is })

record IsKind (show resilient : Bool) (kind : Bool × ℕ) : Type 0 where
  hidden : kind.0 ≡ true → show ≡ false
  reset : IsReset resilient kind.1

kind_yields : (show resilient : Bool) → Yields (intra_and_reset show resilient) (IsKind show resilient)
unfolding intra_and_reset
kind_yields show resilient =
    yields_bind (intra_only_flag show) _ (λ intra. intra ≡ true → show ≡ false) (IsKind show resilient) (intra_flag_yields show)
    (λ intra hidden. yields_bind (reset_frame_context resilient) _ (IsReset resilient) (IsKind show resilient) (reset_yields resilient)
    (λ reset is_reset. record { hidden = hidden; reset = is_reset }))

fields_yield : (before : Persist) (profile : ℕ) (start : FrameStart) → SlotsHaveSizes before → Yields (frame_fields before profile start) (AreFields before profile start)
unfolding frame_fields other_fields
fields_yield before profile start sizes =
    let Are = AreFields before profile start in
    let Is = IsKind start.show_frame start.error_resilient in
    yields_if start.is_key _ _ Are (λ yes. key_yields before profile start)
    (λ no. yields_bind (intra_and_reset start.show_frame start.error_resilient) _ Is Are (kind_yields start.show_frame start.error_resilient)
    (λ kind is. yields_if kind.0 _ _ Are (λ intra. intra_yields before profile kind.1 start (is.hidden intra) is.reset)
    (λ inter. inter_yields before profile kind.1 start sizes is.reset)))

---- Headers ----

contexts_yield : (resilient : Bool) → Yields (frame_contexts resilient) (IsContexts resilient)
unfolding frame_contexts
contexts_yield true =
    yields_bind (f name.FrameContextIdx 2) _ (λ v. v < 4) (IsContexts true) (field_yields name.FrameContextIdx 2)
    (λ index low. record { index = low; fixed = λ is. (refl, refl) })
contexts_yield false =
    yields_after (flag_field name.RefreshFrameContext) _ (IsContexts false) (λ refresh. yields_after (flag_field name.FrameParallelDecodingMode) _ (IsContexts false)
    (λ parallel. yields_bind (f name.FrameContextIdx 2) _ (λ v. v < 4) (IsContexts false) (field_yields name.FrameContextIdx 2)
    (λ index low. record { index = low; fixed = λ is. no_true is })))

kept_fit : (before : Persist) (forgotten : Bool) → FitFields before.features → FitFields (kept_features before forgotten)
kept_fit before true fit = All-replicate AreSegmentFeatures 8 no_segment_features (tt, tt)
kept_fit before false fit = fit

coded_yields : (before : Persist) (profile : ℕ) → IsLeftByFrames before → profile < 4 → Yields (coded_frame before profile) (IsHeader before)
unfolding coded_frame
coded_yields before profile left low =
    yields_after frame_start _ (IsHeader before)
    (λ start. yields_bind (frame_fields before profile start) _ (AreFields before profile start) (IsHeader before) (fields_yield before profile start left.sizes)
    (λ fields are. yields_bind (frame_contexts start.error_resilient) _ (IsContexts start.error_resilient) (IsHeader before) (contexts_yield start.error_resilient)
    (λ contexts are_contexts.
    let forgotten = forgets fields.kind start.error_resilient in
    let deltas = kept_deltas before forgotten in
    let features = kept_features before forgotten in
    yields_bind (frame_params deltas features fields.size.width) _ (IsParams deltas features fields.size.width) (IsHeader before)
    (params_yield deltas features fields.size.width (kept_fit before forgotten left.features))
    (λ params are_params. record { profile = low; size = are.size; kind = are.kind contexts params; contexts = are_contexts; params = are_params }))))

abbrev IsProfile : ℕ → Type 0
IsProfile profile = profile < 4

profile_yields : Yields frame_profile IsProfile
unfolding frame_profile coded_profile
profile_yields =
    yields_after (f name.FrameMarker 2) _ IsProfile (λ marker. yields_after (check (marker == 2) rule.FrameMarker) _ IsProfile
    (λ u. yields_bind coded_profile _ IsProfile IsProfile
    (yields_bind (f name.ProfileLowBit 1) _ (λ v. v < 2) IsProfile (field_yields name.ProfileLowBit 1)
    (λ low is_low. yields_bind (f name.ProfileHighBit 1) _ (λ v. v < 2) IsProfile (field_yields name.ProfileHighBit 1)
    (λ high is_high. omega (arith, is_low, is_high))))
    (λ profile is. yields_if (profile == 3) _ _ IsProfile (λ three. yields_after reserved_zero _ IsProfile (λ v. is)) (λ other. is))))

pub header_yields : (before : Persist) → IsLeftByFrames before → Yields (uncompressed_header before) (IsWellFormed before)
unfolding uncompressed_header
header_yields before left =
    yields_bind frame_profile _ IsProfile (IsWellFormed before) profile_yields
    (λ profile low. yields_either name.ShowExistingFrame _ _ (IsWellFormed before)
    (yields_bind (slot_shape name.FrameToShowMapIdx before rule.ShowMissing) _ (IsHeld before) (IsWellFormed before)
    (slot_yields name.FrameToShowMapIdx before rule.ShowMissing) (λ held is. (is.slot, (held.1, is.shape))))
    (yields_bind (coded_frame before profile) _ (IsHeader before) (IsWellFormed before) (coded_yields before profile left low) (λ header is. is)))

---- What frames leave ----

pub start_is_left : IsLeftByFrames start_persist
start_is_left = record { sizes = start_has_sizes; features = All-replicate AreSegmentFeatures 8 no_segment_features (tt, tt) }

pub next_is_left : (before : Persist) (header : Header) → IsLeftByFrames before → IsHeader before header → IsLeftByFrames (next_persist header before)
next_is_left before header left is = record { sizes = next_has_sizes header before is.size left.sizes; features = is.params.segmentation.features }
