-- How a header is spelled (6.2 of the standard): its fields one behind another. What can be spelled in several ways is as it is
-- chosen, and all else is spelled in the shortest way.
use Rattle.std.specs.Prelude.{ℕ, ◌-◌, ◌/◌, ◌%◌, ◌==◌, nat_lt, nat_le, ℤ, pos, unsigned_abs, int_lt, Bool, true, false, not, ◌&&◌, List, [], ◌∷◌, ◌++◌, flat_map, zip, replicate, slice_index_or, Option, Some, None, is_some, if◌then◌else◌}
use Rattle.std.specs.Ordering.{int_eq}
use Rattle.vp9_types.specs.Bits.{spelled}
use Rattle.vp9_types.specs.declared.block.InterpFilter.{InterpFilter}
use Rattle.vp9_types.specs.declared.block.InterpFilter.TheVariants.{Regular, Smooth, Sharp, Bilinear}
use Rattle.vp9_types.specs.declared.shape.Depth.{Depth}
use Rattle.vp9_types.specs.Shapes.{depth_bits}
use Rattle.frame_headers.specs.HeaderState.{is_key}
use Rattle.frame_headers.specs.declared.color.ColorConfig.{ColorConfig}
use Rattle.frame_headers.specs.declared.color.ColorSpace.{ColorSpace as Space}
use Rattle.frame_headers.specs.declared.color.ColorSpace.TheVariants.{Unknown, Bt601, Bt709, Smpte170, Smpte240, Bt2020, Reserved, Rgb}
use Rattle.frame_headers.specs.declared.filter.LoopDeltas.{LoopDeltas}
use Rattle.frame_headers.specs.declared.filter.LoopFilter.{LoopFilter}
use Rattle.frame_headers.specs.declared.header.FrameContexts.{FrameContexts}
use Rattle.frame_headers.specs.declared.header.FrameFilter.{FrameFilter}
use Rattle.frame_headers.specs.declared.header.FrameFilter.TheVariants.{Fixed, Switchable}
use Rattle.frame_headers.specs.declared.header.FrameKind.{FrameKind}
use Rattle.frame_headers.specs.declared.header.FrameKind.TheVariants as kind
use Rattle.frame_headers.specs.declared.header.FrameParams.{FrameParams}
use Rattle.frame_headers.specs.declared.header.FrameSize.{FrameSize}
use Rattle.frame_headers.specs.declared.header.Header.{Header}
use Rattle.frame_headers.specs.declared.header.InterFields.{InterFields}
use Rattle.frame_headers.specs.declared.header.Reference.{Reference}
use Rattle.frame_headers.specs.declared.header.References.{References}
use Rattle.frame_headers.specs.declared.header.Uncompressed.{Uncompressed}
use Rattle.frame_headers.specs.declared.header.Uncompressed.TheVariants.{ShowExisting, Coded}
use Rattle.frame_headers.specs.declared.persist.Persist.{Persist}
use Rattle.frame_headers.specs.declared.quantizer.Quantizer.{Quantizer as Quantisers}
use Rattle.frame_headers.specs.declared.segments.FeatureReference.{FeatureReference}
use Rattle.frame_headers.specs.declared.segments.FeatureReference.TheVariants as reference
use Rattle.frame_headers.specs.declared.segments.Features.{Features}
use Rattle.frame_headers.specs.declared.segments.MapUpdate.{MapUpdate}
use Rattle.frame_headers.specs.declared.segments.SegmentFeatures.{SegmentFeatures}
use Rattle.frame_headers.specs.declared.segments.Segmentation.{Segmentation}
use Rattle.frame_headers.specs.declared.tiles.TileInfo.{TileInfo}
use Rattle.frame_headers.specs.Color.{is_odd_profile}
use Rattle.frame_headers.specs.Header.{forgets, kept_deltas}
use Rattle.frame_headers.specs.Tiles.{superblocks, min_log2, max_log2}
use Rattle.header_writer.specs.declared.choices.Choices.{Choices}
use Rattle.header_writer.specs.WrittenFields.{IsPadded}

-- fields, each by its width and its value
abbrev pub FieldList : Type 0
FieldList = List (ℕ × ℕ)

-- their bits, one behind another
unfoldable pub bits_put : FieldList → List ℕ
bits_put fields = flat_map (λ (field : ℕ × ℕ). spelled field.0 field.1) fields

-- f(n)
unfoldable pub number : ℕ → ℕ → FieldList
number width value = (width, value) ∷ []

-- f(1)
unfoldable pub bit : Bool → FieldList
bit b = number 1 (if b then 1 else 0)

-- su(n): a number and its sign
unfoldable pub signed_number : ℕ → ℤ → FieldList
signed_number width x = number width (unsigned_abs x) ++ bit (int_lt x (pos 0))

---- The start of a frame ----

unfoldable pub spelled_coded_profile : ℕ → FieldList
spelled_coded_profile profile = number 1 (profile % 2) ++ number 1 (profile / 2)

-- the frame marker and the profile; behind profile 3 stands a reserved bit
unfoldable pub spelled_profile : ℕ → FieldList
spelled_profile profile = number 2 2 ++ spelled_coded_profile profile ++ (if profile == 3 then bit false else [])

-- 6.2.1
unfoldable pub spelled_sync_code : FieldList
spelled_sync_code = number 8 0x49 ++ number 8 0x83 ++ number 8 0x42

---- 6.2.2: colours ----

abbrev pub space_code : Space → ℕ
space_code Unknown = 0
space_code Bt601 = 1
space_code Bt709 = 2
space_code Smpte170 = 3
space_code Smpte240 = 4
space_code Bt2020 = 5
space_code Reserved = 6
space_code Rgb = 7

-- 8 bits of the profiles below 2 aren't told, and of the others whether they are 12
unfoldable pub spelled_depth : ℕ → Depth → FieldList
spelled_depth profile depth = if nat_lt profile 2 then [] else bit (depth_bits depth == 12)

-- odd profiles have both flags, and a reserved bit
unfoldable pub spelled_subsampling : ℕ → Bool → Bool → FieldList
spelled_subsampling profile ss_x ss_y = if is_odd_profile profile then (bit ss_x ++ bit ss_y ++ bit false) else []

-- RGB has a reserved bit alone, all else its range and its subsampling
unfoldable pub spelled_color : ℕ → ColorConfig → FieldList
spelled_color profile color =
    spelled_depth profile color.depth ++ number 3 (space_code color.space)
    ++ (if space_code color.space == 7 then bit false else (bit color.full_range ++ spelled_subsampling profile color.ss_x color.ss_y))

-- an intra-only frame of profile 0 codes none
unfoldable pub spelled_intra_only_color : ℕ → ColorConfig → FieldList
spelled_intra_only_color profile color = if profile == 0 then [] else spelled_color profile color

---- 6.2.3 to 6.2.5: sizes ----

unfoldable pub spelled_frame_size : FrameSize → FieldList
spelled_frame_size size = number 16 (size.width - 1) ++ number 16 (size.height - 1)

-- the size to show the frame at is its own
unfoldable pub spelled_render_size : FieldList
spelled_render_size = bit false

abbrev pub has_this_size : Reference → FrameSize → Bool
has_this_size r size = r.shape.w == size.width && r.shape.h == size.height

-- that none of the references has it, and a size of its own
unfoldable pub spelled_own_size : FrameSize → FieldList
spelled_own_size size = bit false ++ bit false ++ bit false ++ spelled_frame_size size

-- that of the first reference that has it, unless its own is chosen
unfoldable pub spelled_found_size : Bool → References → FrameSize → FieldList
spelled_found_size own_size refs size =
    if own_size then spelled_own_size size
    else (if has_this_size refs.last size then bit true
    else (if has_this_size refs.golden size then (bit false ++ bit true)
    else (if has_this_size refs.altref size then (bit false ++ bit false ++ bit true)
    else spelled_own_size size)))

---- References ----

-- the sign bias of an error-resilient frame, which counts as 0, is the chosen one
unfoldable pub spelled_reference : Bool → Reference → Bool → FieldList
spelled_reference resilient r chosen = number 3 r.slot ++ bit (if resilient then chosen else r.sign_bias)

unfoldable pub spelled_frame_references : Bool → References → List Bool → FieldList
spelled_frame_references resilient refs biases =
    spelled_reference resilient refs.last (slice_index_or biases 0 false)
    ++ spelled_reference resilient refs.golden (slice_index_or biases 1 false)
    ++ spelled_reference resilient refs.altref (slice_index_or biases 2 false)

abbrev pub filter_code : InterpFilter → ℕ
filter_code Smooth = 0
filter_code Regular = 1
filter_code Sharp = 2
filter_code Bilinear = 3

-- 6.2.7
unfoldable pub spelled_frame_filter : FrameFilter → FieldList
spelled_frame_filter Switchable = bit true
spelled_frame_filter (Fixed filter) = bit false ++ number 2 (filter_code filter)

-- an inter frame from its refreshed slots on
unfoldable pub spelled_inter_fields : Bool → Choices → ℕ → FrameSize → InterFields → FieldList
spelled_inter_fields resilient choices refresh size inter =
    number 8 refresh ++ spelled_frame_references resilient inter.references choices.biases ++ spelled_found_size choices.own_size inter.references size
    ++ spelled_render_size ++ bit inter.high_precision ++ spelled_frame_filter inter.filter

---- 6.2.8: the loop filter ----

-- a delta that stays isn't coded
unfoldable pub spelled_delta : ℤ → ℤ → FieldList
spelled_delta old delta = if int_eq delta old then bit false else (bit true ++ signed_number 6 delta)

unfoldable pub spelled_deltas : List ℤ → List ℤ → FieldList
spelled_deltas olds deltas = flat_map (λ (at : ℤ × ℤ). spelled_delta at.0 at.1) (zip olds deltas)

unfoldable pub spelled_coded_deltas : LoopDeltas → LoopDeltas → FieldList
spelled_coded_deltas old deltas = spelled_deltas old.reference deltas.reference ++ spelled_deltas old.mode deltas.mode

unfoldable pub spelled_delta_changes : Bool → LoopDeltas → LoopDeltas → FieldList
spelled_delta_changes update old deltas =
    if update then (bit true ++ spelled_coded_deltas old deltas) else bit false

unfoldable pub spelled_loop_filter : Bool → LoopDeltas → LoopFilter → FieldList
spelled_loop_filter update old filter =
    number 6 filter.level ++ number 3 filter.sharpness ++ bit filter.delta_enabled
    ++ (if filter.delta_enabled then spelled_delta_changes update old filter.deltas else [])

---- 6.2.9: quantisers ----

unfoldable pub spelled_delta_q : ℤ → FieldList
spelled_delta_q delta = if int_eq delta (pos 0) then bit false else (bit true ++ signed_number 4 delta)

unfoldable pub spelled_quantizer : Quantisers → FieldList
spelled_quantizer q = number 8 q.base ++ spelled_delta_q q.y_dc_delta ++ spelled_delta_q q.uv_dc_delta ++ spelled_delta_q q.uv_ac_delta

---- 6.2.11: segmentation ----

-- 255 isn't coded
unfoldable pub spelled_probability : ℕ → FieldList
spelled_probability value = if value == 255 then bit false else (bit true ++ number 8 value)

unfoldable pub spelled_map : Option MapUpdate → FieldList
spelled_map None = []
spelled_map (Some map) =
    flat_map spelled_probability map.tree ++ bit map.temporal ++ (if map.temporal then flat_map spelled_probability map.prediction else [])

unfoldable pub spelled_signed_feature : ℕ → Option ℤ → FieldList
spelled_signed_feature width None = bit false
spelled_signed_feature width (Some value) = bit true ++ signed_number width value

abbrev pub reference_code : FeatureReference → ℕ
reference_code reference.Intra = 0
reference_code reference.Last = 1
reference_code reference.Golden = 2
reference_code reference.Altref = 3

unfoldable pub spelled_reference_feature : Option FeatureReference → FieldList
spelled_reference_feature None = bit false
spelled_reference_feature (Some reference) = bit true ++ number 2 (reference_code reference)

unfoldable pub spelled_segment_features : SegmentFeatures → FieldList
spelled_segment_features features =
    spelled_signed_feature 8 features.quantizer ++ spelled_signed_feature 6 features.level ++ spelled_reference_feature features.reference ++ bit features.skip

unfoldable pub spelled_features : Features → FieldList
spelled_features features = bit features.absolute ++ flat_map spelled_segment_features features.segments

unfoldable pub spelled_enabled : Bool → Segmentation → FieldList
spelled_enabled update segmentation =
    bit (is_some segmentation.map) ++ spelled_map segmentation.map ++ (if update then (bit true ++ spelled_features segmentation.features) else bit false)

unfoldable pub spelled_segmentation : Bool → Segmentation → FieldList
spelled_segmentation update segmentation = if segmentation.enabled then (bit true ++ spelled_enabled update segmentation) else bit false

---- 6.2.13: tiles ----

-- a bit 1 for each doubling of the least number of columns, and a 0 behind them unless there can't be more
unfoldable pub spelled_columns : ℕ → ℕ → ℕ → FieldList
spelled_columns least greatest log2 = flat_map bit (replicate (log2 - least) true) ++ (if nat_le greatest log2 then [] else bit false)

unfoldable pub spelled_rows : ℕ → FieldList
spelled_rows log2 = if log2 == 0 then bit false else (bit true ++ bit (not (log2 == 1)))

unfoldable pub spelled_tiles : ℕ → TileInfo → FieldList
spelled_tiles width tiles =
    spelled_columns (min_log2 (superblocks width)) (max_log2 (superblocks width)) tiles.columns_log2 ++ spelled_rows tiles.rows_log2

---- 6.2: headers ----

unfoldable pub spelled_frame_start : Bool → Bool → Bool → FieldList
spelled_frame_start key show resilient = bit (not key) ++ bit show ++ bit resilient

-- a shown frame isn't intra only, and an error-resilient one resets all contexts
unfoldable pub spelled_intra_and_reset : Bool → Bool → Bool → ℕ → FieldList
spelled_intra_and_reset show resilient intra_only reset = (if show then [] else bit intra_only) ++ (if resilient then [] else number 2 reset)

unfoldable pub spelled_key_fields : ℕ → ColorConfig → FrameSize → FieldList
spelled_key_fields profile color size = spelled_sync_code ++ spelled_color profile color ++ spelled_frame_size size ++ spelled_render_size

unfoldable pub spelled_intra_only_fields : ℕ → ColorConfig → ℕ → FrameSize → FieldList
spelled_intra_only_fields profile color refresh size =
    spelled_sync_code ++ spelled_intra_only_color profile color ++ number 8 refresh ++ spelled_frame_size size ++ spelled_render_size

unfoldable pub spelled_fields : Choices → Header → FrameKind → FieldList
spelled_fields choices header kind.Key = spelled_key_fields header.profile header.color header.size
spelled_fields choices header kind.IntraOnly =
    spelled_intra_and_reset header.show_frame header.error_resilient true header.reset_context
    ++ spelled_intra_only_fields header.profile header.color header.refresh header.size
spelled_fields choices header (kind.Inter inter) =
    spelled_intra_and_reset header.show_frame header.error_resilient false header.reset_context
    ++ spelled_inter_fields header.error_resilient choices header.refresh header.size inter

unfoldable pub spelled_contexts : Bool → FrameContexts → FieldList
spelled_contexts resilient contexts = (if resilient then [] else (bit contexts.refresh ++ bit contexts.parallel)) ++ number 2 contexts.index

-- what ends each header, over the deltas before
unfoldable pub spelled_params : Choices → LoopDeltas → ℕ → FrameParams → FieldList
spelled_params choices old width params =
    spelled_loop_filter choices.deltas old params.loop_filter ++ spelled_quantizer params.quantizer ++ spelled_segmentation choices.features params.segmentation
    ++ spelled_tiles width params.tiles ++ number 16 params.compressed_size

-- a coded frame from its frame type on
unfoldable pub spelled_coded_frame : Persist → Choices → Header → FieldList
spelled_coded_frame before choices header =
    spelled_frame_start (is_key header.kind) header.show_frame header.error_resilient ++ spelled_fields choices header header.kind
    ++ spelled_contexts header.error_resilient header.contexts
    ++ spelled_params choices (kept_deltas before (forgets header.kind header.error_resilient)) header.size.width header.params

unfoldable pub spelled_header : Persist → Choices → Uncompressed → FieldList
spelled_header before choices (ShowExisting slot) = spelled_profile 0 ++ bit true ++ number 3 slot
spelled_header before choices (Coded header) = spelled_profile header.profile ++ bit false ++ spelled_coded_frame before choices header

-- the bytes are its bits, and then 0 bits to the end of a byte
unfoldable pub IsSpelled : Persist → Choices → Uncompressed → List ℕ → Type 0
IsSpelled before choices header bytes = IsPadded (bits_put (spelled_header before choices header)) bytes
