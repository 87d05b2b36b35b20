-- Headers that can be written: each field is in its range, and agrees with what persists from the frames before.
use Rattle.std.specs.Prelude.{◌≡◌, ◌≢◌, ℕ, ◌<◌, ◌≤◌, ◌^◌, max, ℤ, pos, unsigned_abs, Bool, true, false, List, length, replicate, slice_index_or, Some, None, IfSome, All}
use Rattle.vp9_types.specs.declared.shape.Depth.TheVariants.{Eight}
use Rattle.vp9_types.specs.declared.shape.Shape.{Shape}
use Rattle.frame_headers.specs.declared.color.ColorConfig.{ColorConfig}
use Rattle.frame_headers.specs.declared.color.ColorSpace.TheVariants.{Rgb}
use Rattle.frame_headers.specs.declared.filter.LoopDeltas.{LoopDeltas}
use Rattle.frame_headers.specs.declared.filter.LoopFilter.{LoopFilter}
use Rattle.frame_headers.specs.declared.header.FrameContexts.{FrameContexts}
use Rattle.frame_headers.specs.declared.header.FrameKind.{FrameKind}
use Rattle.frame_headers.specs.declared.header.FrameKind.TheVariants.{Key, IntraOnly, Inter}
use Rattle.frame_headers.specs.declared.header.FrameParams.{FrameParams}
use Rattle.frame_headers.specs.declared.header.FrameSize.{FrameSize}
use Rattle.frame_headers.specs.declared.header.Header.{Header}
use Rattle.frame_headers.specs.declared.header.Reference.{Reference}
use Rattle.frame_headers.specs.declared.header.References.{References}
use Rattle.frame_headers.specs.declared.header.Uncompressed.{Uncompressed}
use Rattle.frame_headers.specs.declared.header.Uncompressed.TheVariants.{ShowExisting, Coded}
use Rattle.frame_headers.specs.declared.persist.Persist.{Persist}
use Rattle.frame_headers.specs.declared.quantizer.Quantizer.{Quantizer as Quantisers}
use Rattle.frame_headers.specs.declared.segments.Features.{Features}
use Rattle.frame_headers.specs.declared.segments.MapUpdate.{MapUpdate}
use Rattle.frame_headers.specs.declared.segments.SegmentFeatures.{SegmentFeatures}
use Rattle.frame_headers.specs.declared.segments.Segmentation.{Segmentation}
use Rattle.frame_headers.specs.declared.tiles.TileInfo.{TileInfo}
use Rattle.header_writer.specs.declared.choices.Choices.{Choices}
use Rattle.frame_headers.specs.Color.{is_odd_profile, default_color}
use Rattle.frame_headers.specs.Header.{forgets, kept_deltas, kept_features}
use Rattle.frame_headers.specs.References.{has_format, has_allowed_scale, all_of, some_of}
use Rattle.frame_headers.specs.FrameSizes.{IsFrameSize}
use Rattle.frame_headers.specs.Tiles.{superblocks, min_log2, max_log2}

-- a number of n bits and its sign
abbrev pub IsSigned : ℕ → ℤ → Type 0
IsSigned n x = unsigned_abs x < 2 ^ n

---- Colours ----

-- A profile below 2 has 8 bits, the others more. RGB isn't subsampled, has the full range, and is of odd profiles alone.
-- An even profile has 4:2:0, and an odd one all else.
pub record IsColor (profile : ℕ) (color : ColorConfig) : Type 0 where
  pub eight : profile < 2 → color.depth ≡ Eight
  pub more : 2 ≤ profile → color.depth ≢ Eight
  pub rgb : color.space ≡ Rgb → (is_odd_profile profile ≡ true) × (color.full_range ≡ true) × (color.ss_x ≡ false) × (color.ss_y ≡ false)
  pub even : is_odd_profile profile ≡ false → (color.ss_x ≡ true) × (color.ss_y ≡ true)
  pub odd : is_odd_profile profile ≡ true → color.ss_x ≡ true → color.ss_y ≡ false

-- an intra-only frame of profile 0 codes no colours
abbrev pub IsIntraOnlyColor : ℕ → ColorConfig → Type 0
IsIntraOnlyColor profile color = (profile ≡ 0 → color ≡ default_color) × (profile ≢ 0 → IsColor profile color)

---- What ends each header ----

-- a delta that isn't the one before has 6 bits and a sign
abbrev pub AreDeltas : List ℤ → List ℤ → Type 0
AreDeltas olds deltas = (i : ℕ) → i < length deltas → slice_index_or deltas i (pos 0) ≢ slice_index_or olds i (pos 0) → IsSigned 6 (slice_index_or deltas i (pos 0))

pub record IsLoopFilter (old : LoopDeltas) (filter : LoopFilter) : Type 0 where
  pub level : filter.level < 64
  pub sharpness : filter.sharpness < 8
  pub disabled : filter.delta_enabled ≡ false → filter.deltas ≡ old
  pub reference : AreDeltas old.reference filter.deltas.reference
  pub mode : AreDeltas old.mode filter.deltas.mode

pub record IsQuantizer (q : Quantisers) : Type 0 where
  pub y_dc : IsSigned 4 q.y_dc_delta
  pub uv_dc : IsSigned 4 q.uv_dc_delta
  pub uv_ac : IsSigned 4 q.uv_ac_delta

abbrev pub AreSegmentFeatures : SegmentFeatures → Type 0
AreSegmentFeatures features = IfSome features.quantizer (IsSigned 8) × IfSome features.level (IsSigned 6)

-- without prediction its probabilities aren't coded
abbrev pub IsMapUpdate : MapUpdate → Type 0
IsMapUpdate map = map.temporal ≡ false → map.prediction ≡ replicate 3 255

pub record IsSegmentation (old : Features) (segmentation : Segmentation) : Type 0 where
  pub disabled : segmentation.enabled ≡ false → (segmentation.map ≡ None) × (segmentation.features ≡ old)
  pub map : IfSome segmentation.map IsMapUpdate
  pub features : All AreSegmentFeatures segmentation.features.segments

-- as many columns as the width allows
pub record IsTileInfo (width : ℕ) (tiles : TileInfo) : Type 0 where
  pub least : min_log2 (superblocks width) ≤ tiles.columns_log2
  pub most : tiles.columns_log2 ≤ max (min_log2 (superblocks width)) (max_log2 (superblocks width))
  pub rows : tiles.rows_log2 ≤ 2

pub record IsParams (deltas : LoopDeltas) (features : Features) (width : ℕ) (params : FrameParams) : Type 0 where
  pub loop_filter : IsLoopFilter deltas params.loop_filter
  pub quantizer : IsQuantizer params.quantizer
  pub segmentation : IsSegmentation features params.segmentation
  pub tiles : IsTileInfo width params.tiles
  pub some : 1 ≤ params.compressed_size

-- an error-resilient frame codes neither of the two flags
pub record IsContexts (resilient : Bool) (contexts : FrameContexts) : Type 0 where
  pub index : contexts.index < 4
  pub fixed : resilient ≡ true → (contexts.refresh ≡ false) × (contexts.parallel ≡ true)

---- The fields of a frame, up to its size ----

pub record IsReset (resilient : Bool) (reset : ℕ) : Type 0 where
  pub small : reset < 4
  pub none : resilient ≡ true → reset ≡ 0

-- its slot holds a frame of its shape
pub record IsReference (before : Persist) (resilient : Bool) (r : Reference) : Type 0 where
  pub slot : r.slot < 8
  pub held : slice_index_or before.slots r.slot None ≡ Some r.shape
  pub bias : resilient ≡ true → r.sign_bias ≡ false

pub record AreReferences (before : Persist) (resilient : Bool) (size : FrameSize) (refs : References) : Type 0 where
  pub last : IsReference before resilient refs.last
  pub golden : IsReference before resilient refs.golden
  pub altref : IsReference before resilient refs.altref
  pub format : all_of (has_format before.color) refs ≡ true
  pub range : some_of (has_allowed_scale size) refs ≡ true

-- a key frame refreshes all slots, and a shown frame isn't intra only
abbrev pub IsOfKind : Persist → Header → FrameKind → Type 0
IsOfKind before header Key = (header.reset_context ≡ 0) × (header.refresh ≡ 255) × IsColor header.profile header.color
IsOfKind before header IntraOnly =
    (header.show_frame ≡ false) × IsReset header.error_resilient header.reset_context × IsIntraOnlyColor header.profile header.color
IsOfKind before header (Inter fields) =
    IsReset header.error_resilient header.reset_context × (header.color ≡ before.color)
    × AreReferences before header.error_resilient header.size fields.references

---- Headers ----

pub record IsHeader (before : Persist) (header : Header) : Type 0 where
  pub profile : header.profile < 4
  pub size : IsFrameSize header.size
  pub kind : IsOfKind before header header.kind
  pub contexts : IsContexts header.error_resilient header.contexts
  pub params : IsParams (kept_deltas before (forgets header.kind header.error_resilient)) (kept_features before (forgets header.kind header.error_resilient))
      header.size.width header.params

-- what isn't coded is as it was before
pub record AreKept (deltas : LoopDeltas) (features : Features) (choices : Choices) (params : FrameParams) : Type 0 where
  pub deltas_kept : choices.deltas ≡ false → params.loop_filter.deltas ≡ deltas
  pub features_kept : choices.features ≡ false → params.segmentation.features ≡ features

abbrev pub CanChoose : Persist → Choices → Uncompressed → Type 0
CanChoose before choices (ShowExisting slot) = Unit {0}
CanChoose before choices (Coded header) =
    AreKept (kept_deltas before (forgets header.kind header.error_resilient)) (kept_features before (forgets header.kind header.error_resilient)) choices header.params

-- a slot that is shown holds a frame
abbrev pub IsWellFormed : Persist → Uncompressed → Type 0
IsWellFormed before (ShowExisting slot) = (slot < 8) × ((shape : Shape) × (slice_index_or before.slots slot None ≡ Some shape))
IsWellFormed before (Coded header) = IsHeader before header
