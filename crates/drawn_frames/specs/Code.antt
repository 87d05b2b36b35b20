-- What the calls of the code answer.
use Rattle.std.specs.Prelude.{◌≡◌, ◌≤◌, ◌<◌, ℕ, Bool, false, Some, None, slice_index_or}
use Rattle.vp9_types.specs.declared.shape.Shape.{Shape}
use Rattle.frame_headers.specs.Color.{default_color}
use Rattle.frame_headers.specs.Segments.{no_features}
use Rattle.frame_headers.specs.HeaderState.{default_deltas}
use Rattle.frame_headers.specs.declared.header.FrameFields.{FrameFields}
use Rattle.frame_headers.specs.declared.header.FrameFilter.TheVariants.{Switchable}
use Rattle.frame_headers.specs.declared.header.FrameKind.{FrameKind}
use Rattle.frame_headers.specs.declared.header.FrameKind.TheVariants.{Key, IntraOnly, Inter}
use Rattle.frame_headers.specs.declared.header.FrameParams.{FrameParams}
use Rattle.frame_headers.specs.declared.header.Header.{Header}
use Rattle.frame_headers.specs.declared.header.Reference.{Reference}
use Rattle.frame_headers.specs.declared.header.References.{References}
use Rattle.frame_headers.specs.declared.header.Uncompressed.{Uncompressed}
use Rattle.frame_headers.specs.declared.header.Uncompressed.TheVariants.{ShowExisting, Coded}
use Rattle.frame_headers.specs.declared.persist.Persist.{Persist}
use Rattle.frame_headers.specs.declared.segments.Segmentation.{Segmentation}
use Rattle.header_writer.specs.Code.{fields_of}
use Rattle.header_writer.specs.WellFormed.{IsReference, AreReferences, IsContexts, IsParams, IsSegmentation}
use Rattle.drawn_symbols.specs.DrawnFor.{AreDrawnSegments}
use Rattle.drawn_frames.specs.MadeFrames.{key_color, IsMadeSize, IsMadeShape, IsMade}
use Rattle.drawn_frames.specs.declared.starts.Start.{Start}

---- Parts ----

-- segments that can be coded where no features are in force, and that blocks are drawn for
pub record AreMadeSegments (segmentation : Segmentation) : Type 0 where
  pub can : IsSegmentation no_features segmentation
  pub drawn : AreDrawnSegments segmentation
  pub plain : segmentation.features ≡ no_features

pub record AreMadeParams (width : ℕ) (params : FrameParams) : Type 0 where
  pub are : IsParams default_deltas no_features width params
  pub segments : AreDrawnSegments params.segmentation
  pub plain : params.segmentation.features ≡ no_features
  pub deltas : params.loop_filter.deltas ≡ default_deltas
  pub columns : params.tiles.columns_log2 ≤ 8

-- a slot's frame
pub record IsMadeReference (before : Persist) (r : Reference) : Type 0 where
  pub is : IsReference before false r
  pub shape : IsMadeShape r.shape

pub record AreMadeReferences (before : Persist) (refs : References) : Type 0 where
  pub last : IsMadeReference before refs.last
  pub golden : IsMadeReference before refs.golden
  pub altref : IsMadeReference before refs.altref

---- Frames ----

-- What each kind asks of the other fields, and of the frames before: a key frame asks nothing of them. The references of an inter
-- frame can be coded, with biases that count or not.
abbrev pub IsMadeKind : Persist → Bool → Bool → FrameFields → FrameKind → Type 0
IsMadeKind before resilient show fields Key = (fields.refresh ≡ 255) × (fields.color ≡ key_color)
IsMadeKind before resilient show fields IntraOnly = IsMade before × (show ≡ false) × (fields.color ≡ default_color)
IsMadeKind before resilient show fields (Inter inter) =
    IsMade before × (fields.color ≡ before.color) × AreReferences before resilient fields.size inter.references × (inter.filter ≡ Switchable)

pub record IsStart (before : Persist) (start : Start) : Type 0 where
  pub reset : start.fields.reset_context ≡ 0
  pub size : IsMadeSize start.fields.size
  pub kind : IsMadeKind before false start.show_frame start.fields start.fields.kind

pub record IsMadeHeader (before : Persist) (header : Header) : Type 0 where
  pub profile : header.profile ≡ 0
  pub reset : header.reset_context ≡ 0
  pub size : IsMadeSize header.size
  pub kind : IsMadeKind before header.error_resilient header.show_frame (fields_of header) header.kind
  pub contexts : IsContexts header.error_resilient header.contexts
  pub params : AreMadeParams header.size.width header.params

-- a slot that is shown again holds a frame
abbrev pub IsMadeHead : Persist → Uncompressed → Type 0
IsMadeHead before (ShowExisting slot) = (slot < 8) × ((shape : Shape) × (slice_index_or before.slots slot None ≡ Some shape))
IsMadeHead before (Coded header) = IsMadeHeader before header

---- Headers that are drawn ----

abbrev pub IfCoded : Uncompressed → (Header → Type 0) → Type 0
IfCoded (ShowExisting slot) P = Unit {0}
IfCoded (Coded header) P = P header

-- the same header with a compressed header of so many bytes
abbrev pub sized : ℕ → Header → Header
sized bytes header = record header { params = record header.params { compressed_size = bytes } }

abbrev pub with_size : ℕ → Uncompressed → Uncompressed
with_size bytes (ShowExisting slot) = ShowExisting slot
with_size bytes (Coded header) = Coded (sized bytes header)
