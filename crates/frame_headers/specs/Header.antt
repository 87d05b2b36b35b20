-- The uncompressed header (6.2 and 7.2 of the standard), test by test where each is made.
use Rattle.std.specs.Prelude.{ℕ, ◌+◌, ◌-◌, ◌/◌, Bool, true, false, not, ◌==◌, nat_lt, List, length, Result, Ok, Err, if◌then◌else◌, ◌*◌, ◌≡◌, ◌++◌, ◌≤◌}
use Rattle.vp9_types.specs.declared.rule.Rule.{Rule}
use Rattle.vp9_types.specs.declared.rule.Rule.TheVariants as rule
use Rattle.vp9_types.specs.Bits.{bits_of}
use Rattle.vp9_types.specs.Syntax.{done, ◌>>=◌, ◌>>◌, check}
use Rattle.vp9_types.specs.Entries.{Entry, IsReadAs, joined}
use Rattle.vp9_types.specs.Reading.{read_bits}
use Rattle.frame_headers.specs.declared.field.FieldName.{FieldName}
use Rattle.frame_headers.specs.declared.field.FieldName.TheVariants as name
use Rattle.frame_headers.specs.declared.filter.LoopDeltas.{LoopDeltas}
use Rattle.frame_headers.specs.declared.header.FrameContexts.{FrameContexts}
use Rattle.frame_headers.specs.declared.header.FrameHead.{FrameHead}
use Rattle.frame_headers.specs.declared.header.FrameHead.TheVariants as head
use Rattle.frame_headers.specs.declared.header.FrameFields.{FrameFields}
use Rattle.frame_headers.specs.declared.header.FrameKind.{FrameKind}
use Rattle.frame_headers.specs.declared.header.FrameKind.TheVariants.{Key, IntraOnly, Inter}
use Rattle.frame_headers.specs.declared.header.FrameStart.{FrameStart}
use Rattle.frame_headers.specs.declared.header.FrameParams.{FrameParams}
use Rattle.frame_headers.specs.declared.header.Header.{Header}
use Rattle.frame_headers.specs.declared.header.Uncompressed.{Uncompressed}
use Rattle.frame_headers.specs.declared.header.Uncompressed.TheVariants as uncompressed
use Rattle.frame_headers.specs.declared.persist.Persist.{Persist}
use Rattle.frame_headers.specs.declared.segments.Features.{Features}
use Rattle.frame_headers.specs.Color.{color_config, intra_only_color, reserved_zero}
use Rattle.frame_headers.specs.Fields.{Table, past, f, flag_field}
use Rattle.frame_headers.specs.Filter.{loop_filter_params}
use Rattle.frame_headers.specs.Quantizer.{quantization_params}
use Rattle.frame_headers.specs.References.{inter_fields, slot_shape}
use Rattle.frame_headers.specs.Segments.{segmentation_params, no_features}
use Rattle.frame_headers.specs.FrameSizes.{frame_size, render_size, IsFrameSize}
use Rattle.frame_headers.specs.HeaderState.{default_deltas}
use Rattle.frame_headers.specs.Tiles.{tile_info, AreFewTiles}

unfoldable pub coded_profile : Table ℕ
coded_profile = do
  low ← f name.ProfileLowBit 1
  high ← f name.ProfileHighBit 1
  done (2 * high + low)

-- the frame marker and the profile
unfoldable pub frame_profile : Table ℕ
frame_profile = do
  marker ← f name.FrameMarker 2
  check (marker == 2) rule.FrameMarker
  profile ← coded_profile
  if profile == 3 then (reserved_zero >> done profile) else done profile

-- 6.2.1
unfoldable pub frame_sync_code : Table (Unit {0})
frame_sync_code = do
  byte0 ← f name.FrameSyncByte0 8
  check (byte0 == 0x49) rule.SyncCode
  byte1 ← f name.FrameSyncByte1 8
  check (byte1 == 0x83) rule.SyncCode
  byte2 ← f name.FrameSyncByte2 8
  check (byte2 == 0x42) rule.SyncCode

unfoldable pub frame_contexts : Bool → Table FrameContexts
frame_contexts true = do
  index ← f name.FrameContextIdx 2
  done (record { refresh = false; parallel = true; index = index })
frame_contexts false = do
  refresh ← flag_field name.RefreshFrameContext
  parallel ← flag_field name.FrameParallelDecodingMode
  index ← f name.FrameContextIdx 2
  done (record { refresh = refresh; parallel = parallel; index = index })

-- what ends each header
unfoldable pub frame_params : LoopDeltas → Features → ℕ → Table FrameParams
frame_params deltas features width = do
  loop_filter ← loop_filter_params deltas
  quantizer ← quantization_params
  segmentation ← segmentation_params features
  tiles ← tile_info width
  size ← f name.HeaderSizeInBytes 16
  check (not (size == 0)) rule.HeaderSizeZero
  done (record { loop_filter = loop_filter; quantizer = quantizer; segmentation = segmentation; tiles = tiles; compressed_size = size })

-- a key frame refreshes all slots
unfoldable pub key_fields : ℕ → Table FrameFields
key_fields profile = do
  frame_sync_code
  color ← color_config profile
  size ← frame_size
  render_size
  done (record { kind = Key; reset_context = 0; refresh = 255; color = color; size = size })

unfoldable pub intra_only_fields : ℕ → ℕ → Table FrameFields
intra_only_fields profile reset = do
  frame_sync_code
  color ← intra_only_color profile
  refresh ← f name.RefreshFrameFlags 8
  size ← frame_size
  render_size
  done (record { kind = IntraOnly; reset_context = reset; refresh = refresh; color = color; size = size })

abbrev pub intra_only_flag : Bool → Table Bool
intra_only_flag true = done false
intra_only_flag false = flag_field name.IntraOnly

abbrev pub reset_frame_context : Bool → Table ℕ
reset_frame_context true = done 0
reset_frame_context false = f name.ResetFrameContext 2

-- a shown frame isn't intra only, an error-resilient one resets no contexts but all
unfoldable pub intra_and_reset : Bool → Bool → Table (Bool × ℕ)
intra_and_reset show resilient = do
  intra ← intra_only_flag show
  reset ← reset_frame_context resilient
  done (intra, reset)

-- a frame that is no key frame
unfoldable pub other_fields : Persist → ℕ → Bool → Bool → Table FrameFields
other_fields before profile show resilient = do
  kind ← intra_and_reset show resilient
  if kind.0 then intra_only_fields profile kind.1 else inter_fields before resilient kind.1

unfoldable pub frame_fields : Persist → ℕ → FrameStart → Table FrameFields
frame_fields before profile start =
    if start.is_key then key_fields profile else other_fields before profile start.show_frame start.error_resilient

unfoldable pub frame_start : Table FrameStart
frame_start = do
  inter ← flag_field name.FrameType
  show ← flag_field name.ShowFrame
  resilient ← flag_field name.ErrorResilientMode
  done (record { is_key = not inter; show_frame = show; error_resilient = resilient })

-- intra frames and error-resilient ones lose the past (setup_past_independence, 7.2)
abbrev pub forgets : FrameKind → Bool → Bool
forgets Key resilient = true
forgets IntraOnly resilient = true
forgets (Inter fields) resilient = resilient

abbrev pub kept_deltas : Persist → Bool → LoopDeltas
kept_deltas before true = default_deltas
kept_deltas before false = before.deltas

abbrev pub kept_features : Persist → Bool → Features
kept_features before true = no_features
kept_features before false = before.features

-- a coded frame from its frame type on
unfoldable pub coded_frame : Persist → ℕ → Table Header
coded_frame before profile = do
  start ← frame_start
  fields ← frame_fields before profile start
  contexts ← frame_contexts start.error_resilient
  params ← frame_params (kept_deltas before (forgets fields.kind start.error_resilient)) (kept_features before (forgets fields.kind start.error_resilient)) fields.size.width
  done (record {
    profile = profile;
    kind = fields.kind;
    show_frame = start.show_frame;
    error_resilient = start.error_resilient;
    reset_context = fields.reset_context;
    color = fields.color;
    size = fields.size;
    refresh = fields.refresh;
    contexts = contexts;
    params = params;
  })

-- 6.2
unfoldable pub uncompressed_header : Persist → Table Uncompressed
uncompressed_header before = do
  profile ← frame_profile
  existing ← flag_field name.ShowExistingFrame
  if existing
      then (slot_shape name.FrameToShowMapIdx before rule.ShowMissing >>= λ held. done (uncompressed.ShowExisting held.0))
      else (coded_frame before profile >>= λ header. done (uncompressed.Coded header))

-- The compressed header starts at the next byte, and lies in the frame.
unfoldable pub placed : ℕ → Uncompressed → List ℕ → Result FrameHead Rule
placed bytes (uncompressed.ShowExisting slot) rest = Ok (head.ShowExisting slot)
placed bytes (uncompressed.Coded header) rest =
    if nat_lt (length rest / 8) header.params.compressed_size then Err rule.HeaderSizeLong
    else Ok (head.Coded header (record { from = bytes - length rest / 8; to = bytes - length rest / 8 + header.params.compressed_size }))

abbrev pub placed_if_read : ℕ → Result (Uncompressed × List ℕ) Rule → Result FrameHead Rule
placed_if_read bytes (Ok p) = placed bytes p.0 p.1
placed_if_read bytes (Err fault) = Err fault

-- The header of a frame, or the first test that fails.
unfoldable pub head_of : Persist → List ℕ → Result FrameHead Rule
head_of before frame = placed_if_read (length frame) (read_bits past (uncompressed_header before) (bits_of frame))

-- at most 256 tile columns and 4 tile rows
abbrev pub HasFewTiles : Uncompressed → Type 0
HasFewTiles (uncompressed.ShowExisting slot) = Unit {0}
HasFewTiles (uncompressed.Coded header) = AreFewTiles header.params.tiles

abbrev pub HeadHasFewTiles : FrameHead → Type 0
HeadHasFewTiles (head.ShowExisting slot) = Unit {0}
HeadHasFewTiles (head.Coded header compressed) = AreFewTiles header.params.tiles

-- the coded header's size is one that a frame can have
abbrev pub HasSize : Uncompressed → Type 0
HasSize (uncompressed.ShowExisting slot) = Unit {0}
HasSize (uncompressed.Coded header) = IsFrameSize header.size

abbrev pub HeadHasSize : FrameHead → Type 0
HeadHasSize (head.ShowExisting slot) = Unit {0}
HeadHasSize (head.Coded header compressed) = IsFrameSize header.size

-- the compressed header lies in a frame of so many bytes
abbrev pub LiesIn : ℕ → FrameHead → Type 0
LiesIn bytes (head.ShowExisting slot) = Unit {0}
LiesIn bytes (head.Coded header compressed) = (compressed.from ≤ compressed.to) × (compressed.to ≤ bytes)

-- the entries are the frame's header, which settles on the value
pub record IsHeaderOf (before : Persist) (frame : List ℕ) (es : List (Entry FieldName)) (x : Uncompressed) : Type 0 where
  pub read : IsReadAs (uncompressed_header before) es x
  pub rest : List ℕ
  pub front : bits_of frame ≡ joined es ++ rest
