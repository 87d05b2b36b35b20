-- A coded frame of a decode, by its number: what it is read from, and what it comes to.
use Rattle.std.specs.Prelude.{◌≡◌, ◌<◌, ℕ, List, Option, Some, None, Result, Ok, Err, slice_range}
use Rattle.vp9_types.specs.declared.block.Modes.{Modes}
use Rattle.vp9_types.specs.declared.block.ReferenceFrame.{ReferenceFrame}
use Rattle.vp9_types.specs.declared.job.Span.{Span}
use Rattle.vp9_types.specs.declared.rule.Rule.{Rule}
use Rattle.frame_headers.specs.Header.{head_of}
use Rattle.frame_headers.specs.Spans.{tile_spans}
use Rattle.frame_headers.specs.declared.header.FrameHead.{FrameHead}
use Rattle.frame_headers.specs.declared.header.FrameHead.TheVariants as head
use Rattle.frame_headers.specs.declared.header.Header.{Header}
use Rattle.prob_contexts.specs.ProbLists.{ContextLists}
use Rattle.compressed_header.specs.CompressedHeader.{forward}
use Rattle.frame_output.specs.declared.rendering.Format.{Format}
use Rattle.block_rebuild.specs.InterBlocks.{ReferencePicture}
use Rattle.seq_decoder.specs.frame_state.FrameReading.{FrameRead, read_all_tiles, sources}
use Rattle.seq_decoder.specs.frame_state.Sources.{FrameSources}
use Rattle.seq_decoder.specs.frame_decoder.DecodedFrames.{FrameResult, rebuilt}
use Rattle.seq_decoder.specs.After.{input_of, picture_of, references_of}
use Rattle.seq_decoder.specs.Outputs.{Putting}
use Rattle.seq_decoder.specs.DecoderState.{Picture, persist_of}
use Rattle.numbered_frames.specs.FrameNumbers.{before, frame_at}
use Rattle.numbered_frames.specs.Films.{Film}

-- a coded frame whose headers and tiles' sizes break no rule: what is kept before it, its bytes and its header, what its blocks are
-- read by, and where its tiles lie
pub record CodedFrame : Type 0 where
  pub kept : Putting
  pub bytes : List ℕ
  pub header : Header
  pub compressed : Span
  pub by : FrameSources
  pub spans : List Span

abbrev pub begun_from : Putting → List ℕ → Header → Span → Result (ContextLists × Modes) Rule → Result (List Span) Rule → Option CodedFrame
begun_from p frame header compressed (Err rule) spans = None
begun_from p frame header compressed (Ok updated) (Err rule) = None
begun_from p frame header compressed (Ok updated) (Ok spans) = Some (record {
  kept = p;
  bytes = frame;
  header = header;
  compressed = compressed;
  by = sources (input_of p.state frame header compressed) updated;
  spans = spans;
})

abbrev pub headed_from : Putting → List ℕ → Result FrameHead Rule → Option CodedFrame
headed_from p frame (Err rule) = None
headed_from p frame (Ok (head.ShowExisting slot)) = None
headed_from p frame (Ok (head.Coded header compressed)) =
    let input = input_of p.state frame header compressed in
    begun_from p frame header compressed (forward header input.past.contexts (slice_range frame compressed.from compressed.to)) (tile_spans frame header compressed)

abbrev pub coded_from : Option Putting → Option (List ℕ) → Option CodedFrame
coded_from None frame = None
coded_from (Some p) None = None
coded_from (Some p) (Some frame) = headed_from p frame (head_of (persist_of p.state) frame)

-- frame f, if it is such a frame
unfoldable pub coded : Format → Film → ℕ → Option CodedFrame
coded format film f = coded_from (before format film f) (frame_at film f)

-- what its tiles are read to
abbrev pub read_of : CodedFrame → Result FrameRead Rule
read_of c = read_all_tiles c.by c.bytes c.compressed

-- the pictures that it refers to
abbrev pub references : CodedFrame → ReferenceFrame → ReferencePicture
references c = references_of c.kept.state.slots c.header.kind

-- what it leaves, where its tiles are read to this
abbrev pub result_of : CodedFrame → FrameRead → FrameResult
result_of c read = rebuilt (references c) (read, c.by)

-- a picture is the frame of its number, which comes before frame f
pub record IsFrameBefore (format : Format) (film : Film) (f : ℕ) (picture : Picture) : Type 0 where
  pub earlier : picture.frame < f
  pub frame : CodedFrame
  pub is : coded format film picture.frame ≡ Some frame
  pub read : FrameRead
  pub reads : read_of frame ≡ Ok read
  pub same : picture ≡ picture_of picture.frame frame.header (result_of frame read)
