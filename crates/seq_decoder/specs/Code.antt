-- What the code keeps, and what the calls answer.
use Rattle.std.specs.Prelude.{◌≡◌, All, ℕ, ◌+◌, ◌/◌, ◌≤◌, ◌<◌, List, [], map, Option, Some, None, Result, Ok, Err, true, false, length, slice_get, slice_index_or}
use Rattle.edge_io.specs.Putting.{Takes, TakesFront}
use Rattle.edge_io.specs.declared.sink.PutFault.{PutFault}
use Rattle.edge_io.specs.declared.sink.PutFault.TheVariants as refused
use Rattle.vp9_types.specs.declared.job.Span.{Span}
use Rattle.vp9_types.specs.Maps.{FrameMap, Map}
use Rattle.vp9_types.specs.declared.rule.Rule.{Rule}
use Rattle.vp9_types.specs.declared.rule.Rule.TheVariants.{OutputShape}
use Rattle.vp9_types.specs.declared.outcome.Outcome.{Outcome}
use Rattle.vp9_types.specs.declared.outcome.Outcome.TheVariants as outcome
use Rattle.vp9_types.specs.declared.shape.Shape.{Shape}
use Rattle.file_frames.specs.Walks.{Added}
use Rattle.frame_headers.specs.declared.header.FrameKind.{FrameKind}
use Rattle.frame_headers.specs.declared.header.FrameKind.TheVariants.{Key, IntraOnly, Inter}
use Rattle.frame_headers.specs.declared.header.FrameSize.{FrameSize}
use Rattle.frame_headers.specs.declared.header.Reference.{Reference}
use Rattle.inter_contexts.specs.BlockReferences.{reference_in}
use Rattle.vp9_types.specs.declared.block.ReferenceFrame.{ReferenceFrame}
use Rattle.frame_headers.specs.declared.header.Header.{Header}
use Rattle.frame_headers.specs.HeaderState.{SlotsHaveSizes, is_key}
use Rattle.prob_contexts.specs.ProbLists.{ContextLists, lists_of}
use Rattle.block_plan.specs.SegmentMaps.{SegmentIds, id_map}
use Rattle.picture_table.specs.Code.{held, names, IsTable}
use Rattle.picture_table.specs.declared.table.PictureTable.{PictureTable}
use Rattle.planes.specs.Pictures.{FitsPlanes, map_of}
use Rattle.planes.specs.declared.picture.Picture as planes
use Rattle.picture_table.specs.KeptPictures.{IsSound, map_of_any, shape_of_any}
use Rattle.picture_table.specs.declared.any.AnyPicture.{AnyPicture}
use Rattle.frame_headers.specs.HeaderState.{shape_of}
use Rattle.frame_state.specs.Code.{counts_if}
use Rattle.frame_state.specs.KeptColumns.{AreColumnsOf, HasStarts, blocks_of}
use Rattle.frame_state.specs.Past.{past_of}
use Rattle.frame_state.specs.Sources.{adapts}
use Rattle.frame_state.specs.declared.sources.FrameSources as code_sources
use Rattle.block_rebuild.specs.InterBlocks as rebuild
use Rattle.frame_decoder.specs.DecodedFrames.{FrameResult, decoded}
use Rattle.frame_decoder.specs.declared.decoding.Decoded.{Decoded}
use Rattle.frame_state.specs.FrameReading.{FrameInput, all_blocks}
use Rattle.frame_state.specs.declared.halt.Halt.{Halt}
use Rattle.frame_state.specs.declared.halt.Halt.TheVariants as halt
use Rattle.seq_decoder.specs.declared.coding.Coded.{Coded}
use Rattle.seq_decoder.specs.declared.decoder.Decoder.{Decoder}
use Rattle.seq_decoder.specs.declared.form.OutputForm.{OutputForm}
use Rattle.seq_decoder.specs.declared.saved.SavedContexts.{SavedContexts}
use Rattle.seq_decoder.specs.After.{Stepped, segments_before}
use Rattle.seq_decoder.specs.Outcomes.{outcome_at}
use Rattle.seq_decoder.specs.Outputs.{Putting, admits, form_after, put, shown_text}
use Rattle.seq_decoder.specs.SavedContexts.{saved_before}
use Rattle.seq_decoder.specs.DecoderState.{LastFrame, Picture, State, last_size, no_segments, persist_of}
use Rattle.block_rebuild.specs.declared.references.ReferencePicture as code_picture
use Rattle.seq_decoder.specs.declared.last.LastFrame as code_last

---- What the code keeps ----

-- the saved contexts
abbrev pub saved_lists : SavedContexts → List ContextLists
saved_lists s = map lists_of s.places

-- a part of so many bytes
abbrev pub LiesWithin : ℕ → Span → Type 0
LiesWithin bytes span = (span.from ≤ span.to) × (span.to ≤ bytes)

-- what a slot holds
abbrev pub shown_of : Option Picture → Option (Shape × FrameMap)
shown_of None = None
shown_of (Some picture) = Some (picture.shape, picture.map)

-- what a map holds of the segments, if there is one
abbrev pub segments_held : Option SegmentIds → Map
segments_held None = no_segments
segments_held (Some m) = id_map m

-- it has the places of a frame of this size, if there was one
abbrev pub HasPlaces : Option FrameSize → Option SegmentIds → Type 0
HasPlaces None m = Unit {0}
HasPlaces (Some size) None = ⊥
HasPlaces (Some size) (Some m) = (m.rows ≡ (size.height + 7) / 8) × (m.cols ≡ (size.width + 7) / 8)

-- the shape of what a slot holds
abbrev pub shape_told : Option (Shape × FrameMap) → Option Shape
shape_told None = None
shape_told (Some told) = Some told.0

-- between two frames: a table of at most nine pictures, eight that slots hold and one to decode into, whose shapes are those
-- that headers read, and a map of segments of the last frame's places
pub record MayDecode (d : Decoder) : Type 0 where
  pub sized : SlotsHaveSizes d.persist
  pub table_is : IsTable d.table
  pub shapes : map shape_told (held d.table) ≡ d.persist.slots
  pub few : length d.table.pictures.items ≤ 9
  pub places : HasPlaces d.persist.size d.segments

-- what the code holds of the last decoded frame
abbrev pub last_of_code : code_last.LastFrame → LastFrame
last_of_code last = record {
  size = last.header.size;
  shown = last.header.show_frame;
  key = is_key last.header.kind;
  blocks = all_blocks (blocks_of last.columns.items);
}

abbrev pub last_held : Option code_last.LastFrame → Option LastFrame
last_held None = None
last_held (Some last) = Some (last_of_code last)

-- what the code holds of the state: what headers read, the saved contexts, what the slots hold, the segments, and the last
-- decoded frame
pub record StandsFor (d : Decoder) (s : State) : Type 0 where
  pub persist : d.persist ≡ persist_of s
  pub contexts : saved_lists d.saved ≡ s.contexts
  pub slots : held d.table ≡ map shown_of s.slots
  pub segments : segments_held d.segments ≡ s.segments
  pub last : last_held d.last ≡ s.last

-- the same, for a frame that is decoded but not kept: it found the contexts and the segments so
pub record HasBegun (header : Header) (d : Decoder) (s : State) : Type 0 where
  pub persist : d.persist ≡ persist_of s
  pub contexts : saved_lists d.saved ≡ saved_before header s.contexts
  pub slots : held d.table ≡ map shown_of s.slots
  pub segments : segments_held d.segments ≡ segments_before header (last_size s.last) s.segments
  pub last : last_held d.last ≡ s.last

-- a slot that a header refers to holds a picture of the reference's shape, in the frame's format
pub record IsHeld (header : Header) (slots : List (Option (Shape × FrameMap))) (r : Reference) : Type 0 where
  pub told : Shape × FrameMap
  pub there : slice_index_or slots r.slot None ≡ Some told
  pub shape : told.0 ≡ r.shape
  pub depth : told.0.depth ≡ header.color.depth

abbrev pub NamesHeldBy : FrameKind → Header → List (Option (Shape × FrameMap)) → Type 0
NamesHeldBy Key header slots = Unit {0}
NamesHeldBy IntraOnly header slots = Unit {0}
NamesHeldBy (Inter fields) header slots = (reference : ReferenceFrame) → IsHeld header slots (reference_in fields.references reference)

-- what a picture that is referred to shows
abbrev pub told_of : {X : Type 0} → Option (code_picture.ReferencePicture (planes.Picture X)) → Option (Shape × FrameMap)
told_of None = None
told_of (Some r) = Some (r.shape, map_of r.samples.now)

-- each slot that a frame refers to
abbrev pub NamesHeld : Header → List (Option (Shape × FrameMap)) → Type 0
NamesHeld header slots = NamesHeldBy header.kind header slots

---- What the calls answer ----

-- a picture of which this is told: how it is put doesn't depend on its number
abbrev pub told_picture : Option (Shape × FrameMap) → Option Picture
told_picture None = None
told_picture (Some told) = Some (record { frame = 0; shape = told.0; map = told.1 })

-- what a frame is read from
abbrev pub input_by : code_sources.FrameSources → List ℕ → Span → FrameInput
input_by by bytes compressed = record { header = by.setting.header; compressed = compressed; bytes = bytes; past = past_of by.past }

-- the code holds what a frame leaves, whatever a sample is kept as
pub record HoldsFrame (header : Header) (picture : AnyPicture) (d : Decoded) (r : FrameResult) : Type 0 where
  pub map : map_of_any picture ≡ r.map
  pub shape : shape_of_any picture ≡ shape_of header
  pub sound : FitsPlanes (shape_of header) → IsSound picture
  pub contexts : lists_of d.contexts ≡ r.contexts
  pub blocks : blocks_of d.columns.items ≡ r.blocks
  pub starts : All (HasStarts header) d.columns.items
  pub columns : AreColumnsOf header d.columns.items
  pub counts : d.counts ≡ counts_if (adapts header) r.counted

-- the frame is that, or the rule is broken. Want of memory has no cause
abbrev pub IsFrame : (ReferenceFrame → rebuild.ReferencePicture) → FrameInput → AnyPicture → Result Decoded Halt → Type 0
IsFrame references input picture (Ok d) = (r : FrameResult) × (decoded references input ≡ Ok r) × HoldsFrame input.header picture d r
IsFrame references input picture (Err (halt.Broken rule)) = decoded references input ≡ Err rule
IsFrame references input picture (Err halt.OutOfMemory) = Unit {0}

-- the frame's samples stand at its place, which no slot names
pub record IsAt (header : Header) (table : PictureTable) (c : Coded) (result : FrameResult) : Type 0 where
  pub picture : AnyPicture
  pub there : slice_get table.pictures.items c.place ≡ Some picture
  pub free : names c.place table.slots ≡ false
  pub holds : HoldsFrame header picture c.decoded result

-- the frame is that, or the rule is broken. Want of memory has no cause, and no sink is asked here
abbrev pub IsCoded : Header → Result FrameResult Rule → PictureTable → Result Coded Halt → Type 0
IsCoded header f table (Ok c) = (result : FrameResult) × (f ≡ Ok result) × IsAt header table c result
IsCoded header f table (Err (halt.Broken rule)) = f ≡ Err rule
IsCoded header f table (Err halt.OutOfMemory) = Unit {0}

-- The text was put into a sink that didn't fail, or a front of it was. Its count of faults, before and now, rose exactly
-- where the answer is a fault. Memory is wanted for more than the sink.
abbrev pub Shows : List ℕ → Option (List ℕ) → Option (List ℕ) → ℕ → ℕ → Result (Unit {0}) PutFault → Type 0
Shows text old new faults now (Ok u) = Takes old new text × (now ≡ faults)
Shows text old new faults now (Err refused.Failed) = TakesFront old new text × (faults < now)
Shows text old new faults now (Err refused.OutOfMemory) = TakesFront old new text × (now ≡ faults)

abbrev pub halt_outcome : ℕ → Halt → Outcome
halt_outcome frame (halt.Broken rule) = outcome_at frame rule
halt_outcome frame halt.OutOfMemory = outcome.OutOfMemory

abbrev pub refusal_outcome : PutFault → Outcome
refusal_outcome refused.Failed = outcome.WriteFault
refusal_outcome refused.OutOfMemory = outcome.OutOfMemory

-- What is shown was written and the form is the one behind it; or it doesn't fit the form, or the sink refused, and the run ends.
abbrev pub Puts : ℕ → Option Picture → OutputForm → OutputForm → Option (List ℕ) → Option (List ℕ) → ℕ → ℕ → Result (Unit {0}) Outcome → Type 0
Puts number shown form after old new faults now (Ok u) =
    (admits form shown ≡ true) × (after ≡ form_after form shown) × Takes old new (shown_text form shown) × (now ≡ faults)
Puts number shown form after old new faults now (Err (outcome.Broken stop)) =
    (admits form shown ≡ false) × (stop ≡ record { frame = number; rule = OutputShape }) × Takes old new [] × (now ≡ faults)
Puts number shown form after old new faults now (Err outcome.WriteFault) =
    (admits form shown ≡ true) × TakesFront old new (shown_text form shown) × (faults < now)
Puts number shown form after old new faults now (Err outcome.OutOfMemory) =
    (admits form shown ≡ true) × TakesFront old new (shown_text form shown) × (now ≡ faults)
Puts number shown form after old new faults now (Err other) = ⊥

-- what is written of a frame
abbrev pub put_text : Result (Added Putting ℕ) Rule → List ℕ
put_text (Ok added) = added.adds
put_text (Err rule) = []

-- the frame breaks this rule, and nothing was written
pub record Breaks (number : ℕ) (put : Result (Added Putting ℕ) Rule) (old new : Option (List ℕ)) (faults now : ℕ) (at : ℕ) (rule : Rule) : Type 0 where
  pub ends : put ≡ Err rule
  pub frame : at ≡ number
  pub none : Takes old new []
  pub quiet : now ≡ faults

-- the decode ends in this frame
abbrev pub Halts : ℕ → Result (Added Putting ℕ) Rule → Option (List ℕ) → Option (List ℕ) → ℕ → ℕ → Outcome → Type 0
Halts number put old new faults now outcome.Done = ⊥
Halts number put old new faults now (outcome.Broken stop) = Breaks number put old new faults now stop.frame stop.rule
Halts number put old new faults now outcome.WriteFault = TakesFront old new (put_text put) × (faults < now)
Halts number put old new faults now outcome.OutOfMemory = TakesFront old new (put_text put) × (now ≡ faults)
Halts number put old new faults now outcome.ReadFault = ⊥

-- the frame was decoded, and written in this form if it is shown, and the decoder stands for the state behind it; or the
-- decode ends in it
abbrev pub Adds : ℕ → OutputForm → Result Stepped Rule → Decoder → Option (List ℕ) → Option (List ℕ) → ℕ → ℕ → Result (Unit {0}) Outcome → Type 0
Adds number form stepped d old new faults now (Ok u) =
    (next : Stepped) × (stepped ≡ Ok next) × StandsFor d next.state × (admits form next.shown ≡ true) × (d.form ≡ form_after form next.shown)
    × Takes old new (shown_text form next.shown) × (now ≡ faults)
Adds number form stepped d old new faults now (Err o) = Halts number (put form stepped) old new faults now o
