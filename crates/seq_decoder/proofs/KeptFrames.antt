-- A frame that is decoded, whatever its samples are kept as.
use Rattle.std.proofs.Common.{◌≡◌, ℕ, sym, subst}
use Rattle.std.specs.Prelude.{IfOk, Result, Ok, Err}
use Rattle.vp9_types.specs.declared.block.ReferenceFrame.{ReferenceFrame}
use Rattle.vp9_types.specs.declared.shape.Depth.{Depth}
use Rattle.vp9_types.specs.declared.shape.Shape.{Shape}
use Rattle.frame_headers.specs.HeaderState.{shape_of}
use Rattle.frame_headers.specs.declared.header.Header.{Header}
use Rattle.planes.specs.Pictures.{FitsPlanes}
use Rattle.planes.specs.declared.picture.Picture.{Picture}
use Rattle.picture_table.specs.KeptPictures.{IsWhole, KeepInBytes, KeepInWords}
use Rattle.picture_table.specs.declared.any.AnyPicture.TheVariants.{Bytes, Words}
use Rattle.block_rebuild.specs.InterBlocks.{ReferencePicture}
use Rattle.frame_state.specs.FrameReading.{FrameInput}
use Rattle.frame_state.specs.declared.halt.Halt.{Halt}
use Rattle.frame_state.specs.declared.halt.Halt.TheVariants as halt
use Rattle.frame_decoder.specs.Code.{HoldsResult, IsDecoded}
use Rattle.frame_decoder.specs.DecodedFrames.{FrameResult}
use Rattle.frame_decoder.specs.declared.decoding.Decoded.{Decoded}
use Rattle.seq_decoder.specs.Code.{HoldsFrame, IsFrame}

-- what it leaves
pub left_of : {X : Type 0} (references : ReferenceFrame → ReferencePicture) (input : FrameInput) (picture : Picture X) (result : Result Decoded Halt) → IsDecoded references input picture result
    → IfOk result (λ d. (r : FrameResult) × HoldsResult input.header picture d r)
left_of references input picture (Ok d) h = (h.0, h.2)
left_of references input picture (Err e) h = tt

whole_of : {X : Type 0} (header : Header) (p : Picture X) (d : Decoded) (r : FrameResult) → HoldsResult header p d r → FitsPlanes (shape_of header) → IsWhole p
whole_of header p d r h fits = record { fits = rw h.shape fits; sizes = rw h.shape h.sizes; range = rw h.shape h.range }

kept_as : (Keeps : Depth → Type 0) (a b : Shape) → a ≡ b → Keeps b.depth → Keeps a.depth
kept_as Keeps a b same h = subst (λ (s : Shape). Keeps s.depth) (sym same) h

in_bytes : (header : Header) (p : Picture ℕ) (d : Decoded) (r : FrameResult) → KeepInBytes (shape_of header).depth → HoldsResult header p d r → HoldsFrame header (Bytes p) d r
in_bytes header p d r keeps h = record {
  map = h.map;
  shape = h.shape;
  sound = λ fits. (whole_of header p d r h fits, kept_as KeepInBytes p.shape (shape_of header) h.shape keeps);
  contexts = h.contexts;
  blocks = h.blocks;
  starts = h.starts;
  columns = h.columns;
  counts = h.counts;
}

in_words : (header : Header) (p : Picture ℕ) (d : Decoded) (r : FrameResult) → KeepInWords (shape_of header).depth → HoldsResult header p d r → HoldsFrame header (Words p) d r
in_words header p d r keeps h = record {
  map = h.map;
  shape = h.shape;
  sound = λ fits. (whole_of header p d r h fits, kept_as KeepInWords p.shape (shape_of header) h.shape keeps);
  contexts = h.contexts;
  blocks = h.blocks;
  starts = h.starts;
  columns = h.columns;
  counts = h.counts;
}

pub frame_in_bytes : (references : ReferenceFrame → ReferencePicture) (input : FrameInput) (p : Picture ℕ) (result : Result Decoded Halt) → KeepInBytes (shape_of input.header).depth
    → IsDecoded references input p result → IsFrame references input (Bytes p) result
frame_in_bytes references input p (Ok d) keeps h = (h.0, h.1, in_bytes input.header p d h.0 keeps h.2)
frame_in_bytes references input p (Err (halt.Broken rule)) keeps h = h
frame_in_bytes references input p (Err halt.OutOfMemory) keeps h = tt

pub frame_in_words : (references : ReferenceFrame → ReferencePicture) (input : FrameInput) (p : Picture ℕ) (result : Result Decoded Halt) → KeepInWords (shape_of input.header).depth
    → IsDecoded references input p result → IsFrame references input (Words p) result
frame_in_words references input p (Ok d) keeps h = (h.0, h.1, in_words input.header p d h.0 keeps h.2)
frame_in_words references input p (Err (halt.Broken rule)) keeps h = h
frame_in_words references input p (Err halt.OutOfMemory) keeps h = tt

pub left_in_bytes : (header : Header) (p : Picture ℕ) (result : Result Decoded Halt) → KeepInBytes (shape_of header).depth → IfOk result (λ d. (r : FrameResult) × HoldsResult header p d r)
    → IfOk result (λ d. (r : FrameResult) × HoldsFrame header (Bytes p) d r)
left_in_bytes header p (Ok d) keeps h = (h.0, in_bytes header p d h.0 keeps h.1)
left_in_bytes header p (Err e) keeps h = tt

pub left_in_words : (header : Header) (p : Picture ℕ) (result : Result Decoded Halt) → KeepInWords (shape_of header).depth → IfOk result (λ d. (r : FrameResult) × HoldsResult header p d r)
    → IfOk result (λ d. (r : FrameResult) × HoldsFrame header (Words p) d r)
left_in_words header p (Ok d) keeps h = (h.0, in_words header p d h.0 keeps h.1)
left_in_words header p (Err e) keeps h = tt
