-- What a coded frame is made from, and its picture.
use Rattle.std.proofs.Common.{◌≡◌, ◌∙◌, ℕ, zero, suc, List, [], ◌∷◌, refl, sym, ap, subst, arith}
use Rattle.std.specs.Prelude.{Option, Some, None, Result, Ok, Err, slice_index_or, slice_range}
use Rattle.std.specs.List.{All}
use Rattle.vp9_types.specs.declared.block.Modes.{Modes}
use Rattle.vp9_types.specs.declared.job.Span.{Span}
use Rattle.vp9_types.specs.declared.rule.Rule.{Rule}
use Rattle.band_cells.specs.Bands as bands
use Rattle.compressed_header.specs.CompressedHeader.{forward}
use Rattle.frame_headers.specs.Header.{head_of}
use Rattle.frame_headers.specs.Spans.{tile_spans}
use Rattle.frame_headers.specs.HeaderState.{shape_of}
use Rattle.frame_headers.specs.declared.header.FrameHead.{FrameHead}
use Rattle.frame_headers.specs.declared.header.FrameHead.TheVariants as head
use Rattle.frame_headers.specs.declared.header.Header.{Header}
use Rattle.frame_output.specs.declared.rendering.Format.{Format}
use Rattle.prob_contexts.specs.ProbLists.{ContextLists}
use Rattle.numbered_frames.specs.frame_state.FrameReading.{FrameRead, sources}
use Rattle.numbered_frames.specs.frame_state.Sources.{FrameSources}
use Rattle.numbered_frames.specs.seq_decoder.After.{input_of}
use Rattle.numbered_frames.specs.seq_decoder.Outputs.{Putting}
use Rattle.numbered_frames.specs.seq_decoder.DecoderState.{Picture, persist_of}
use Rattle.numbered_frames.specs.Coded.{CodedFrame, IsFrameBefore, begun_from, coded, coded_from, headed_from, read_of, result_of}
use Rattle.numbered_frames.specs.FrameNumbers.{before, frame_at}
use Rattle.numbered_frames.specs.NumberedPictures.{picture_from, picture_read, pictures}
use Rattle.numbered_frames.specs.Films.{Film}

pub inner : {A : Type 0} (a b : A) → Some a ≡ Some b → a ≡ b
inner a b is = cc

pub same_coded : (o : Option CodedFrame) (a b : CodedFrame) → o ≡ Some a → o ≡ Some b → a ≡ b
same_coded o a b is also = inner a b (sym is ∙ also)

---- What it is made from ----

-- what is kept before it, its bytes and its head; what its blocks are read by; and where its tiles lie
pub record CodedBy (from : Option Putting) (frame : Option (List ℕ)) (c : CodedFrame) : Type 0 where
  pub before : from ≡ Some c.kept
  pub there : frame ≡ Some c.bytes
  pub head : head_of (persist_of c.kept.state) c.bytes ≡ Ok (head.Coded c.header c.compressed)
  pub updated : ContextLists × Modes
  pub forwarded : forward c.header (input_of c.kept.state c.bytes c.header c.compressed).past.contexts (slice_range c.bytes c.compressed.from c.compressed.to) ≡ Ok updated
  pub by : c.by ≡ sources (input_of c.kept.state c.bytes c.header c.compressed) updated
  pub spans : tile_spans c.bytes c.header c.compressed ≡ Ok c.spans

by_parts : (p : Putting) (frame : List ℕ) (header : Header) (compressed : Span) (updated : Result (ContextLists × Modes) Rule) (spans : Result (List Span) Rule) (c : CodedFrame)
    → head_of (persist_of p.state) frame ≡ Ok (head.Coded header compressed)
    → forward header (input_of p.state frame header compressed).past.contexts (slice_range frame compressed.from compressed.to) ≡ updated → tile_spans frame header compressed ≡ spans
    → begun_from p frame header compressed updated spans ≡ Some c → CodedBy (Some p) (Some frame) c
by_parts p frame header compressed (Err rule) spans c heads forwarded cut is = absurd cc
by_parts p frame header compressed (Ok updated) (Err rule) c heads forwarded cut is = absurd cc
by_parts p frame header compressed (Ok updated) (Ok spans) c heads forwarded cut is =
    let whole : CodedFrame = record {
      kept = p;
      bytes = frame;
      header = header;
      compressed = compressed;
      by = sources (input_of p.state frame header compressed) updated;
      spans = spans;
    } in
    let same : whole ≡ c = inner whole c is in
    subst (CodedBy (Some p) (Some frame)) same (record {
      before = refl;
      there = refl;
      head = heads;
      updated = updated;
      forwarded = forwarded;
      by = refl;
      spans = cut;
    })

by_head : (p : Putting) (frame : List ℕ) (heads : Result FrameHead Rule) (c : CodedFrame) → head_of (persist_of p.state) frame ≡ heads → headed_from p frame heads ≡ Some c → CodedBy (Some p) (Some frame) c
by_head p frame (Err rule) c heads is = absurd cc
by_head p frame (Ok (head.ShowExisting slot)) c heads is = absurd cc
by_head p frame (Ok (head.Coded header compressed)) c heads is = by_parts p frame header compressed _ _ c heads refl refl is

by_frame : (from : Option Putting) (frame : Option (List ℕ)) (c : CodedFrame) → coded_from from frame ≡ Some c → CodedBy from frame c
by_frame None frame c is = absurd cc
by_frame (Some p) None c is = absurd cc
by_frame (Some p) (Some frame) c is = by_head p frame (head_of (persist_of p.state) frame) c refl is

pub coded_by : (format : Format) (film : Film) (f : ℕ) (c : CodedFrame) → coded format film f ≡ Some c → CodedBy (before format film f) (frame_at film f) c
unfolding coded
coded_by format film f c is = by_frame (before format film f) (frame_at film f) c is

-- its blocks are read by its header
pub same_header : (from : Option Putting) (frame : Option (List ℕ)) (c : CodedFrame) → CodedBy from frame c → c.by.header ≡ c.header
same_header from frame c by = ap (λ (s : FrameSources). s.header) by.by

---- Its picture ----

pub picture_is : (format : Format) (film : Film) (f : ℕ) (c : CodedFrame) (read : FrameRead) → coded format film f ≡ Some c → read_of c ≡ Ok read
    → pictures format film f ≡ record { shape = shape_of c.header; map = (result_of c read).map }
unfolding pictures
picture_is format film f c read is reads = ap picture_from is ∙ ap (picture_read c) reads

-- a picture that a slot holds is its frame's
pub record IsPictureOf (picture : Picture) (of : bands.Picture) : Type 0 where
  pub shape : picture.shape ≡ of.shape
  pub map : picture.map ≡ of.map

pub before_is : (format : Format) (film : Film) (f : ℕ) (picture : Picture) → IsFrameBefore format film f picture → IsPictureOf picture (pictures format film picture.frame)
before_is format film f picture h =
    let of = picture_is format film picture.frame h.frame h.read h.is h.reads in record {
      shape = ap (λ (p : Picture). p.shape) h.same ∙ sym (ap (λ (p : bands.Picture). p.shape) of);
      map = ap (λ (p : Picture). p.map) h.same ∙ sym (ap (λ (p : bands.Picture). p.map) of);
    }

-- what holds of all slots holds of one that is named
pub slot_at : (P : Option Picture → Type 0) (slots : List (Option Picture)) (n : ℕ) (picture : Picture) → All P slots → slice_index_or slots n None ≡ Some picture → P (Some picture)
slot_at P [] n picture all is = absurd cc
slot_at P (slot ∷ slots) zero picture all is = subst P is (all 0 slot (omega arith))
slot_at P (slot ∷ slots) (suc n) picture all is = slot_at P slots n picture (λ k d low. all (suc k) d (omega (arith, low))) is
