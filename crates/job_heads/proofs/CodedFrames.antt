-- What a coded frame is made of.
use Rattle.std.proofs.Common.{◌≡◌, ◌∙◌, ℕ, List, ap, sym, subst, refl}
use Rattle.std.specs.Prelude.{IsOk, Option, Some, None, Result, Ok, Err, slice_range}
use Rattle.vp9_types.specs.Results.{map_ok, ◌>>=◌}
use Rattle.vp9_types.specs.declared.block.Modes.{Modes}
use Rattle.vp9_types.specs.declared.job.Span.{Span}
use Rattle.vp9_types.specs.declared.rule.Rule.{Rule}
use Rattle.compressed_header.specs.CompressedHeader.{forward}
use Rattle.frame_headers.specs.Header.{head_of}
use Rattle.frame_headers.specs.Spans.{tile_spans}
use Rattle.frame_headers.specs.HeaderState.{shape_of}
use Rattle.frame_headers.specs.declared.header.FrameHead.{FrameHead}
use Rattle.frame_headers.specs.declared.header.FrameHead.TheVariants as head
use Rattle.frame_headers.specs.declared.header.Header.{Header}
use Rattle.frame_output.specs.declared.rendering.Format.{Format}
use Rattle.prob_contexts.specs.ProbLists.{ContextLists, lists_of}
use Rattle.job_results.specs.frame_decoder.DecodedFrames.{FrameResult, decoded, rebuilt}
use Rattle.job_results.specs.frame_state.FrameReading.{FrameInput, FrameRead, read_all_tiles, read_frame, sources}
use Rattle.job_results.specs.frame_state.Sources.{FrameSources}
use Rattle.job_results.specs.frame_steps.StepResults.{BeginsIn, IsSound}
use Rattle.job_results.specs.frame_steps.declared.beginning.BegunFrame.{BegunFrame}
use Rattle.job_results.specs.frame_steps.declared.kept.Kept.{Kept}
use Rattle.job_results.specs.seq_decoder.After.{decoded_in, input_of}
use Rattle.job_results.specs.seq_decoder.Outputs.{Putting}
use Rattle.job_results.specs.seq_decoder.DecoderState.{persist_of}
use Rattle.job_results.specs.numbered_frames.Coded.{CodedFrame, begun_from, coded, coded_from, headed_from, read_of, references, result_of}
use Rattle.job_results.specs.numbered_frames.FrameNumbers.{before, frame_at}
use Rattle.job_results.specs.numbered_frames.NumberedPictures.{picture_from, picture_read, pictures}
use Rattle.job_results.specs.Lent.{IsBegunFrame, IsKeptBefore}
use Rattle.job_results.specs.JobResults.{IsBegunAs}
use Rattle.job_heads.proofs.HeadSteps.{read_by}
use Rattle.job_results.specs.numbered_frames.Films.{Film}

-- where it comes from
pub record IsFrom (format : Format) (film : Film) (f : ℕ) (c : CodedFrame) : Type 0 where
  pub reached : before format film f ≡ Some c.kept
  pub there : frame_at film f ≡ Some c.bytes
  pub head : head_of (persist_of c.kept.state) c.bytes ≡ Ok (head.Coded c.header c.compressed)
  pub updated : ContextLists × Modes
  pub forwarded : forward c.header (input_of c.kept.state c.bytes c.header c.compressed).past.contexts (slice_range c.bytes c.compressed.from c.compressed.to) ≡ Ok updated
  pub by : c.by ≡ sources (input_of c.kept.state c.bytes c.header c.compressed) updated
  pub cut : tile_spans c.bytes c.header c.compressed ≡ Ok c.spans

abbrev pub coded_by : Putting → List ℕ → Header → Span → ContextLists × Modes → List Span → CodedFrame
coded_by p frame header compressed updated spans = record {
  kept = p;
  bytes = frame;
  header = header;
  compressed = compressed;
  by = sources (input_of p.state frame header compressed) updated;
  spans = spans;
}

from_begun : (format : Format) (film : Film) (f : ℕ) (p : Putting) (frame : List ℕ) (header : Header) (compressed : Span) (u : Result (ContextLists × Modes) Rule) (s : Result (List Span) Rule) (c : CodedFrame)
    → before format film f ≡ Some p → frame_at film f ≡ Some frame → head_of (persist_of p.state) frame ≡ Ok (head.Coded header compressed)
    → forward header (input_of p.state frame header compressed).past.contexts (slice_range frame compressed.from compressed.to) ≡ u → tile_spans frame header compressed ≡ s
    → begun_from p frame header compressed u s ≡ Some c → IsFrom format film f c
from_begun format film f p frame header compressed (Err rule) s c from there read forwarded cut is = absurd cc
from_begun format film f p frame header compressed (Ok updated) (Err rule) c from there read forwarded cut is = absurd cc
from_begun format film f p frame header compressed (Ok updated) (Ok spans) c from there read forwarded cut is =
    let same : coded_by p frame header compressed updated spans ≡ c = cc in
    subst (IsFrom format film f) same (record { reached = from; there = there; head = read; updated = updated; forwarded = forwarded; by = refl; cut = cut })

from_headed : (format : Format) (film : Film) (f : ℕ) (p : Putting) (frame : List ℕ) (heads : Result FrameHead Rule) (c : CodedFrame)
    → before format film f ≡ Some p → frame_at film f ≡ Some frame → head_of (persist_of p.state) frame ≡ heads → headed_from p frame heads ≡ Some c → IsFrom format film f c
from_headed format film f p frame (Err rule) c from there read is = absurd cc
from_headed format film f p frame (Ok (head.ShowExisting slot)) c from there read is = absurd cc
from_headed format film f p frame (Ok (head.Coded header compressed)) c from there read is =
    from_begun format film f p frame header compressed _ _ c from there read refl refl is

from_coded : (format : Format) (film : Film) (f : ℕ) (p : Option Putting) (frame : Option (List ℕ)) (c : CodedFrame)
    → before format film f ≡ p → frame_at film f ≡ frame → coded_from p frame ≡ Some c → IsFrom format film f c
from_coded format film f None frame c from there is = absurd cc
from_coded format film f (Some p) None c from there is = absurd cc
from_coded format film f (Some p) (Some frame) c from there is = from_headed format film f p frame (head_of (persist_of p.state) frame) c from there refl is

pub is_from : (format : Format) (film : Film) (f : ℕ) (c : CodedFrame) → coded format film f ≡ Some c → IsFrom format film f c
unfolding coded
is_from format film f c is = from_coded format film f (before format film f) (frame_at film f) c refl refl is

pub coded_there : (format : Format) (film : Film) (f : ℕ) (p : Putting) (frame : List ℕ) (header : Header) (compressed : Span) (updated : ContextLists × Modes) (spans : List Span)
    → before format film f ≡ Some p → frame_at film f ≡ Some frame → head_of (persist_of p.state) frame ≡ Ok (head.Coded header compressed)
    → forward header (input_of p.state frame header compressed).past.contexts (slice_range frame compressed.from compressed.to) ≡ Ok updated → tile_spans frame header compressed ≡ Ok spans
    → coded format film f ≡ Some (coded_by p frame header compressed updated spans)
unfolding coded
coded_there format film f p frame header compressed updated spans from there read forwarded cut =
    ap (λ o. coded_from o (frame_at film f)) from ∙ ap (coded_from (Some p)) there ∙ ap (headed_from p frame) read
    ∙ ap (λ u. begun_from p frame header compressed u (tile_spans frame header compressed)) forwarded ∙ ap (begun_from p frame header compressed (Ok updated)) cut

-- a frame that shows a slot isn't coded
pub not_coded : (format : Format) (film : Film) (f : ℕ) (p : Putting) (frame : List ℕ) (slot : ℕ) → before format film f ≡ Some p → frame_at film f ≡ Some frame
    → head_of (persist_of p.state) frame ≡ Ok (head.ShowExisting slot) → coded format film f ≡ None
unfolding coded
not_coded format film f p frame slot from there read =
    ap (λ o. coded_from o (frame_at film f)) from ∙ ap (coded_from (Some p)) there ∙ ap (headed_from p frame) read

pub same_coded : (format : Format) (film : Film) (f : ℕ) (c d : CodedFrame) → coded format film f ≡ Some c → coded format film f ≡ Some d → c ≡ d
same_coded format film f c d is other = let both : Some c ≡ Some d = sym is ∙ other in cc

---- How it begins ----

pub ok_value : {A E : Type 0} (r : Result A E) → IsOk r → (x : A) × (r ≡ Ok x)
ok_value (Ok x) h = (x, refl)
ok_value (Err e) h = absurd cc

begun_by : (format : Format) (film : Film) (f : ℕ) (p : Putting) (b : BegunFrame) (spans : List Span) → before format film f ≡ Some p → frame_at film f ≡ Some b.bytes.now
    → head_of (persist_of p.state) b.bytes.now ≡ Ok (head.Coded b.setting.header b.compressed) → tile_spans b.bytes.now b.setting.header b.compressed ≡ Ok spans → IsSound b → BeginsIn p.state b
    → IsBegunFrame format film f b
begun_by format film f p b spans from there read cut sound begins =
    let updated : ContextLists × Modes = (lists_of b.setting.contexts, b.setting.modes) in
    let forwarded = ap (λ (x : FrameInput). forward b.setting.header x.past.contexts (slice_range b.bytes.now b.compressed.from b.compressed.to)) (sym begins.input) ∙ sound.begun.1 in
    let as_coded : IsBegunAs (coded_by p b.bytes.now b.setting.header b.compressed updated spans) b =
    record { sound = sound; bytes = refl; header = refl; compressed = refl; sources = ap (λ (x : FrameInput). sources x updated) begins.input; begins = begins } in
    (coded_by p b.bytes.now b.setting.header b.compressed updated spans, coded_there format film f p b.bytes.now b.setting.header b.compressed updated spans from there read forwarded cut, as_coded)

begins_there : (format : Format) (film : Film) (f : ℕ) (p : Putting) (frame : List ℕ) (header : Header) (compressed : Span) (b : BegunFrame) → before format film f ≡ Some p → frame_at film f ≡ Some frame
    → head_of (persist_of p.state) frame ≡ Ok (head.Coded header compressed) → b.bytes.now ≡ frame → b.setting.header ≡ header → b.compressed ≡ compressed → IsSound b → BeginsIn p.state b
    → IsBegunFrame format film f b
begins_there format film f p frame header compressed b from there read same_bytes same_header same_span sound begins =
    let spans = ok_value (tile_spans b.bytes.now b.setting.header b.compressed) sound.begun.2 in
    begun_by format film f p b spans.0 from (there ∙ ap Some (sym same_bytes))
    (ap (head_of (persist_of p.state)) same_bytes ∙ read ∙ (λ i. Ok (head.Coded (sym same_header i) (sym same_span i)))) spans.1 sound begins

pub begins_behind : (format : Format) (film : Film) (f : ℕ) (k : Kept) (frame : List ℕ) (header : Header) (compressed : Span) (b : BegunFrame) (h : IsKeptBefore format film f k) → frame_at film f ≡ Some frame
    → head_of k.persist frame ≡ Ok (head.Coded header compressed) → (b.bytes.now ≡ frame) × (b.setting.header ≡ header) × (b.compressed ≡ compressed) → IsSound b → BeginsIn h.kept.state b
    → IsBegunFrame format film f b
begins_behind format film f k frame header compressed b h there is same sound begins =
    begins_there format film f h.kept frame header compressed b h.reached there (read_by format film f k frame (Ok (head.Coded header compressed)) h (sym is)) same.0 same.1 same.2 sound begins

---- What it is decoded to ----

-- from what its tiles are read to
abbrev pub result_from : CodedFrame → Result FrameRead Rule → Result FrameResult Rule
result_from c (Ok read) = Ok (result_of c read)
result_from c (Err rule) = Err rule

read_to : (c : CodedFrame) (r : Result FrameRead Rule) → map_ok (rebuilt (references c)) (r >>= λ read. Ok (read, c.by)) ≡ result_from c r
read_to c (Ok read) = refl
read_to c (Err rule) = refl

pub decoded_to : (format : Format) (film : Film) (f : ℕ) (c : CodedFrame) (r : Result FrameRead Rule) → IsFrom format film f c → read_of c ≡ r
    → decoded_in c.kept.state c.bytes c.header c.compressed ≡ result_from c r
unfolding decoded read_frame
decoded_to format film f c r h reads =
    let input = input_of c.kept.state c.bytes c.header c.compressed in
    ap (λ (u : Result (ContextLists × Modes) Rule). map_ok (rebuilt (references c)) (u >>= λ updated. read_all_tiles (sources input updated) c.bytes c.compressed >>= λ read. Ok (read, sources input updated))) h.forwarded
    ∙ ap (λ (by : FrameSources). map_ok (rebuilt (references c)) (read_all_tiles by c.bytes c.compressed >>= λ read. Ok (read, by))) (sym h.by)
    ∙ ap (λ (x : Result FrameRead Rule). map_ok (rebuilt (references c)) (x >>= λ read. Ok (read, c.by))) reads ∙ read_to c r

-- its picture
pub picture_there : (format : Format) (film : Film) (f : ℕ) (c : CodedFrame) (read : FrameRead) → coded format film f ≡ Some c → read_of c ≡ Ok read
    → pictures format film f ≡ record { shape = shape_of c.header; map = (result_of c read).map }
unfolding pictures
picture_there format film f c read is reads = ap picture_from is ∙ ap (picture_read c) reads
