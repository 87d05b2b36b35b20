-- What a coded frame leaves.
use Rattle.std.proofs.Common.{◌≡◌, ◌∙◌, ℕ, suc, List, Bool, true, false, refl, sym, ap}
use Rattle.std.specs.Prelude.{Option, Some, Result, Ok, Err, if◌then◌else◌}
use Rattle.vp9_types.specs.Results.{map_ok, ◌>>=◌}
use Rattle.vp9_types.specs.declared.block.Modes.{Modes}
use Rattle.vp9_types.specs.declared.rule.Rule.{Rule}
use Rattle.vp9_types.specs.declared.rule.Rule.TheVariants.{OutputShape}
use Rattle.file_frames.specs.Walks.{Added}
use Rattle.frame_headers.specs.Header.{head_of}
use Rattle.frame_headers.specs.declared.header.FrameHead.TheVariants as head
use Rattle.frame_output.specs.declared.rendering.Format.{Format}
use Rattle.prob_contexts.specs.ProbLists.{ContextLists}
use Rattle.job_results.specs.frame_decoder.DecodedFrames.{FrameResult, decoded, rebuilt}
use Rattle.job_results.specs.frame_state.FrameReading.{FrameRead, read_all_tiles, read_frame, sources}
use Rattle.job_results.specs.frame_state.Sources.{FrameSources}
use Rattle.job_results.specs.seq_decoder.After.{Stepped, after_coded, behind_head, decoded_in, input_of, last_of, shown_picture, state_after, step}
use Rattle.job_results.specs.seq_decoder.Outputs.{Putting, admits, form_after, put, shown_text}
use Rattle.job_results.specs.seq_decoder.DecoderState.{State, persist_of}
use Rattle.job_results.specs.seq_decoder.declared.form.OutputForm.{OutputForm}
use Rattle.job_results.specs.numbered_frames.Coded.{CodedFrame, coded, read_of, references, result_of}
use Rattle.job_results.specs.numbered_frames.FrameNumbers.{before}
use Rattle.job_results.proofs.of_numbered_frames.Ways.{passed}
use Rattle.job_results.specs.numbered_frames.Films.{Film}
use Rattle.job_results.proofs.CodedFrames.{CodedBy, coded_by, inner}

decoded_to : (c : CodedFrame) (read : FrameRead) (from : Option Putting) (frame : Option (List ℕ)) → CodedBy from frame c → read_of c ≡ Ok read
    → decoded_in c.kept.state c.bytes c.header c.compressed ≡ Ok (result_of c read)
unfolding decoded read_frame
decoded_to c read from frame by reads =
    let input = input_of c.kept.state c.bytes c.header c.compressed in
    let all = rebuilt (references c) in
    let so : read_all_tiles (sources input by.updated) c.bytes c.compressed ≡ Ok read = ap (λ (s : FrameSources). read_all_tiles s c.bytes c.compressed) (sym by.by) ∙ reads in
    ap (λ (u : Result (ContextLists × Modes) Rule). map_ok all (u >>= (λ updated. read_all_tiles (sources input updated) c.bytes c.compressed >>= (λ tiles. Ok (tiles, sources input updated))))) by.forwarded
    ∙ ap (λ (r : Result FrameRead Rule). map_ok all (r >>= (λ tiles. Ok (tiles, sources input by.updated)))) so
    ∙ ap (λ (s : FrameSources). Ok (all (read, s))) (sym by.by)

abbrev kept_by : OutputForm → Stepped → Added Putting ℕ
kept_by form stepped = record { state = record { state = stepped.state; form = form_after form stepped.shown }; adds = shown_text form stepped.shown }

put_state : (form : OutputForm) (stepped : Stepped) (fits : Bool) (added : Added Putting ℕ) → (if fits then Ok (kept_by form stepped) else Err OutputShape) ≡ Ok added → added.state.state ≡ stepped.state
put_state form stepped true added is = let same : kept_by form stepped ≡ added = cc in ap (λ (a : Added Putting ℕ). a.state.state) (sym same)
put_state form stepped false added is = absurd cc

put_by : (form : OutputForm) (stepped : Stepped) (fits : Bool) → admits form stepped.shown ≡ fits → put form (Ok stepped) ≡ (if fits then Ok (kept_by form stepped) else Err OutputShape)
put_by form stepped fits is = ap (λ b. if b then Ok (kept_by form stepped) else Err OutputShape) is

state_put : (form : OutputForm) (stepped : Stepped) (added : Added Putting ℕ) → put form (Ok stepped) ≡ Ok added → added.state.state ≡ stepped.state
state_put form stepped added is = put_state form stepped (admits form stepped.shown) added (sym (put_by form stepped (admits form stepped.shown) refl) ∙ is)

stepped_to : (f : ℕ) (c : CodedFrame) (r : FrameResult) → head_of (persist_of c.kept.state) c.bytes ≡ Ok (head.Coded c.header c.compressed) → decoded_in c.kept.state c.bytes c.header c.compressed ≡ Ok r
    → (stepped : Stepped) × (step f c.kept.state c.bytes ≡ Ok stepped) × (stepped.state ≡ state_after f c.kept.state c.header r)
unfolding step
stepped_to f c r heads is =
    let stepped : Stepped = record { state = state_after f c.kept.state c.header r; shown = shown_picture f c.header r } in
    (stepped, ap (behind_head f c.kept.state c.bytes) heads ∙ ap (after_coded f c.kept.state c.header) is, refl)

-- what is kept of the last frame behind it
pub last_is : (format : Format) (film : Film) (f : ℕ) (c : CodedFrame) (read : FrameRead) (next : Putting) → coded format film f ≡ Some c → read_of c ≡ Ok read → before format film (suc f) ≡ Some next
    → next.state.last ≡ Some (last_of c.header (result_of c read))
last_is format film f c read next is reads behind =
    let by = coded_by format film f c is in
    let h = passed format film f next behind in
    let kept : h.kept ≡ c.kept = inner h.kept c.kept (sym h.before ∙ by.before) in
    let frame : h.bytes ≡ c.bytes = inner h.bytes c.bytes (sym h.there ∙ by.there) in
    let s = stepped_to f c (result_of c read) by.head (decoded_to c read _ _ by reads) in
    let puts : put c.kept.form (step f c.kept.state c.bytes) ≡ Ok h.added = sym (λ i. put (kept i).form (step f (kept i).state (frame i))) ∙ h.put in
    let state : h.added.state.state ≡ s.0.state = state_put c.kept.form s.0 h.added (sym (ap (put c.kept.form) s.1) ∙ puts) in
    sym (ap (λ (q : Putting). q.state.last) h.is) ∙ ap (λ (st : State). st.last) (state ∙ s.2)
