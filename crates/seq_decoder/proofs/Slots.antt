-- What headers read of a state.
use Rattle.std.proofs.Common.{◌≡◌, ℕ, List, ap, sym, refl, ◌∙◌}
use Rattle.std.specs.Prelude.{Some, Result, Ok, Err}
use Rattle.vp9_types.specs.declared.job.Span.{Span}
use Rattle.vp9_types.specs.declared.rule.Rule.{Rule}
use Rattle.frame_headers.proofs.SlotLemmas.{refreshed_told}
use Rattle.frame_headers.specs.Header.{head_of}
use Rattle.frame_headers.specs.HeaderState.{next_persist, shape_of, start_persist}
use Rattle.frame_headers.specs.declared.header.FrameHead.{FrameHead}
use Rattle.frame_headers.specs.declared.header.FrameHead.TheVariants as head
use Rattle.frame_headers.specs.declared.header.Header.{Header}
use Rattle.frame_decoder.specs.DecodedFrames.{FrameResult}
use Rattle.seq_decoder.specs.After.{Stepped, after_coded, behind_head, decoded_in, state_after, picture_of, step}
use Rattle.seq_decoder.specs.DecoderState.{State, start_state, persist_of, shape_in_slot}

-- what headers read after a frame
pub persist_after : (number : ℕ) (state : State) (header : Header) (r : FrameResult) → persist_of (state_after number state header r) ≡ next_persist header (persist_of state)
persist_after number state header r =
    ap (λ slots. record { slots = slots; color = header.color; deltas = header.params.loop_filter.deltas; features = header.params.segmentation.features; size = Some header.size })
    (refreshed_told shape_in_slot state.slots header.refresh (picture_of number header r) (shape_of header) refl)

the_ok : {a b : Stepped} → ◌≡◌ {A = Result Stepped Rule} (Ok a) (Ok b) → a ≡ b
the_ok e = cc

persists_by : (number : ℕ) (state : State) (header : Header) (d : Result FrameResult Rule) (next : Stepped) → after_coded number state header d ≡ Ok next → persist_of next.state ≡ next_persist header (persist_of state)
persists_by number state header (Ok r) next stepped = ap (λ s. persist_of s.state) (sym (the_ok stepped)) ∙ persist_after number state header r
persists_by number state header (Err rule) next stepped = absurd cc

pub start_persists : persist_of start_state ≡ start_persist
start_persists = refl

-- a step, by what the frame's header says
pub step_is : (number : ℕ) (state : State) (frame : List ℕ) (h : Result FrameHead Rule) → head_of (persist_of state) frame ≡ h → step number state frame ≡ behind_head number state frame h
unfolding step
step_is number state frame h is = ap (behind_head number state frame) is

pub coded_persists : (number : ℕ) (state : State) (frame : List ℕ) (header : Header) (compressed : Span) (next : Stepped)
    → head_of (persist_of state) frame ≡ Ok (head.Coded header compressed) → step number state frame ≡ Ok next → persist_of next.state ≡ next_persist header (persist_of state)
coded_persists number state frame header compressed next is stepped =
    persists_by number state header (decoded_in state frame header compressed) next (sym (step_is number state frame (Ok (head.Coded header compressed)) is) ∙ stepped)

pub shown_stays : (number : ℕ) (state : State) (frame : List ℕ) (slot : ℕ) (next : Stepped)
    → head_of (persist_of state) frame ≡ Ok (head.ShowExisting slot) → step number state frame ≡ Ok next → next.state ≡ state
shown_stays number state frame slot next is stepped = ap (λ s. s.state) (sym (the_ok (sym (step_is number state frame (Ok (head.ShowExisting slot)) is) ∙ stepped)))
