-- What the slots hold is frames of the file.
use Rattle.std.proofs.Common.{◌≡◌, ℕ, zero, suc, List, [], ◌∷◌, ap, sym, subst, refl, ◌∙◌, arith}
use Rattle.std.specs.Prelude.{true, false, ◌%◌, ◌/◌, ◌==◌, Bool, get_or, replicate, Option, Some, None, IfSome, Result, Ok, Err, slice_range, if◌then◌else◌}
use Rattle.std.specs.List.{All}
use Rattle.vp9_types.specs.Results.{map_ok, ◌>>=◌}
use Rattle.vp9_types.specs.declared.block.Modes.{Modes}
use Rattle.vp9_types.specs.declared.job.Span.{Span}
use Rattle.vp9_types.specs.declared.rule.Rule.{Rule}
use Rattle.compressed_header.specs.CompressedHeader.{forward}
use Rattle.frame_headers.specs.Header.{head_of}
use Rattle.frame_headers.specs.Spans.{tile_spans}
use Rattle.frame_headers.specs.HeaderState.{refreshed}
use Rattle.frame_headers.specs.declared.header.FrameHead.{FrameHead}
use Rattle.frame_headers.specs.declared.header.FrameHead.TheVariants as head
use Rattle.frame_headers.specs.declared.header.Header.{Header}
use Rattle.file_frames.specs.Walks.{Added}
use Rattle.frame_output.specs.declared.rendering.Format.{Format}
use Rattle.prob_contexts.specs.ProbLists.{ContextLists}
use Rattle.seq_decoder.specs.frame_decoder.DecodedFrames.{FrameResult, decoded, rebuilt}
use Rattle.seq_decoder.specs.frame_state.FrameReading.{FrameRead, read_all_tiles, read_frame, read_tiles, sources}
use Rattle.seq_decoder.specs.After.{Stepped, after_coded, behind_head, decoded_in, input_of, picture_of, references_of, state_after, step}
use Rattle.vp9_types.specs.declared.rule.Rule.TheVariants.{OutputShape}
use Rattle.seq_decoder.specs.Outputs.{Putting, admits, form_after, put, shown_text}
use Rattle.seq_decoder.specs.DecoderState.{Picture, State, persist_of}
use Rattle.seq_decoder.specs.declared.form.OutputForm.{OutputForm}
use Rattle.numbered_frames.specs.Coded.{CodedFrame, IsFrameBefore, begun_from, coded, coded_from, headed_from, read_of, result_of}
use Rattle.numbered_frames.specs.FrameNumbers.{before, frame_at, start}
use Rattle.numbered_frames.proofs.Ways.{passed}
use Rattle.numbered_frames.specs.Films.{Film}

bind_ok : {A B : Type 0} (r : Result A Rule) (k : A → Result B Rule) (y : B) → (r >>= k) ≡ Ok y → (x : A) × (r ≡ Ok x) × (k x ≡ Ok y)
bind_ok (Ok x) k y is = (x, refl, is)
bind_ok (Err rule) k y is = absurd cc

map_ok_is : {A B : Type 0} (f : A → B) (r : Result A Rule) (y : B) → map_ok f r ≡ Ok y → (x : A) × (r ≡ Ok x) × (f x ≡ y)
map_ok_is f (Ok x) y is = (x, refl, cc)
map_ok_is f (Err rule) y is = absurd cc

---- A coded frame ----

-- a frame that is decoded to this is coded, and its tiles are read
pub record IsCodedTo (p : Putting) (frame : List ℕ) (header : Header) (compressed : Span) (r : FrameResult) : Type 0 where
  pub coded : CodedFrame
  pub is : headed_from p frame (Ok (head.Coded header compressed)) ≡ Some coded
  pub head : coded.header ≡ header
  pub read : FrameRead
  pub reads : read_of coded ≡ Ok read
  pub result : result_of coded read ≡ r

coded_to : (p : Putting) (frame : List ℕ) (header : Header) (compressed : Span) (updated : ContextLists × Modes) (spans : List Span) (read : FrameRead) (r : FrameResult)
    → forward header (input_of p.state frame header compressed).past.contexts (slice_range frame compressed.from compressed.to) ≡ Ok updated → tile_spans frame header compressed ≡ Ok spans
    → read_all_tiles (sources (input_of p.state frame header compressed) updated) frame compressed ≡ Ok read
    → rebuilt (references_of p.state.slots header.kind) (read, sources (input_of p.state frame header compressed) updated) ≡ r
    → IsCodedTo p frame header compressed r
coded_to p frame header compressed updated spans read r forwarded cut reads is =
    record {
      coded = record {
        kept = p;
        bytes = frame;
        header = header;
        compressed = compressed;
        by = sources (input_of p.state frame header compressed) updated;
        spans = spans;
      };
      is = ap (λ u. begun_from p frame header compressed u (tile_spans frame header compressed)) forwarded ∙ ap (begun_from p frame header compressed (Ok updated)) cut;
      head = refl;
      read = read;
      reads = reads;
      result = is;
    }

is_coded : (p : Putting) (frame : List ℕ) (header : Header) (compressed : Span) (r : FrameResult) → decoded_in p.state frame header compressed ≡ Ok r → IsCodedTo p frame header compressed r
unfolding decoded read_frame
is_coded p frame header compressed r is =
    let input = input_of p.state frame header compressed in
    let all = map_ok_is (rebuilt (references_of p.state.slots header.kind)) (read_frame input) r is in
    let first = bind_ok (forward header input.past.contexts (slice_range frame compressed.from compressed.to)) _ all.0 all.1 in
    let second = bind_ok (read_all_tiles (sources input first.0) frame compressed) (λ read. Ok (read, sources input first.0)) all.0 first.2 in
    let cut = bind_ok (tile_spans frame header compressed) (λ spans. read_tiles (sources input first.0) frame 0 spans _) second.0 second.1 in
    let pair : (second.0, sources input first.0) ≡ all.0 = cc in
    coded_to p frame header compressed first.0 cut.0 second.0 r first.1 cut.1 second.1 (ap (rebuilt (references_of p.state.slots header.kind)) pair ∙ all.2)

-- the frame of this number is it
pub coded_is : (format : Format) (film : Film) (f : ℕ) (p : Putting) (frame : List ℕ) (header : Header) (compressed : Span) (r : FrameResult) → before format film f ≡ Some p → frame_at film f ≡ Some frame
    → head_of (persist_of p.state) frame ≡ Ok (head.Coded header compressed) → (h : IsCodedTo p frame header compressed r) → coded format film f ≡ Some h.coded
unfolding coded
coded_is format film f p frame header compressed r from there heads h =
    ap (λ o. coded_from o (frame_at film f)) from ∙ ap (coded_from (Some p)) there ∙ ap (headed_from p frame) heads ∙ h.is

---- What a frame leaves in the slots ----

abbrev Hold : Format → Film → ℕ → List (Option Picture) → Type 0
Hold format film f slots = All (λ slot. IfSome slot (IsFrameBefore format film f)) slots

later : (format : Format) (film : Film) (f : ℕ) (slot : Option Picture) → IfSome slot (IsFrameBefore format film f) → IfSome slot (IsFrameBefore format film (suc f))
later format film f None h = tt
later format film f (Some picture) h =
    record { earlier = omega (arith, h.earlier); frame = h.frame; is = h.is; read = h.read; reads = h.reads; same = h.same }

all_later : (format : Format) (film : Film) (f : ℕ) (slots : List (Option Picture)) → Hold format film f slots → Hold format film (suc f) slots
all_later format film f slots h = λ k d low. later format film f (get_or slots k d) (h k d low)

none_hold : (P : Option Picture → Type 0) → All P []
none_hold P = λ k d low. absurd (omega (arith, low))

one_more_holds : (P : Option Picture → Type 0) (slot : Option Picture) (slots : List (Option Picture)) → P slot → All P slots → All P (slot ∷ slots)
one_more_holds P slot slots p ps zero d low = p
one_more_holds P slot slots p ps (suc k) d low = ps k d (omega (arith, low))

one_held : (format : Format) (film : Film) (f : ℕ) (taken : Bool) (picture : Picture) (slot : Option Picture) → IsFrameBefore format film (suc f) picture → IfSome slot (IsFrameBefore format film f)
    → IfSome (if taken then Some picture else slot) (IsFrameBefore format film (suc f))
one_held format film f true picture slot new old = new
one_held format film f false picture slot new old = later format film f slot old

all_held : (format : Format) (film : Film) (f flags : ℕ) (picture : Picture) (slots : List (Option Picture)) → IsFrameBefore format film (suc f) picture → Hold format film f slots
    → Hold format film (suc f) (refreshed flags picture slots)
all_held format film f flags picture [] new h = none_hold (λ slot. IfSome slot (IsFrameBefore format film (suc f)))
all_held format film f flags picture (slot ∷ slots) new h =
    one_more_holds (λ s. IfSome s (IsFrameBefore format film (suc f))) (if flags % 2 == 1 then Some picture else slot) (refreshed (flags / 2) picture slots)
    (one_held format film f (flags % 2 == 1) picture slot new (h 0 slot (omega arith)))
    (all_held format film f (flags / 2) picture slots new (λ k d low. h (suc k) d (omega (arith, low))))

---- One frame ----

abbrev kept_by : OutputForm → Stepped → Added Putting ℕ
kept_by form stepped = record { state = record { state = stepped.state; form = form_after form stepped.shown }; adds = shown_text form stepped.shown }

put_by : (form : OutputForm) (stepped : Stepped) (fits : Bool) → admits form stepped.shown ≡ fits → put form (Ok stepped) ≡ (if fits then Ok (kept_by form stepped) else Err OutputShape)
put_by form stepped fits is = ap (λ b. if b then Ok (kept_by form stepped) else Err OutputShape) is

put_state : (form : OutputForm) (stepped : Stepped) (fits : Bool) (added : Added Putting ℕ) → (if fits then Ok (kept_by form stepped) else Err OutputShape) ≡ Ok added → added.state.state ≡ stepped.state
put_state form stepped true added is = let same : kept_by form stepped ≡ added = cc in ap (λ (a : Added Putting ℕ). a.state.state) (sym same)
put_state form stepped false added is = absurd cc

pub stepped_by : (form : OutputForm) (r : Result Stepped Rule) (added : Added Putting ℕ) → put form r ≡ Ok added → (stepped : Stepped) × (r ≡ Ok stepped) × (added.state.state ≡ stepped.state)
stepped_by form (Ok stepped) added is = (stepped, refl, put_state form stepped (admits form stepped.shown) added (sym (put_by form stepped (admits form stepped.shown) refl) ∙ is))
stepped_by form (Err rule) added is = absurd cc

pub after_decoded : (number : ℕ) (state : State) (header : Header) (d : Result FrameResult Rule) (stepped : Stepped) → after_coded number state header d ≡ Ok stepped
    → (r : FrameResult) × (d ≡ Ok r) × (stepped.state ≡ state_after number state header r)
after_decoded number state header (Ok r) stepped is = (r, refl, cc)
after_decoded number state header (Err rule) stepped is = absurd cc

behind_it : (format : Format) (film : Film) (f : ℕ) (p : Putting) (frame : List ℕ) (heads : Result FrameHead Rule) (stepped : Stepped) → before format film f ≡ Some p → frame_at film f ≡ Some frame
    → head_of (persist_of p.state) frame ≡ heads → behind_head f p.state frame heads ≡ Ok stepped → Hold format film f p.state.slots → Hold format film (suc f) stepped.state.slots
behind_it format film f p frame (Err rule) stepped from there is steps h = absurd cc
behind_it format film f p frame (Ok (head.ShowExisting slot)) stepped from there is steps h =
    let same : p.state ≡ stepped.state = cc in
    subst (λ (s : State). Hold format film (suc f) s.slots) same (all_later format film f p.state.slots h)
behind_it format film f p frame (Ok (head.Coded header compressed)) stepped from there is steps h =
    let d = after_decoded f p.state header (decoded_in p.state frame header compressed) stepped steps in
    let c = is_coded p frame header compressed d.0 d.1 in
    let new : IsFrameBefore format film (suc f) (picture_of f header d.0) = record {
      earlier = omega arith;
      frame = c.coded;
      is = coded_is format film f p frame header compressed d.0 from there is c;
      read = c.read;
      reads = c.reads;
      same = (λ i. picture_of f (sym c.head i) (sym c.result i));
    } in
    subst (λ (s : State). Hold format film (suc f) s.slots) (sym d.2) (all_held format film f header.refresh (picture_of f header d.0) p.state.slots new h)

nothing_holds : (format : Format) (film : Film) (n : ℕ) → Hold format film 0 (replicate n None)
nothing_holds format film zero = none_hold (λ slot. IfSome slot (IsFrameBefore format film 0))
nothing_holds format film (suc n) = one_more_holds (λ slot. IfSome slot (IsFrameBefore format film 0)) None (replicate n None) tt (nothing_holds format film n)

pub slots_hold : (format : Format) (film : Film) (f : ℕ) (p : Putting) → before format film f ≡ Some p → Hold format film f p.state.slots
unfolding before step
slots_hold format film zero p is =
    let same : start format film ≡ p = cc in
    subst (λ (q : Putting). Hold format film 0 q.state.slots) same (nothing_holds format film 8)
slots_hold format film (suc f) p is =
    let h = passed format film f p is in
    let s = stepped_by h.kept.form (step f h.kept.state h.bytes) h.added h.put in
    let steps : behind_head f h.kept.state h.bytes (head_of (persist_of h.kept.state) h.bytes) ≡ Ok s.0 = s.1 in
    let held = behind_it format film f h.kept h.bytes (head_of (persist_of h.kept.state) h.bytes) s.0 h.before h.there refl steps (slots_hold format film f h.kept h.before) in
    subst (λ (q : Putting). Hold format film (suc f) q.state.slots) h.is (subst (λ (st : State). Hold format film (suc f) st.slots) (sym s.2) held)
