-- The frames that are shown so far, by their headers.
use Rattle.std.proofs.Common.{◌≡◌, ◌∙◌, ℕ, ◌+◌, ◌≤◌, List, [], ◌∷◌, ◌++◌, length, refl, ap, sym, subst, Bool, true, false, arith}
use Rattle.std.specs.Prelude.{Result, Ok, Err, Option, Some, None, if◌then◌else◌}
use Rattle.std.proofs.lemmas.List.{length-append}
use Rattle.vp9_types.specs.declared.job.Span.{Span}
use Rattle.vp9_types.specs.declared.outcome.Stop.{Stop}
use Rattle.vp9_types.specs.declared.rule.Rule.{Rule}
use Rattle.file_frames.specs.Code.{Ahead, IsOnWay, all_ahead}
use Rattle.file_frames.proofs.Walks.{sets_out, goes_by, ends_at, arrives, breaks}
use Rattle.job_decoder.specs.frame_decoder.DecodedFrames.{FrameResult}
use Rattle.frame_headers.specs.Header.{head_of}
use Rattle.frame_headers.specs.HeaderState.{next_persist, start_persist}
use Rattle.frame_headers.specs.declared.header.FrameHead.TheVariants as head
use Rattle.frame_headers.specs.declared.header.Header.{Header}
use Rattle.frame_headers.specs.declared.persist.Persist.{Persist}
use Rattle.job_decoder.specs.seq_decoder.After.{Stepped, after_coded, decoded_in, step}
use Rattle.job_decoder.specs.seq_decoder.Runs.{added_picture, decoding, run_of, shown_list}
use Rattle.job_decoder.specs.seq_decoder.DecoderState.{Picture, State, persist_of, start_state}
use Rattle.job_decoder.proofs.of_seq_decoder.Slots.{coded_persists, shown_stays, start_persists, step_is}
use Rattle.stream_trial.specs.Code.{IsCounted}
use Rattle.stream_trial.specs.TrialLines.{shown_count}
use Rattle.stream_trial.proofs.Shows.{slot_shows_one}

---- One frame ----

the_ok : {a b : Stepped} → ◌≡◌ {A = Result Stepped Rule} (Ok a) (Ok b) → a ≡ b
the_ok e = cc

-- how many frames a coded frame shows
abbrev pub one_if : Bool → ℕ
one_if shown = if shown then 1 else 0

shown_if : (shown : Bool) (picture : Picture) → one_if shown ≡ length (shown_list (if shown then Some picture else None))
shown_if true picture = refl
shown_if false picture = refl

coded_shows : (number : ℕ) (state : State) (header : Header) (d : Result FrameResult Rule) (next : Stepped) → after_coded number state header d ≡ Ok next
    → one_if header.show_frame ≡ length (shown_list next.shown)
coded_shows number state header (Ok r) next stepped = shown_if header.show_frame _ ∙ ap (λ (s : Stepped). length (shown_list s.shown)) (the_ok stepped)
coded_shows number state header (Err rule) next stepped = let no : ⊥ = cc in absurd no

pub coded_counted : (frame : List ℕ) (old new : Persist) (header : Header) (compressed : Span) (shown : ℕ)
    → head_of old frame ≡ Ok (head.Coded header compressed) → new ≡ next_persist header old → shown ≡ one_if header.show_frame → IsCounted frame old new shown
coded_counted frame old new header compressed shown is next_is shown_is = λ number state next stands stepped.
    let read = subst (λ p. head_of p frame ≡ Ok (head.Coded header compressed)) stands is in (
      next_is ∙ ap (next_persist header) stands ∙ sym (coded_persists number state frame header compressed next read stepped),
      shown_is ∙ coded_shows number state header (decoded_in state frame header compressed) next (sym (step_is number state frame (Ok (head.Coded header compressed)) read) ∙ stepped),
    )

pub shown_counted : (frame : List ℕ) (old new : Persist) (slot : ℕ) → head_of old frame ≡ Ok (head.ShowExisting slot) → new ≡ old → IsCounted frame old new 1
shown_counted frame old new slot is next_is = λ number state next stands stepped.
    let read = subst (λ p. head_of p frame ≡ Ok (head.ShowExisting slot)) stands is in
    let what = the_ok (sym (step_is number state frame (Ok (head.ShowExisting slot)) read) ∙ stepped) in (
      next_is ∙ stands ∙ ap persist_of (sym (shown_stays number state frame slot next read stepped)),
      sym (slot_shows_one state frame slot read) ∙ ap (λ (s : Stepped). length (shown_list s.shown)) what,
    )

pub broken_counted : (frame : List ℕ) (old new : Persist) (rule : Rule) (shown : ℕ) → head_of old frame ≡ Err rule → IsCounted frame old new shown
broken_counted frame old new rule shown is = λ number state next stands stepped.
    let read = subst (λ p. head_of p frame ≡ Err rule) stands is in
    let wrong = sym (step_is number state frame (Err rule) read) ∙ stepped in
    let no : ⊥ = cc in
    absurd no

---- All frames ----

-- so many frames are shown of those before, behind which headers read this
pub record HasCounted (file : List ℕ) (a : Ahead) (persist : Persist) (count : ℕ) : Type 0 where
  pub state : State
  pub shown : List Picture
  pub way : IsOnWay decoding file shown state a
  pub reads : persist ≡ persist_of state
  pub many : count ≡ length shown

-- the next frame, as the cursor gives it
abbrev pub IsFrame : Ahead → ℕ → List ℕ → Ahead → Type 0
IsFrame a number frame next = (a ≡ record { number = number; frames = frame ∷ next.frames; ending = next.ending }) × (next.number ≡ number + 1)

-- where the file breaks no rule
abbrev pub Counts : List ℕ → Ahead → Persist → ℕ → Type 0
Counts file a persist count = (run_of file).ending ≡ None → HasCounted file a persist count

pub none_counted : (file : List ℕ) (a : Ahead) (persist : Persist) → a ≡ all_ahead file → persist ≡ start_persist → Counts file a persist 0
none_counted file a persist is start = λ whole. record {
  state = start_state;
  shown = [];
  way = sets_out decoding file a is;
  reads = start ∙ sym start_persists;
  many = refl;
}

clash : {A : Type 0} (ending : Option A) (what : A) → ending ≡ None → ending ≡ Some what → ⊥
clash ending what none some = cc

more_counted : (file frame : List ℕ) (number : ℕ) (a rest : Ahead) (old new : Persist) (count shown : ℕ) (r : Result Stepped Rule)
    → IsFrame a number frame rest → IsCounted frame old new shown → (run_of file).ending ≡ None → (h : HasCounted file a old count) → step number h.state frame ≡ r
    → HasCounted file rest new (count + shown)
unfolding run_of
more_counted file frame number a rest old new count shown (Ok next) is counted whole h stepped =
    let one = counted number h.state next h.reads stepped in
    record {
      state = next.state;
      shown = h.shown ++ shown_list next.shown;
      way = goes_by decoding file h.shown h.state a rest number frame (record { state = next.state; adds = shown_list next.shown }) h.way is (ap added_picture stepped);
      reads = one.0;
      many = omega (arith, h.many, one.1, length-append h.shown (shown_list next.shown));
    }
more_counted file frame number a rest old new count shown (Err rule) is counted whole h stepped =
    let ends = ends_at decoding file h.shown h.state a rest number frame rule h.way is (ap added_picture stepped) in
    absurd (clash _ (number, rule) whole (ap (λ w. w.ending) ends))

pub one_counted : (file frame : List ℕ) (number : ℕ) (a rest : Ahead) (old new : Persist) (count shown : ℕ)
    → IsFrame a number frame rest → IsCounted frame old new shown → Counts file a old count → Counts file rest new (count + shown)
one_counted file frame number a rest old new count shown is counted h = λ whole.
    more_counted file frame number a rest old new count shown (step number (h whole).state frame) is counted whole (h whole) refl

-- no more are shown than there are
pub few_more : (frame : List ℕ) (number : ℕ) (a rest : Ahead) (count shown : ℕ) → IsFrame a number frame rest → count ≤ a.number → shown ≤ 1 → count + shown ≤ rest.number
few_more frame number a rest count shown is few one = omega (arith, ap (λ (a : Ahead). a.number) is.0, is.1, few, one)

pub all_counted : (file : List ℕ) (a : Ahead) (persist : Persist) (count : ℕ) → a ≡ record { number = a.number; frames = []; ending = None } → Counts file a persist count
    → (run_of file).ending ≡ None → count ≡ shown_count file
unfolding run_of
all_counted file a persist count is h whole =
    let c = h whole in
    c.many ∙ sym (ap (λ w. length w.adds) (arrives decoding file c.shown c.state a a.number c.way is))

pub none_whole : (file : List ℕ) (a : Ahead) (persist : Persist) (count : ℕ) (stop : Stop) → a ≡ record { number = stop.frame; frames = []; ending = Some stop.rule } → Counts file a persist count
    → (run_of file).ending ≡ None → count ≡ shown_count file
unfolding run_of
none_whole file a persist count stop is h whole =
    let c = h whole in
    absurd (clash _ (stop.frame, stop.rule) whole (ap (λ w. w.ending) (breaks decoding file c.shown c.state a stop.frame stop.rule c.way is)))
