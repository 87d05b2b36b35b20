-- The film of a file, and what is written of it, by the past of its frames.
use Rattle.std.proofs.Common.{◌≡◌, ◌≤◌, ℕ, zero, suc, List, [], ◌∷◌, ◌++◌, length, take, refl, sym, ap, subst, ◌∙◌, arith, inl, inr}
use Rattle.std.specs.Prelude.{Option, Some, None, false}
use Rattle.std.proofs.lemmas.List.{append-nil}
use Rattle.edge_io.specs.Putting.{Takes}
use Rattle.vp9_types.specs.declared.rule.Rule.{Rule}
use Rattle.frame_output.specs.declared.rendering.Format.{Format}
use Rattle.file_frames.specs.Containers.{is_webm, rate_of_file}
use Rattle.file_frames.specs.FileFrames.{FileFrames, frames_in, frames_of_file}
use Rattle.file_frames.specs.Walks.{Walk, Walked, walk_from}
use Rattle.packet_reader.specs.declared.reader.Stage.TheVariants.{Header}
use Rattle.frame_groups.proofs.Files.{ivf_frames}
use Rattle.frame_groups.proofs.HeaderFronts.{along_rate, front_isnt_webm}
use Rattle.frame_groups.specs.Groups.{LeadAlong, frames_ahead}
use Rattle.job_order.specs.Sound.{texts_below}
use Rattle.job_decoder.specs.seq_decoder.Outcomes.{WritesFront}
use Rattle.job_decoder.specs.seq_decoder.Outputs.{Putting, form_from, output_of, putting}
use Rattle.job_decoder.proofs.of_numbered_frames.LaterFrames.{before_same, text_same}
use Rattle.job_decoder.proofs.of_numbered_frames.Ways.{ends, files_are_films, front}
use Rattle.job_decoder.specs.numbered_frames.Films.{Film, GoesOn, film_of}
use Rattle.job_decoder.specs.numbered_frames.FrameNumbers.{EndsAt, file_ending, film_output, start, text}
use Rattle.job_decoder.specs.Pasts.{IsPast, film_with, frames_behind}
use Rattle.job_decoder.specs.Reaches.{past_texts}
use Rattle.job_decoder.specs.declared.past.Past.{Past}
use Rattle.stream_decoder.specs.Streams.{BreaksNoFrame, WritesAll}

---- Films ----

abbrev film_by : ℕ × ℕ → List (List ℕ) → Option Rule → Film
film_by rate frames ending = record { rate = rate; frames = frames; ending = ending }

pub itself : (film : Film) → GoesOn film film
itself film = record { rate = refl; behind = []; frames = sym (append-nil film.frames) }

same_frames : (rate : ℕ × ℕ) (frames : List (List ℕ)) (ending : Option Rule) → GoesOn (film_with rate frames) (film_by rate frames ending)
same_frames rate frames ending = record { rate = refl; behind = []; frames = sym (append-nil frames) }

pub film_goes_on : (bytes : List ℕ) (rate : ℕ × ℕ) (frames more : List (List ℕ)) → is_webm bytes ≡ false → rate ≡ rate_of_file bytes → frames_in (frames_ahead Header bytes) ≡ frames ++ more
    → GoesOn (film_with rate frames) (film_of bytes)
film_goes_on bytes rate frames more isnt rates is = record { rate = sym rates; behind = more; frames = ap frames_in (ivf_frames bytes isnt) ∙ is }

film_is : (bytes : List ℕ) (rate : ℕ × ℕ) (frames : List (List ℕ)) (ending : Option Rule) → is_webm bytes ≡ false → rate ≡ rate_of_file bytes → frames_in (frames_ahead Header bytes) ≡ frames
    → (frames_ahead Header bytes).ending ≡ ending → film_of bytes ≡ film_by rate frames ending
film_is bytes rate frames ending isnt rates is so =
    let file = ivf_frames bytes isnt in
    let r : rate_of_file bytes ≡ rate = sym rates in
    let f : frames_in (frames_of_file bytes) ≡ frames = ap frames_in file ∙ is in
    let e : (frames_of_file bytes).ending ≡ ending = ap (λ (x : FileFrames). x.ending) file ∙ so in
    (λ i. record { rate = r i; frames = f i; ending = e i })

---- Texts ----

pub texts_same : (format : Format) (film more : Film) (n : ℕ) → GoesOn film more → n ≤ length film.frames → texts_below (text format more) n ≡ texts_below (text format film) n
texts_same format film more zero goes low = refl
texts_same format film more (suc n) goes low =
    (λ i. texts_same format film more n goes (omega (arith, low)) i ++ text_same format film more n goes (omega (arith, low)) i)

pub none_texts : (format : Format) (rate : ℕ × ℕ) (p : Past) → IsPast format rate p → frames_behind p ≡ [] → past_texts format rate p ≡ []
none_texts format rate p past none = ap (texts_below (text format (film_with rate (frames_behind p)))) (past.count ∙ ap length none)

by_ending : (w : Walk Putting ℕ Rule) (s : Putting) (ending : Option Rule) → (walk_from w 0 s [] ending).adds ≡ []
by_ending w s None = refl
by_ending w s (Some rule) = refl

by_end : (format : Format) (film : Film) (s : Putting) (ending : Option Rule) → (walk_from (putting (form_from format film.rate)) 0 s [] ending).ending ≡ file_ending 0 ending
by_end format film s None = refl
by_end format film s (Some rule) = refl

none_ends : (format : Format) (film : Film) → film.frames ≡ [] → (film_output format film).ending ≡ file_ending 0 film.ending
none_ends format film none =
    ap (λ (frames : List (List ℕ)). (walk_from (putting (form_from format film.rate)) 0 (start format film) frames film.ending).ending) none
    ∙ by_end format film (start format film) film.ending

-- where a film ends that is broken behind its frames
pub ended_at : (n : ℕ) (ending : Option Rule) (f : ℕ) (rule : Rule) → file_ending n ending ≡ Some (f, rule) → f ≡ n
ended_at n None f rule is = absurd cc
ended_at n (Some broken) f rule is =
    let same : (n, broken) ≡ (f, rule) = cc in sym (ap (λ (p : ℕ × Rule). p.0) same)

none_added : (format : Format) (film : Film) → film.frames ≡ [] → (film_output format film).adds ≡ []
none_added format film none =
    ap (λ (frames : List (List ℕ)). (walk_from (putting (form_from format film.rate)) 0 (start format film) frames film.ending).adds) none
    ∙ by_ending (putting (form_from format film.rate)) (start format film) film.ending

---- What is written ----

-- whatever is behind its frames
ends_so : (format : Format) (rate : ℕ × ℕ) (frames : List (List ℕ)) (f : ℕ) (ending : Option Rule) → f ≡ length frames → EndsAt format (film_with rate frames) f None
    → EndsAt format (film_by rate frames ending) f (file_ending f ending)
ends_so format rate frames f ending count h = record {
  kept = h.kept;
  reached = before_same format (film_with rate frames) (film_by rate frames ending) f (same_frames rate frames ending) (omega (arith, count)) ∙ h.reached;
  ends = elim h.ends [
    | inl at ↦ inl (at.0, refl)
    | inr at ↦ let differ : ◌≡◌ {A = Option (ℕ × Rule)} None (Some (f, at.1)) = at.4 in absurd cc
  ];
}

pub past_output : (format : Format) (rate : ℕ × ℕ) (p : Past) (bytes : List ℕ) (ending : Option Rule) → IsPast format rate p → is_webm bytes ≡ false → rate ≡ rate_of_file bytes
    → frames_in (frames_ahead Header bytes) ≡ frames_behind p → (frames_ahead Header bytes).ending ≡ ending
    → output_of format bytes ≡ record { adds = past_texts format rate p; ending = file_ending p.count ending }
past_output format rate p bytes ending past isnt rates is so =
    let frames = frames_behind p in
    files_are_films format bytes ∙ ap (film_output format) (film_is bytes rate frames ending isnt rates is so)
    ∙ ends format (film_by rate frames ending) p.count (file_ending p.count ending) (ends_so format rate frames p.count ending past.count past.decoded)
    ∙ ap (λ (t : List ℕ). record { adds = t; ending = file_ending p.count ending })
    (texts_same format (film_with rate frames) (film_by rate frames ending) p.count (same_frames rate frames ending) (omega (arith, past.count)))

-- all of a file that has the frames of a past
pub writes_past : (format : Format) (rate : ℕ × ℕ) (p : Past) (bytes : List ℕ) (ending : Option Rule) (old new : Option (List ℕ)) → IsPast format rate p → is_webm bytes ≡ false → rate ≡ rate_of_file bytes
    → frames_in (frames_ahead Header bytes) ≡ frames_behind p → (frames_ahead Header bytes).ending ≡ ending → Takes old new (past_texts format rate p)
    → WritesAll format bytes old new (file_ending p.count ending)
writes_past format rate p bytes ending old new past isnt rates is so takes =
    let whole = past_output format rate p bytes ending past isnt rates is so in (
      ap (λ (w : Walked ℕ Rule). w.ending) whole,
      subst (λ (t : List ℕ). Takes old new t) (sym (ap (λ (w : Walked ℕ Rule). w.adds) whole)) takes,
    )

-- a front of one that has more
pub writes_front : (format : Format) (rate : ℕ × ℕ) (p : Past) (bytes : List ℕ) (old new : Option (List ℕ)) → IsPast format rate p → GoesOn (film_with rate (frames_behind p)) (film_of bytes)
    → Takes old new (past_texts format rate p) → WritesFront (output_of format bytes) old new
writes_front format rate p bytes old new past goes takes =
    let at = front format (film_of bytes) p.count in
    let same = texts_same format (film_with rate (frames_behind p)) (film_of bytes) p.count goes (omega (arith, past.count)) in
    let part : past_texts format rate p ≡ take at.0 (output_of format bytes).adds =
    sym same ∙ at.1 ∙ ap (λ (w : Walked ℕ Rule). take at.0 w.adds) (sym (files_are_films format bytes)) in
    (at.0, subst (λ (t : List ℕ). Takes old new t) part takes)

pub writes_none : (format : Format) (rate : ℕ × ℕ) (p : Past) (bytes : List ℕ) (old new : Option (List ℕ)) → IsPast format rate p → frames_behind p ≡ []
    → Takes old new (past_texts format rate p) → WritesFront (output_of format bytes) old new
writes_none format rate p bytes old new past none takes = (0, subst (λ (t : List ℕ). Takes old new t) (none_texts format rate p past none) takes)

-- what a front of a file shows that holds the frames of a past
pub writes_shown : (format : Format) (rate : ℕ × ℕ) (p : Past) (begun rest : List ℕ) (old new : Option (List ℕ)) → IsPast format rate p → is_webm (begun ++ rest) ≡ false
    → ((frames_behind p ≡ [] → ⊥) → rate ≡ rate_of_file (begun ++ rest)) → LeadAlong Header begun (frames_behind p) → Takes old new (past_texts format rate p)
    → Takes old new (output_of format begun).adds
writes_shown format rate p begun rest old new past isnt rates along takes = by_frames (frames_behind p) refl where
  by_frames : (frames : List (List ℕ)) → frames_behind p ≡ frames → Takes old new (output_of format begun).adds
  by_frames [] none =
      let held : frames_in (frames_of_file begun) ≡ [] = ap frames_in (ivf_frames begun (front_isnt_webm begun rest isnt)) ∙ along.frames_are ∙ none in
      let nothing : (output_of format begun).adds ≡ [] = ap (λ (w : Walked ℕ Rule). w.adds) (files_are_films format begun) ∙ none_added format (film_of begun) held in
      subst (λ (t : List ℕ). Takes old new t) (none_texts format rate p past none ∙ sym nothing) takes
  by_frames (x ∷ xs) those =
      let some : frames_behind p ≡ [] → ⊥ = λ none. let no : x ∷ xs ≡ [] = sym those ∙ none in absurd cc in
      let same = rates some ∙ along_rate begun rest (frames_behind p) along some in
      (writes_past format rate p begun (frames_ahead Header begun).ending old new past (front_isnt_webm begun rest isnt) same along.frames_are refl takes).1

-- no frame of it breaks a rule
pub breaks_no_frame : (format : Format) (rate : ℕ × ℕ) (p : Past) (begun rest : List ℕ) → IsPast format rate p → is_webm (begun ++ rest) ≡ false
    → ((frames_behind p ≡ [] → ⊥) → rate ≡ rate_of_file (begun ++ rest)) → LeadAlong Header begun (frames_behind p) → BreaksNoFrame format begun
breaks_no_frame format rate p begun rest past isnt rates along = by_frames (frames_behind p) refl where
  held : frames_in (frames_of_file begun) ≡ frames_behind p
  held = ap frames_in (ivf_frames begun (front_isnt_webm begun rest isnt)) ∙ along.frames_are

  by_frames : (frames : List (List ℕ)) → frames_behind p ≡ frames → BreaksNoFrame format begun
  by_frames [] none = λ f rule is.
      let ends = sym (none_ends format (film_of begun) (held ∙ none)) ∙ sym (ap (λ (w : Walked ℕ Rule). w.ending) (files_are_films format begun)) ∙ is in
      ended_at 0 (film_of begun).ending f rule ends ∙ sym (ap length (held ∙ none))
  by_frames (x ∷ xs) those = λ f rule is.
      let some : frames_behind p ≡ [] → ⊥ = λ none. let no : x ∷ xs ≡ [] = sym those ∙ none in absurd cc in
      let same = rates some ∙ along_rate begun rest (frames_behind p) along some in
      let whole = past_output format rate p begun (frames_ahead Header begun).ending past (front_isnt_webm begun rest isnt) same along.frames_are refl in
      let ends = sym (ap (λ (w : Walked ℕ Rule). w.ending) whole) ∙ is in
      ended_at p.count (frames_ahead Header begun).ending f rule ends ∙ past.count ∙ sym (ap length held)
