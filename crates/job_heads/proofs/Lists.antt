-- The frames of a file, as a cursor gives them one after another.
use Rattle.std.proofs.Common.{◌≡◌, ◌<◌, ◌≤◌, ℕ, zero, suc, ◌+◌, ◌-◌, List, [], ◌∷◌, ◌++◌, map, drop, ap, sym, refl, ◌∙◌, append_assoc, arith}
use Rattle.std.specs.Prelude.{Option, Some, None, get_or, length, slice_get}
use Rattle.std.specs.Option.{option_map}
use Rattle.std.proofs.lemmas.List.{append-nil, map_push}
use Rattle.std.proofs.lemmas.Option.{slice_get-map, slice_get_past, slice_get_read}
use Rattle.vp9_types.specs.declared.outcome.Outcome.TheVariants as outcome
use Rattle.vp9_types.specs.declared.rule.Rule.{Rule}
use Rattle.file_frames.specs.Code.{Ahead, all_ahead}
use Rattle.file_frames.specs.FileFrames.{frames_in, frames_of_file}
use Rattle.job_results.specs.numbered_frames.Films.{Film}
use Rattle.job_results.specs.numbered_frames.FrameNumbers.{file_ending, frame_at}
use Rattle.job_results.specs.seq_decoder.Outcomes.{outcome_at}
use Rattle.job_results.specs.JobResults.{outcome_of}
use Rattle.job_heads.specs.FrameLists.{AreFrames}

-- the frames so far, and then those ahead, are all of them
pub record AreFound (bytes : List ℕ) (found : List (List ℕ)) (a : Ahead) : Type 0 where
  pub all : found ++ a.frames ≡ frames_in (frames_of_file bytes)
  pub ending : a.ending ≡ (frames_of_file bytes).ending

pub none_found : (bytes : List ℕ) (a : Ahead) → a ≡ all_ahead bytes → AreFound bytes [] a
none_found bytes a is = record { all = ap (λ (x : Ahead). x.frames) is; ending = ap (λ (x : Ahead). x.ending) is }

pub one_found : (bytes frame : List ℕ) (number : ℕ) (found : List (List ℕ)) (a next : Ahead) → a ≡ record { number = number; frames = frame ∷ next.frames; ending = next.ending } → AreFound bytes found a
    → AreFound bytes (found ++ frame ∷ []) next
one_found bytes frame number found a next is h = record {
  all = append_assoc found (frame ∷ []) next.frames ∙ ap (λ (x : Ahead). found ++ x.frames) (sym is) ∙ h.all;
  ending = ap (λ (x : Ahead). x.ending) (sym is) ∙ h.ending;
}

-- the same of the code's list
pub one_kept : {X : Type 0} (now : X → List ℕ) (bytes : List ℕ) (x : X) (number : ℕ) (found : List X) (a next : Ahead) → a ≡ record { number = number; frames = now x ∷ next.frames; ending = next.ending }
    → AreFound bytes (map now found) a → AreFound bytes (map now (found ++ x ∷ [])) next
one_kept now bytes x number found a next is h = rw (map_push now found x) (one_found bytes (now x) number (map now found) a next is h)

pub all_found : (bytes : List ℕ) (number : ℕ) (found : List (List ℕ)) (a : Ahead) (ending : Option Rule) → a ≡ record { number = number; frames = []; ending = ending } → AreFound bytes found a
    → AreFrames bytes found ending
all_found bytes number found a ending is h = record {
  frames_are = sym (append-nil found) ∙ ap (λ (x : Ahead). found ++ x.frames) (sym is) ∙ h.all;
  ending_is = ap (λ (x : Ahead). x.ending) (sym is) ∙ h.ending;
}

-- a frame of the code's list
got_behind : {X : Type 0} (xs : List X) (n f : ℕ) → n ≤ f → slice_get (drop n xs) (f - n) ≡ slice_get xs f
got_behind xs zero f h = let same : f - 0 ≡ f = omega arith in ap (λ k. slice_get xs k) same
got_behind [] (suc n) f h = refl
got_behind (x ∷ xs) (suc n) zero h = absurd (omega (arith, h))
got_behind (x ∷ xs) (suc n) (suc f) h =
    let same : suc f - suc n ≡ f - n = omega arith in
    ap (λ k. slice_get (drop n xs) k) same ∙ got_behind xs n f (omega (arith, h))

pub frame_there : {X : Type 0} (now : X → List ℕ) (film : Film) (found : List X) (first f : ℕ) → first ≤ f → map now found ≡ drop first film.frames
    → option_map now (slice_get found (f - first)) ≡ frame_at film f
frame_there now film found first f h is = sym (slice_get-map now found (f - first)) ∙ (ap (λ xs. slice_get xs (f - first)) is ∙ got_behind film.frames first f h)

-- the same, by what the list gives
pub frame_is : {X : Type 0} (now : X → List ℕ) (film : Film) (found : List X) (own first f : ℕ) (x : X) → own ≡ first → first ≤ f → map now found ≡ drop first film.frames
    → f - own < length found → x ≡ get_or found (f - own) x → Some (now x) ≡ frame_at film f
frame_is now film found own first f x is h all low got =
    let same : f - own ≡ f - first = omega (arith, is) in
    sym (ap (option_map now) (sym (ap (λ k. slice_get found k) same) ∙ slice_get_read found (length found) (f - own) x refl low got)) ∙ frame_there now film found first f h all

pub frame_none : {X : Type 0} (now : X → List ℕ) (film : Film) (found : List X) (own first f : ℕ) → own ≡ first → first ≤ f → map now found ≡ drop first film.frames
    → length found ≤ f - own → None ≡ frame_at film f
frame_none now film found own first f is h all past =
    let same : f - own ≡ f - first = omega (arith, is) in
    sym (ap (option_map now) (sym (ap (λ k. slice_get found k) same) ∙ slice_get_past found (f - own) past)) ∙ frame_there now film found first f h all

pub ends_by_rule : (f : ℕ) (rule : Rule) (own ending : Option Rule) → own ≡ Some rule → own ≡ ending → outcome_at f rule ≡ outcome_of (file_ending f ending)
ends_by_rule f rule own ending some is = ap (λ e. outcome_of (file_ending f e)) (sym some ∙ is)

pub ends_done : (f : ℕ) (own ending : Option Rule) → own ≡ None → own ≡ ending → outcome.Done ≡ outcome_of (file_ending f ending)
ends_done f own ending none is = ap (λ e. outcome_of (file_ending f e)) (sym none ∙ is)
