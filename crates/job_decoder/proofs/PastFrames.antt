-- Frames by their numbers, and films that go on from what is past.
use Rattle.std.proofs.Common.{◌≡◌, ◌∙◌, ◌≤◌, ◌<◌, ℕ, suc, ◌+◌, List, [], ◌∷◌, ◌++◌, length, map, ap, sym, subst, refl, arith, append_assoc, inl, inr, All}
use Rattle.std.specs.Prelude.{Option, Some, None, IfSome}
use Rattle.std.proofs.lemmas.List.{length-append}
use Rattle.vp9_types.specs.declared.job.JobName.TheVariants.{Close, Filter, Head}
use Rattle.frame_output.specs.declared.rendering.Format.{Format}
use Rattle.job_crew.specs.Left.{HasRightResults}
use Rattle.job_crew.specs.Runs.{IsDue}
use Rattle.job_crew.specs.declared.left.FrameResults.{FrameResults}
use Rattle.job_rows.specs.numbered_frames.Films.{Film, GoesOn}
use Rattle.job_rows.specs.numbered_frames.FrameNumbers.{EndsAt, before, start}
use Rattle.job_rows.specs.job_results.Groups.{group_truth}
use Rattle.job_rows.specs.job_results.Meaning.{decode_rules, decode_truth}
use Rattle.job_rows.specs.job_results.JobResults.{IsRight}
use Rattle.job_rows.specs.job_results.declared.result.JobResult.{JobResult}
use Rattle.job_rows.proofs.of_job_results.Later.{right_still}
use Rattle.job_decoder.specs.declared.past.Past.{Past}
use Rattle.job_decoder.specs.Code.{renumbered}
use Rattle.job_decoder.specs.Pasts.{IsKept, IsPast, film_with, frames_behind, frames_by, numbers_of, with_byte}

---- Frames as numbers ----

one_frame : (frame numbers : List ℕ) → frames_by (map (λ b. suc b) frame ++ 0 ∷ numbers) ≡ frame ∷ frames_by numbers
one_frame [] numbers = refl
one_frame (b ∷ frame) numbers = ap (with_byte b) (one_frame frame numbers)

pub back : (frames : List (List ℕ)) → frames_by (numbers_of frames) ≡ frames
back [] = refl
back (frame ∷ frames) = one_frame frame (numbers_of frames) ∙ ap (λ (fs : List (List ℕ)). frame ∷ fs) (back frames)

all_numbers : (a b : List (List ℕ)) → numbers_of a ++ numbers_of b ≡ numbers_of (a ++ b)
all_numbers [] b = refl
all_numbers (frame ∷ a) b =
    append_assoc (map (λ n. suc n) frame) (0 ∷ numbers_of a) (numbers_of b) ∙ ap (λ (ns : List ℕ). map (λ n. suc n) frame ++ 0 ∷ ns) (all_numbers a b)

-- the frames behind others
pub more_frames : (before after : List ℕ) (frames : List (List ℕ)) → before ≡ numbers_of (frames_by before) → after ≡ before ++ numbers_of frames
    → (frames_by after ≡ frames_by before ++ frames) × (after ≡ numbers_of (frames_by after))
more_frames before after frames whole is =
    let numbers : after ≡ numbers_of (frames_by before ++ frames) = is ∙ ap (λ (ns : List ℕ). ns ++ numbers_of frames) whole ∙ all_numbers (frames_by before) frames in
    let those : frames_by after ≡ frames_by before ++ frames = ap frames_by numbers ∙ back (frames_by before ++ frames) in
    (those, numbers ∙ ap numbers_of (sym those))

---- Films ----

pub goes_on : (rate : ℕ × ℕ) (before frames : List (List ℕ)) → GoesOn (film_with rate before) (film_with rate (before ++ frames))
goes_on rate before frames = record { rate = refl; behind = frames; frames = refl }

if_some : {X : Type 0} (P Q : X → Type 0) (o : Option X) → ((x : X) → P x → Q x) → IfSome o P → IfSome o Q
if_some P Q None f h = tt
if_some P Q (Some x) f h = f x h

module _ (format : Format) (film more : Film) (h : GoesOn film more) where
  pub kept_on : (r : FrameResults JobResult) → IsKept format film r → IsKept format more r
  kept_on r k =
      let long : length more.frames ≡ length film.frames + length h.behind = ap length h.frames ∙ length-append film.frames h.behind in
      record {
        right = record {
          close = if_some (IsRight format film (Close r.frame)) (IsRight format more (Close r.frame)) r.close (λ x right. right_still format film more h (Close r.frame) x k.within right) k.right.close;
          rows = λ row x there. right_still format film more h (Filter r.frame row) x k.within (k.right.rows row x there);
        };
        within = omega (arith, k.within, long);
      }

  pub all_kept_on : (rs : List (FrameResults JobResult)) → All (IsKept format film) rs → All (IsKept format more) rs
  all_kept_on rs all = λ k d low. kept_on _ (all k d low)

  pub due_on : (n : ℕ) → n ≤ length film.frames → IsDue (decode_rules format film) (decode_truth format film) (Head n) → IsDue (decode_rules format more) (decode_truth format more) (Head n)
  due_on n within due = elim due [
    | inl zeroth ↦ inl zeroth
    | inr behind ↦
        let low : behind.0 < length film.frames = omega (arith, within, behind.1) in
        inr (behind.0, behind.1, (behind.2.0, (behind.2.1.0, right_still format film more h (Close behind.0) behind.2.1.0 low behind.2.1.1, behind.2.1.2)))
  ]

---- What is kept ----

-- the results of a frame of a group, by its number in the film
pub left_right : (n first number : ℕ) (format : Format) (film : Film) (r : FrameResults JobResult) → first ≡ n → number ≡ first + r.frame → HasRightResults (group_truth n format film) r
    → HasRightResults (decode_truth format film) (renumbered number r)
left_right n first number format film r is same h =
    let there : n + r.frame ≡ number = ap (λ k. k + r.frame) (sym is) ∙ sym same in
    subst (λ (k : ℕ). HasRightResults (decode_truth format film) (renumbered k r)) there (record { close = h.close; rows = h.rows })

pub same_right : (format : Format) (film : Film) (r : FrameResults JobResult) → HasRightResults (decode_truth format film) r → HasRightResults (decode_truth format film) (renumbered r.frame r)
same_right format film r h = record { close = h.close; rows = h.rows }

-- before the first frame
start_ends : (format : Format) (rate : ℕ × ℕ) → EndsAt format (film_with rate []) 0 None
unfolding before
start_ends format rate = record { kept = start format (film_with rate []); reached = refl; ends = inl (refl, refl) }

pub none_past : (format : Format) (rate : ℕ × ℕ) (p : Past) → p.count ≡ 0 → p.kept.items ≡ [] → p.frames.numbers ≡ [] → IsPast format rate p
none_past format rate p count kept numbers =
    let frames : frames_behind p ≡ [] = ap frames_by numbers in
    record {
      numbers = numbers ∙ sym (ap numbers_of frames);
      count = count ∙ sym (ap length frames);
      decoded = subst (λ (fs : List (List ℕ)). EndsAt format (film_with rate fs) p.count None) (sym frames) (subst (λ (n : ℕ). EndsAt format (film_with rate []) n None) (sym count) (start_ends format rate));
      kept = λ k d low. absurd (omega (arith, low, ap length kept));
      due = inl count;
    }
