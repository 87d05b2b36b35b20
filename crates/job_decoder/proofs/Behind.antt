-- A group behind the past, by what the marker of its run names.
use Rattle.std.proofs.Common.{◌≡◌, ◌∙◌, ◌≤◌, ◌<◌, ℕ, ◌+◌, ◌^◌, List, [], ◌∷◌, ◌++◌, length, drop, true, false, ap, sym, subst, refl, arith, All}
use Rattle.std.specs.Prelude.{Option, None}
use Rattle.std.proofs.lemmas.List.{length-append}
use Rattle.edge_io.specs.Putting.{Takes}
use Rattle.vp9_types.specs.declared.outcome.Outcome.{Outcome}
use Rattle.vp9_types.specs.declared.outcome.Outcome.TheVariants as outcome
use Rattle.vp9_types.specs.declared.job.JobName.TheVariants.{Head}
use Rattle.frame_output.specs.declared.rendering.Format.{Format}
use Rattle.job_crew.specs.Runs.{IsDue}
use Rattle.job_rows.specs.seq_decoder.Outcomes.{Decodes}
use Rattle.job_rows.specs.seq_decoder.Outputs.{form_from}
use Rattle.job_rows.specs.numbered_frames.Films.{Film, GoesOn}
use Rattle.job_rows.specs.numbered_frames.FrameNumbers.{film_output}
use Rattle.job_rows.specs.job_results.Meaning.{decode_rules, decode_truth}
use Rattle.job_decoder.specs.declared.past.Past.{Past}
use Rattle.job_decoder.specs.Code.{HasRun}
use Rattle.job_decoder.specs.SinkOutputs.{is_done}
use Rattle.job_decoder.specs.Pasts.{IsKept, IsPast, film_with, frames_behind, numbers_of}
use Rattle.job_decoder.specs.Reaches.{IsStop, past_texts}
use Rattle.job_decoder.proofs.PastFrames.{all_kept_on, due_on, goes_on}
use Rattle.job_decoder.proofs.Reaching.{reaches_end, reaches_further, starved_after}

dropped : {X : Type 0} (xs ys : List X) → drop (length xs) (xs ++ ys) ≡ ys
dropped [] ys = refl
dropped (x ∷ xs) ys = dropped xs ys

module _ (format : Format) (rate : ℕ × ℕ) (past : Past) (is : IsPast format rate past) (frames : List (List ℕ)) (own_format : Format) (own_film : Film) (own_first : ℕ)
    (f : own_format ≡ format) (m : own_film ≡ film_with rate (frames_behind past ++ frames)) (n : own_first ≡ past.count) where
  to_own : (P : Format → Film → ℕ → Type 0) → P format (film_with rate (frames_behind past ++ frames)) past.count → P own_format own_film own_first
  to_own P h =
      subst (λ (x : Format). P x own_film own_first) (sym f)
      (subst (λ (x : Film). P format x own_first) (sym m) (subst (λ (x : ℕ). P format (film_with rate (frames_behind past ++ frames)) x) (sym n) h))

  of_own : (P : Format → Film → ℕ → Type 0) → P own_format own_film own_first → P format (film_with rate (frames_behind past ++ frames)) past.count
  of_own P h =
      subst (λ (x : Format). P x (film_with rate (frames_behind past ++ frames)) past.count) f
      (subst (λ (x : Film). P own_format x past.count) m (subst (λ (x : ℕ). P own_format own_film x) n h))

  long : length (frames_behind past ++ frames) ≡ past.count + length frames
  long = omega (arith, length-append (frames_behind past) frames, is.count)

  pub frames_next : frames ≡ drop own_first own_film.frames
  frames_next = to_own (λ x y z. frames ≡ drop z y.frames)
      (sym (dropped (frames_behind past) frames) ∙ ap (λ (k : ℕ). drop k (frames_behind past ++ frames)) (sym is.count))

  pub reached_is : past.count + length frames ≡ length own_film.frames
  reached_is = to_own (λ x y z. past.count + length frames ≡ length y.frames) (sym long)

  pub few_next : past.count + length frames < 2 ^ 64 → length own_film.frames < 2 ^ 64
  few_next few = let same = reached_is in omega (arith, few, same)

  pub within_next : own_first ≤ length own_film.frames
  within_next = to_own (λ x y z. z ≤ length y.frames) (let same = long in omega (arith, same))

  pub form_next : form_from format rate ≡ form_from own_format own_film.rate
  form_next = to_own (λ x y z. form_from format rate ≡ form_from x y.rate) refl

  pub ending_next : own_film.ending ≡ None
  ending_next = ap (λ (y : Film). y.ending) m

  pub kept_next : All (IsKept own_format own_film) past.kept.items
  kept_next = to_own (λ x y z. All (IsKept x y) past.kept.items)
      (all_kept_on format (film_with rate (frames_behind past)) (film_with rate (frames_behind past ++ frames)) (goes_on rate (frames_behind past) frames) past.kept.items is.kept)

  pub due_next : IsDue (decode_rules own_format own_film) (decode_truth own_format own_film) (Head own_first)
  due_next = to_own (λ x y z. IsDue (decode_rules x y) (decode_truth x y) (Head z))
      (due_on format (film_with rate (frames_behind past)) (film_with rate (frames_behind past ++ frames)) (goes_on rate (frames_behind past) frames) past.count
      (let same = is.count in omega (arith, same)) is.due)

  pub ends_behind : (old new : Option (List ℕ)) (faults now : ℕ) (o : Outcome) → HasRun own_format own_film own_first old new faults now o → is_done o ≡ false
      → IsStop o × ((film : Film) (begun : Option (List ℕ)) → GoesOn (film_with rate (frames_behind past ++ frames)) film → Takes begun old (past_texts format rate past)
      → Decodes (film_output format film) begun new faults now o)
  ends_behind old new faults now o h unfinished = reaches_end format rate past frames is.count old new faults now o (of_own (λ x y z. HasRun x y z old new faults now o) h) unfinished

  pub further_behind : (old new : Option (List ℕ)) (faults now : ℕ) (o : Outcome) (p : Past) → HasRun own_format own_film own_first old new faults now o → is_done o ≡ true
      → p.frames.numbers ≡ past.frames.numbers ++ numbers_of frames → p.count ≡ past.count + length frames → All (IsKept own_format own_film) p.kept.items
      → IsDue (decode_rules own_format own_film) (decode_truth own_format own_film) (Head (length own_film.frames))
      → IsPast format rate p × (frames_behind p ≡ frames_behind past ++ frames) × (now ≡ faults)
      × ((begun : Option (List ℕ)) → Takes begun old (past_texts format rate past) → Takes begun new (past_texts format rate p))
  further_behind old new faults now o p h finished numbers counted kept due =
      reaches_further format rate past frames is.count old new faults now o p is.numbers numbers counted
      (of_own (λ x y z. All (IsKept x y) p.kept.items) kept)
      (of_own (λ x y z. IsDue (decode_rules x y) (decode_truth x y) (Head (length y.frames))) due)
      (of_own (λ x y z. HasRun x y z old new faults now o) h) finished

  -- all of it is decoded, but there is no memory for what is kept
  pub starved_behind : (old new : Option (List ℕ)) (faults now : ℕ) (o : Outcome) → HasRun own_format own_film own_first old new faults now o → is_done o ≡ true
      → IsStop outcome.OutOfMemory × ((film : Film) (begun : Option (List ℕ)) → GoesOn (film_with rate (frames_behind past ++ frames)) film → Takes begun old (past_texts format rate past)
      → Decodes (film_output format film) begun new faults now outcome.OutOfMemory)
  starved_behind old new faults now o h finished = starved_after format rate past frames is.count old new faults now o (of_own (λ x y z. HasRun x y z old new faults now o) h) finished
