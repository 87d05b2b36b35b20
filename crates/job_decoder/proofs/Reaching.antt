-- From the run of a group to what is past behind it.
use Rattle.std.proofs.Common.{◌≡◌, ◌∙◌, ℕ, ◌+◌, List, [], ◌++◌, length, true, false, ap, sym, subst, refl, arith, All}
use Rattle.std.specs.Prelude.{Option, None}
use Rattle.std.proofs.lemmas.List.{append-nil, length-append}
use Rattle.edge_io.specs.Putting.{Takes}
use Rattle.vp9_types.specs.declared.outcome.Outcome.{Outcome}
use Rattle.vp9_types.specs.declared.outcome.Outcome.TheVariants as outcome
use Rattle.vp9_types.specs.declared.job.JobName.TheVariants.{Head}
use Rattle.frame_output.specs.declared.rendering.Format.{Format}
use Rattle.job_crew.specs.Runs.{IsDue}
use Rattle.job_order.specs.Sound.{texts_below}
use Rattle.job_rows.specs.seq_decoder.Outcomes.{Decodes}
use Rattle.job_rows.specs.numbered_frames.Films.{Film, GoesOn}
use Rattle.job_rows.specs.numbered_frames.FrameNumbers.{EndsAt, film_output, text}
use Rattle.job_rows.specs.job_results.Meaning.{decode_rules, decode_truth}
use Rattle.job_decoder.specs.declared.past.Past.{Past}
use Rattle.job_decoder.specs.Code.{HasRun, Stops, TakesOn}
use Rattle.job_decoder.specs.SinkOutputs.{is_done}
use Rattle.job_decoder.specs.Pasts.{IsKept, IsPast, film_with, frames_behind, numbers_of}
use Rattle.job_decoder.specs.Reaches.{IsStop, past_texts}
use Rattle.job_decoder.proofs.GroupEnds.{same_texts_to, writes_below}
use Rattle.job_decoder.proofs.PastFrames.{goes_on, more_frames}

-- by cases on whether all is decoded
stops : (format : Format) (film : Film) (n : ℕ) (old new : Option (List ℕ)) (faults now : ℕ) (o : Outcome) → HasRun format film n old new faults now o → is_done o ≡ false
    → IsStop o × Stops format film n old new faults now o
stops format film n old new faults now outcome.Done h unfinished = absurd cc
stops format film n old new faults now (outcome.Broken stop) h unfinished = (tt, h)
stops format film n old new faults now outcome.ReadFault h unfinished = absurd h
stops format film n old new faults now outcome.WriteFault h unfinished = (tt, h)
stops format film n old new faults now outcome.OutOfMemory h unfinished = (tt, h)

all_done : (format : Format) (film : Film) (n : ℕ) (old new : Option (List ℕ)) (faults now : ℕ) (o : Outcome) → HasRun format film n old new faults now o → is_done o ≡ true
    → EndsAt format film (length film.frames) None × (now ≡ faults) × TakesOn (text format film) n (length film.frames) old new
all_done format film n old new faults now outcome.Done h finished = h
all_done format film n old new faults now (outcome.Broken stop) h finished = absurd cc
all_done format film n old new faults now outcome.ReadFault h finished = absurd h
all_done format film n old new faults now outcome.WriteFault h finished = absurd cc
all_done format film n old new faults now outcome.OutOfMemory h finished = absurd cc

-- the texts of the past are those of the same frames with more behind them
pub texts_still : (format : Format) (rate : ℕ × ℕ) (p : Past) (frames : List (List ℕ)) → p.count ≡ length (frames_behind p)
    → texts_below (text format (film_with rate (frames_behind p ++ frames))) p.count ≡ past_texts format rate p
texts_still format rate p frames count =
    same_texts_to format (film_with rate (frames_behind p)) (film_with rate (frames_behind p ++ frames)) (goes_on rate (frames_behind p) frames) p.count (omega (arith, count))

module _ (format : Format) (rate : ℕ × ℕ) (past : Past) (frames : List (List ℕ)) (count : past.count ≡ length (frames_behind past)) (old new : Option (List ℕ)) (faults now : ℕ) (o : Outcome) where
  -- the decode has stopped in the group
  pub has_stopped : IsStop o → Stops format (film_with rate (frames_behind past ++ frames)) past.count old new faults now o
      → IsStop o × ((film : Film) (begun : Option (List ℕ)) → GoesOn (film_with rate (frames_behind past ++ frames)) film → Takes begun old (past_texts format rate past)
      → Decodes (film_output format film) begun new faults now o)
  has_stopped stop h =
      (stop, λ film begun goes takes. h film begun goes (subst (λ (t : List ℕ). Takes begun old t) (sym (texts_still format rate past frames count)) takes))

  pub reaches_end : HasRun format (film_with rate (frames_behind past ++ frames)) past.count old new faults now o → is_done o ≡ false
      → IsStop o × ((film : Film) (begun : Option (List ℕ)) → GoesOn (film_with rate (frames_behind past ++ frames)) film → Takes begun old (past_texts format rate past)
      → Decodes (film_output format film) begun new faults now o)
  reaches_end h unfinished =
      let s = stops format (film_with rate (frames_behind past ++ frames)) past.count old new faults now o h unfinished in
      has_stopped s.0 s.1

  -- all is decoded, but there is no memory for what is kept
  pub starved_after : HasRun format (film_with rate (frames_behind past ++ frames)) past.count old new faults now o → is_done o ≡ true
      → IsStop outcome.OutOfMemory × ((film : Film) (begun : Option (List ℕ)) → GoesOn (film_with rate (frames_behind past ++ frames)) film → Takes begun old (past_texts format rate past)
      → Decodes (film_output format film) begun new faults now outcome.OutOfMemory)
  starved_after h finished =
      let film = film_with rate (frames_behind past ++ frames) in
      let done = all_done format film past.count old new faults now o h finished in (
        tt,
        λ more begun goes takes. (
          done.1,
          writes_below format film more goes (length film.frames) begun new
              (done.2 begun (subst (λ (t : List ℕ). Takes begun old t) (sym (texts_still format rate past frames count)) takes)),
        ),
      )

  -- or goes on behind it
  pub reaches_further : (p : Past) → past.frames.numbers ≡ numbers_of (frames_behind past) → p.frames.numbers ≡ past.frames.numbers ++ numbers_of frames
      → p.count ≡ past.count + length frames → All (IsKept format (film_with rate (frames_behind past ++ frames))) p.kept.items
      → IsDue (decode_rules format (film_with rate (frames_behind past ++ frames))) (decode_truth format (film_with rate (frames_behind past ++ frames))) (Head (length (frames_behind past ++ frames)))
      → HasRun format (film_with rate (frames_behind past ++ frames)) past.count old new faults now o → is_done o ≡ true
      → IsPast format rate p × (frames_behind p ≡ frames_behind past ++ frames) × (now ≡ faults)
      × ((begun : Option (List ℕ)) → Takes begun old (past_texts format rate past) → Takes begun new (past_texts format rate p))
  reaches_further p whole numbers counted kept due h finished =
      let those = more_frames past.frames.numbers p.frames.numbers frames whole numbers in
      let long : p.count ≡ length (frames_behind past ++ frames) = omega (arith, counted, count, length-append (frames_behind past) frames) in
      let done = all_done format (film_with rate (frames_behind past ++ frames)) past.count old new faults now o h finished in
      let back = sym those.0 in (
        record {
          numbers = those.1;
          count = long ∙ ap length back;
          decoded = subst (λ (fs : List (List ℕ)). EndsAt format (film_with rate fs) p.count None) back
              (subst (λ (n : ℕ). EndsAt format (film_with rate (frames_behind past ++ frames)) n None) (sym long) done.0);
          kept = subst (λ (fs : List (List ℕ)). All (IsKept format (film_with rate fs)) p.kept.items) back kept;
          due = subst (λ (fs : List (List ℕ)). IsDue (decode_rules format (film_with rate fs)) (decode_truth format (film_with rate fs)) (Head p.count)) back
              (subst (λ (n : ℕ). IsDue (decode_rules format (film_with rate (frames_behind past ++ frames))) (decode_truth format (film_with rate (frames_behind past ++ frames))) (Head n)) (sym long) due);
        },
        those.0,
        done.1,
        λ begun takes. subst (λ (fs : List (List ℕ)). Takes begun new (texts_below (text format (film_with rate fs)) p.count)) back
            (subst (λ (n : ℕ). Takes begun new (texts_below (text format (film_with rate (frames_behind past ++ frames))) n)) (sym long)
            (done.2 begun (subst (λ (t : List ℕ). Takes begun old t) (sym (texts_still format rate past frames count)) takes))),
      )

-- nothing is decoded, for want of memory
pub starved_at_once : (format : Format) (rate : ℕ × ℕ) (past : Past) (frames : List (List ℕ)) (old : Option (List ℕ)) (faults : ℕ) → IsPast format rate past
    → IsStop outcome.OutOfMemory × ((film : Film) (begun : Option (List ℕ)) → GoesOn (film_with rate (frames_behind past ++ frames)) film → Takes begun old (past_texts format rate past)
    → Decodes (film_output format film) begun old faults faults outcome.OutOfMemory)
starved_at_once format rate past frames old faults is =
    let film = film_with rate (frames_behind past ++ frames) in (
      tt,
      λ more begun goes takes.
          (refl, writes_below format film more goes past.count begun old (subst (λ (t : List ℕ). Takes begun old t) (sym (texts_still format rate past frames is.count)) takes)),
    )

-- no frames are no step
pub stays : (format : Format) (rate : ℕ × ℕ) (past : Past) (frames : List (List ℕ)) (old : Option (List ℕ)) (faults : ℕ) → frames ≡ [] → IsPast format rate past
    → IsPast format rate past × (frames_behind past ≡ frames_behind past ++ frames) × (faults ≡ faults)
    × ((begun : Option (List ℕ)) → Takes begun old (past_texts format rate past) → Takes begun old (past_texts format rate past))
stays format rate past frames old faults none is = (is, sym (ap (λ (fs : List (List ℕ)). frames_behind past ++ fs) none ∙ append-nil (frames_behind past)), refl, λ begun takes. takes)
