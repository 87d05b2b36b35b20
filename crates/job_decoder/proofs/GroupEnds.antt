-- How the run of a group ends, for its film and for each that goes on from it.
use Rattle.std.proofs.Common.{◌≡◌, ◌∙◌, ◌≤◌, ◌<◌, ℕ, zero, suc, ◌+◌, List, [], ◌∷◌, ◌++◌, length, take, drop, ap, sym, subst, refl, arith, append_assoc, inl, inr}
use Rattle.std.specs.Prelude.{Option, Some, None, slice_get}
use Rattle.std.proofs.lemmas.Bool.{cases_lt}
use Rattle.std.proofs.lemmas.List.{append-nil, take-append-drop}
use Rattle.std.proofs.lemmas.Option.{slice_get_within}
use Rattle.std.proofs.Math.Seq.{take-append_seam}
use Rattle.edge_io.specs.Putting.{Takes}
use Rattle.edge_io.specs.declared.sink.PutFault.{PutFault}
use Rattle.edge_io.specs.declared.sink.PutFault.TheVariants as refused
use Rattle.edge_io.proofs.Fronts.{takes_both}
use Rattle.vp9_types.specs.declared.outcome.Outcome.{Outcome}
use Rattle.vp9_types.specs.declared.outcome.Outcome.TheVariants as outcome
use Rattle.vp9_types.specs.declared.rule.Rule.{Rule}
use Rattle.file_frames.specs.Walks.{Walked}
use Rattle.frame_output.specs.declared.rendering.Format.{Format}
use Rattle.job_order.specs.Sound.{texts_below}
use Rattle.job_order.specs.Truths.{IsFront}
use Rattle.job_crew.specs.Runs.{IsEnded}
use Rattle.job_crew.specs.declared.outlet.Ending.{Ending}
use Rattle.job_crew.specs.declared.outlet.Ending.TheVariants.{Whole, Refused}
use Rattle.job_rows.specs.seq_decoder.Code.{refusal_outcome}
use Rattle.job_rows.specs.seq_decoder.Outcomes.{WritesFront}
use Rattle.job_rows.specs.seq_decoder.Outputs.{Putting}
use Rattle.job_rows.specs.numbered_frames.Films.{Film, GoesOn}
use Rattle.job_rows.specs.numbered_frames.FrameNumbers.{EndsAt, before, file_ending, film_output, frame_at, text, text_from}
use Rattle.job_rows.proofs.of_numbered_frames.LaterFrames.{before_same, frame_same, text_same}
use Rattle.job_rows.proofs.of_numbered_frames.Ways.{ends, front, passed}
use Rattle.job_rows.specs.job_results.Endings.{HasRefused, IsOutcome}
use Rattle.job_rows.specs.job_results.Groups.{group_rules, group_truth}
use Rattle.job_rows.specs.job_results.JobResults.{IsEnd, outcome_of}
use Rattle.job_rows.specs.job_results.declared.result.JobResult.{JobResult}
use Rattle.job_rows.specs.job_results.declared.result.JobResult.TheVariants as result
use Rattle.job_rows.proofs.of_job_results.GroupDue.{texts_behind}
use Rattle.job_decoder.specs.Code.{HasRun, Stops}

---- Frames that are there ----

none_past : {X : Type 0} (xs : List X) (m : ℕ) → length xs ≤ m → slice_get xs m ≡ None
none_past [] zero far = refl
none_past [] (suc m) far = refl
none_past (x ∷ xs) zero far = absurd (omega (arith, far))
none_past (x ∷ xs) (suc m) far = none_past xs m (omega (arith, far))

no_none : {X : Type 0} (xs : List X) (k : ℕ) → k < length xs → slice_get xs k ≡ None → ⊥
no_none [] k low none = omega (arith, low)
no_none (x ∷ xs) zero low none = absurd cc
no_none (x ∷ xs) (suc k) low none = no_none xs k (omega (arith, low)) none

not_below : {X : Type 0} (xs : List X) (m : ℕ) → slice_get xs m ≡ None → length xs ≤ m
not_below xs m none = elim (cases_lt m (length xs)) [
  | inl low ↦ absurd (no_none xs m low none)
  | inr far ↦ far
]

-- what is kept before a frame is behind one that is there
reached_within : (format : Format) (film : Film) (m : ℕ) (p : Putting) → before format film m ≡ Some p → m ≤ length film.frames
reached_within format film zero p is = omega arith
reached_within format film (suc m) p is =
    let h = passed format film m p is in
    let low = slice_get_within film.frames m h.bytes h.there in
    omega (arith, low)

none_from : (f : ℕ) (from : Option Putting) (frame : Option (List ℕ)) → frame ≡ None → text_from f from frame ≡ []
none_from f None frame is = refl
none_from f (Some p) frame is = ap (text_from f (Some p)) is

no_text : (format : Format) (film : Film) (m : ℕ) → length film.frames ≤ m → text format film m ≡ []
unfolding text
no_text format film m far = none_from m (before format film m) (frame_at film m) (none_past film.frames m far)

---- A film and one that goes on from it ----

module _ (format : Format) (film more : Film) (h : GoesOn film more) where
  pub same_texts_to : (k : ℕ) → k ≤ length film.frames → texts_below (text format more) k ≡ texts_below (text format film) k
  same_texts_to zero low = refl
  same_texts_to (suc k) low = (λ i. same_texts_to k (omega (arith, low)) i ++ text_same format film more k h (omega (arith, low)) i)

  -- the texts of the first are those of some frames of the other
  some_texts : (m : ℕ) → (k : ℕ) × (texts_below (text format film) m ≡ texts_below (text format more) k)
  some_texts zero = (0, refl)
  some_texts (suc m) = elim (cases_lt m (length film.frames)) [
    | inl low ↦ (suc m, sym (same_texts_to (suc m) (omega (arith, low))))
    | inr far ↦
        let r = some_texts m in
        (r.0, ap (λ t. texts_below (text format film) m ++ t) (no_text format film m far) ∙ append-nil (texts_below (text format film) m) ∙ r.1)
  ]

  front_in_more : (xs rest : List ℕ) (m : ℕ) → xs ++ rest ≡ texts_below (text format film) m → (n : ℕ) × (xs ≡ take n (film_output format more).adds)
  front_in_more xs rest m is =
      let adds = (film_output format more).adds in
      let r = some_texts m in
      let at = front format more r.0 in
      let all : xs ++ rest ≡ take at.0 adds = is ∙ r.1 ∙ at.1 in
      let whole : xs ++ (rest ++ drop at.0 adds) ≡ adds = sym (append_assoc xs rest (drop at.0 adds)) ∙ ap (λ t. t ++ drop at.0 adds) all ∙ take-append-drop at.0 adds in
      (length xs, sym (take-append_seam xs (rest ++ drop at.0 adds)) ∙ ap (take (length xs)) whole)

  writes : (xs rest : List ℕ) (m : ℕ) (begun new : Option (List ℕ)) → xs ++ rest ≡ texts_below (text format film) m → Takes begun new xs → WritesFront (film_output format more) begun new
  writes xs rest m begun new is takes =
      let at = front_in_more xs rest m is in
      (at.0, subst (λ (t : List ℕ). Takes begun new t) at.1 takes)

  -- what was written below a frame is a front of what is to be written
  pub writes_below : (m : ℕ) (begun new : Option (List ℕ)) → Takes begun new (texts_below (text format film) m) → WritesFront (film_output format more) begun new
  writes_below m begun new takes = writes (texts_below (text format film) m) [] m begun new (append-nil (texts_below (text format film) m)) takes

  writes_into : (m : ℕ) (put : List ℕ) (begun new : Option (List ℕ)) → IsFront put (text format film m) → Takes begun new (texts_below (text format film) m ++ put)
      → WritesFront (film_output format more) begun new
  writes_into m put begun new is takes =
      writes (texts_below (text format film) m ++ put) is.0 (suc m) begun new
      (append_assoc (texts_below (text format film) m) put is.0 ∙ ap (λ t. texts_below (text format film) m ++ t) is.1) takes

  -- a rule that a frame breaks ends the other one too
  breaks_too : (m : ℕ) (stop : ℕ × Rule) → film.ending ≡ None → EndsAt format film m (Some stop) → (m ≤ length film.frames) × EndsAt format more m (Some stop)
  breaks_too m stop none e = elim e.ends [
    | inl at ↦ absurd (never stop (at.1 ∙ ap (file_ending m) none))
    | inr at ↦
        let low = slice_get_within film.frames m at.0 at.2 in
        let within : m ≤ length film.frames = omega (arith, low) in (
          within,
          record {
            kept = e.kept;
            reached = before_same format film more m h within ∙ e.reached;
            ends = inr (at.0, at.1, frame_same film more m h low ∙ at.2, at.3, at.4);
          },
        )
  ]
    where
      never : (stop : ℕ × Rule) → ◌≡◌ {A = Option (ℕ × Rule)} (Some stop) None → ⊥
      never stop is = absurd cc

---- How it ends ----

-- the texts of the group behind those before it
joined : (format : Format) (film : Film) (n f : ℕ) (begun old new : Option (List ℕ)) → Takes begun old (texts_below (text format film) n)
    → Takes old new (texts_below (λ k. text format film (n + k)) f) → Takes begun new (texts_below (text format film) (n + f))
joined format film n f begun old new first next =
    subst (λ (t : List ℕ). Takes begun new t) (sym (texts_behind (text format film) n f)) (takes_both begun old new _ _ first next)

joined_into : (format : Format) (film : Film) (n f : ℕ) (put : List ℕ) (begun old new : Option (List ℕ)) → Takes begun old (texts_below (text format film) n)
    → Takes old new (texts_below (λ k. text format film (n + k)) f ++ put) → Takes begun new (texts_below (text format film) (n + f) ++ put)
joined_into format film n f put begun old new first next =
    let front = texts_below (text format film) n in
    let group = texts_below (λ k. text format film (n + k)) f in
    subst (λ (t : List ℕ). Takes begun new t) (sym (append_assoc front group put) ∙ ap (λ t. t ++ put) (sym (texts_behind (text format film) n f)))
    (takes_both begun old new front (group ++ put) first next)

module _ (format : Format) (film : Film) (none : film.ending ≡ None) (n : ℕ) (old new : Option (List ℕ)) (faults now : ℕ) where
  -- at the end of the film
  at_end : (f : ℕ) → EndsAt format film (n + f) None → Takes old new (texts_below (λ k. text format film (n + k)) f) → now ≡ faults → HasRun format film n old new faults now outcome.Done
  at_end f e takes quiet = elim e.ends [
    | inl at ↦
        let far = not_below film.frames (n + f) at.0 in
        let near = reached_within format film (n + f) e.kept e.reached in
        let there : n + f ≡ length film.frames = omega (arith, far, near) in (
          subst (λ (k : ℕ). EndsAt format film k None) there e,
          quiet,
          λ begun first. subst (λ (k : ℕ). Takes begun new (texts_below (text format film) k)) there (joined format film n f begun old new first takes),
        )
    | inr at ↦ absurd (never at.0 at.1 at.4)
  ]
    where
      never : (frame : List ℕ) (rule : Rule) → ◌≡◌ {A = Option (ℕ × Rule)} None (Some (n + f, rule)) → ⊥
      never frame rule is = absurd cc

  at_rule : (f : ℕ) (stop : ℕ × Rule) → EndsAt format film (n + f) (Some stop) → Takes old new (texts_below (λ k. text format film (n + k)) f) → now ≡ faults
      → Stops format film n old new faults now (outcome_of (Some stop))
  at_rule f stop e takes quiet = λ more begun goes first.
      let broken = breaks_too format film more goes (n + f) stop none e in
      let is = ends format more (n + f) (Some stop) broken.1 in
      record {
        ends = ap (λ (w : Walked ℕ Rule). w.ending) is;
        writes = subst (λ (t : List ℕ). Takes begun new t) (sym (same_texts_to format film more goes (n + f) broken.0) ∙ ap (λ (w : Walked ℕ Rule). w.adds) (sym is))
            (joined format film n f begun old new first takes);
        quiet = quiet;
      }

  by_ending : (f : ℕ) (ending : Option (ℕ × Rule)) → EndsAt format film (n + f) ending → Takes old new (texts_below (λ k. text format film (n + k)) f) → now ≡ faults
      → HasRun format film n old new faults now (outcome_of ending)
  by_ending f None e takes quiet = at_end f e takes quiet
  by_ending f (Some stop) e takes quiet = at_rule f stop e takes quiet

  by_end : (f : ℕ) (o : Outcome) → IsEnd format film (n + f) o → Takes old new (texts_below (λ k. text format film (n + k)) f) → now ≡ faults → HasRun format film n old new faults now o
  by_end f o is takes quiet = elim is [
    | inl starved ↦ subst (λ (o : Outcome). HasRun format film n old new faults now o) (sym starved)
        (λ more begun goes first. (quiet, writes_below format film more goes (n + f) begun new (joined format film n f begun old new first takes)))
    | inr at ↦ subst (λ (o : Outcome). HasRun format film n old new faults now o) (sym at.2) (by_ending f at.0 at.1 takes quiet)
  ]

  by_refusal : (f : ℕ) (fault : PutFault) (put : List ℕ) → HasRefused faults now (result.Refused fault) → IsFront put (text format film (n + f))
      → Takes old new (texts_below (λ k. text format film (n + k)) f ++ put) → HasRun format film n old new faults now (refusal_outcome fault)
  by_refusal f refused.Failed put has is takes =
      (λ more begun goes first. (has, writes_into format film more goes (n + f) put begun new is (joined_into format film n f put begun old new first takes)))
  by_refusal f refused.OutOfMemory put has is takes =
      (λ more begun goes first. (has, writes_into format film more goes (n + f) put begun new is (joined_into format film n f put begun old new first takes)))

  pub has_run : (ending : Ending JobResult) (o : Outcome) → IsEnded (group_rules n format film) (group_truth n format film) old ending new (now ≡ faults) (HasRefused faults now) → IsOutcome ending o
      → HasRun format film n old new faults now o
  has_run (Whole f (result.Ended told)) o is tells = subst (λ (o : Outcome). HasRun format film n old new faults now o) (sym tells) (by_end f told is.1 is.2 is.3)
  has_run (Refused f (result.Refused fault)) o is tells = subst (λ (o : Outcome). HasRun format film n old new faults now o) (sym tells) (by_refusal f fault is.4.0 is.3 is.4.1 is.4.2)
  has_run (Whole f (result.Begun b)) o is tells = absurd tells
  has_run (Whole f (result.Existing slot)) o is tells = absurd tells
  has_run (Whole f (result.Column r)) o is tells = absurd tells
  has_run (Whole f (result.Closed k)) o is tells = absurd tells
  has_run (Whole f (result.Strip planes)) o is tells = absurd tells
  has_run (Whole f (result.Filtered planes)) o is tells = absurd tells
  has_run (Whole f result.Starved) o is tells = absurd tells
  has_run (Whole f result.Written) o is tells = absurd tells
  has_run (Whole f (result.Refused fault)) o is tells = absurd tells
  has_run (Refused f (result.Begun b)) o is tells = absurd tells
  has_run (Refused f (result.Existing slot)) o is tells = absurd tells
  has_run (Refused f (result.Column r)) o is tells = absurd tells
  has_run (Refused f (result.Closed k)) o is tells = absurd tells
  has_run (Refused f (result.Strip planes)) o is tells = absurd tells
  has_run (Refused f (result.Filtered planes)) o is tells = absurd tells
  has_run (Refused f result.Starved) o is tells = absurd tells
  has_run (Refused f result.Written) o is tells = absurd tells
  has_run (Refused f (result.Ended told)) o is tells = absurd tells

  -- nothing was done, for want of memory
  pub none_done : new ≡ old → now ≡ faults → HasRun format film n old new faults now outcome.OutOfMemory
  none_done same quiet = (λ more begun goes first.
      (quiet, writes_below format film more goes n begun new (subst (λ (o : Option (List ℕ)). Takes begun o (texts_below (text format film) n)) (sym same) first)))
