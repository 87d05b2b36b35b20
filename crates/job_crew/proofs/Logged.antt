-- The world of jobs after one event more.
use Rattle.std.proofs.Common.{◌≡◌, ◌↔◌, ℕ, zero, suc, ◌+◌, ◌<◌, ◌≤◌, ⊎_elim, Bool, true, false, List, [], ◌∷◌, ◌++◌, length, slice_get, slice_set, Option, Some, sym, subst, refl, ◌∙◌, ap, arith, eq-or-lt_of_le}
use Rattle.std.proofs.lemmas.Bool.{cases_eq}
use Rattle.std.proofs.lemmas.Option.{same_Some, slice_get_within}
use Rattle.std.proofs.lemmas.List.Elements.{All-nil, All-cons}
use Rattle.vp9_types.specs.declared.job.JobName.{JobName}
use Rattle.vp9_types.specs.declared.job.JobName.TheVariants.{Head, Column, Close, Rows, Filter, Write, End}
use Rattle.vp9_types.specs.declared.job.BandSpan.{BandSpan}
use Rattle.job_order.specs.declared.segment.Segment.{Segment}
use Rattle.job_order.specs.declared.segment.Segment.TheVariants.{Opening}
use Rattle.job_order.specs.declared.event.Done.{Done}
use Rattle.job_order.specs.declared.event.Event.TheVariants.{Draw, Finish}
use Rattle.job_order.specs.JobSegments.{jobs_in, job_at, IsListed, InOrder}
use Rattle.job_order.specs.Needs.{IsNeed}
use Rattle.job_order.specs.Worlds.{Rules, WorldState, HasResult, IsFinished, IsReady, IsBehind, direct, Does, NeedsIn, IsReached, opening, after, published, and_published}
use Rattle.job_order.specs.Truths.{Truth}
use Rattle.job_order.proofs.Finished.{finished_now, finished_more, finished_either}
use Rattle.job_order.proofs.Grows.{at_still}
use Rattle.job_order.proofs.Later.{reached_first, reached_next}
use Rattle.job_order.proofs.Turns.{one_ticket}
use Rattle.job_crew.specs.Events.{CanDo, Covers, HasPassed, IsMarked, IsDoneBy, IsWorld}
use Rattle.job_crew.proofs.Marked.{none_marked, more_marked, less_marked, now_marked, still_marked, before_marked, not_marked, marked_below}

module _ {X : Type 0} (m : Rules X) (own : ℕ) where
  -- what the rules read is among what it was said to read
  pub wider : (segments : List Segment) (job need : JobName) (results : List (Done X)) (reads : List (Option BandSpan)) → Covers m job reads
      → IsNeed segments own (m.reads job results) job need → IsNeed segments own reads job need
  wider segments (Rows f c r) (Filter g q) results reads covers n = (n.0, covers results g n.0 n.1, n.2)
  wider segments _ _ results reads covers n = n

  pub first_world : IsWorld m own (Opening ∷ []) 0 0 [] false (opening own)
  first_world =
      record {
        reached = reached_first m own;
        window = refl;
        segments = refl;
        drawn = refl;
        listed = λ job h. absurd h.1;
        done = λ ticket job e. (λ h. absurd h.1, λ k. absurd (none_marked ticket k));
        chain = λ f r h. absurd h.1;
        passed = λ e f x h. absurd h;
      }

  module _ (segments : List Segment) (drawn base : ℕ) (marks : List Bool) (over : Bool) (w : WorldState X) (h : IsWorld m own segments drawn base marks over w) where
    pub world_draws : IsWorld m own segments (drawn + 1) base (marks ++ false ∷ []) over (after m w Draw)
    world_draws =
        record {
          reached = reached_next m own w Draw h.reached tt;
          window = h.window;
          segments = h.segments;
          drawn = ap (λ n. n + 1) h.drawn;
          listed = h.listed;
          done = λ ticket job e. let old = h.done ticket job e in (λ f. more_marked base marks ticket (old.0 f), λ k. old.1 (less_marked base marks ticket k));
          chain = h.chain;
          passed = h.passed;
        }

    pub world_pops : (base' : ℕ) (marks' : List Bool) → ((ticket : ℕ) → IsMarked base marks ticket ↔ IsMarked base' marks' ticket) → IsWorld m own segments drawn base' marks' over w
    world_pops base' marks' same =
        record {
          reached = h.reached;
          window = h.window;
          segments = h.segments;
          drawn = h.drawn;
          listed = h.listed;
          done = λ ticket job e. let old = h.done ticket job e in (λ f. (same ticket).0 (old.0 f), λ k. old.1 ((same ticket).1 k));
          chain = h.chain;
          passed = h.passed;
        }

    -- the filters of a frame before one that is finished are so too
    pub filters_done : (f r q : ℕ) → q ≤ r → IsFinished w.finished (Filter f r) → IsFinished w.finished (Filter f q)
    filters_done f zero q le fin = subst (λ i. IsFinished w.finished (Filter f i)) (let z : zero ≡ q = omega (arith, le) in z) fin
    filters_done f (suc r) q le fin =
        ⊎_elim
        (λ (e : q ≡ suc r). subst (λ i. IsFinished w.finished (Filter f i)) (sym e) fin)
        (λ (l : q < suc r).
        filters_done f r q (omega (arith, l)) (h.chain f r (subst (λ i. IsFinished w.finished (Filter f i)) (let z : suc r ≡ r + 1 = omega arith in z) fin)))
        (eq-or-lt_of_le le)

    pub done_before : (f r q : ℕ) → q ≤ r → IsListed segments (Filter f q) → IsDoneBy segments base marks (Filter f r) → IsDoneBy segments base marks (Filter f q)
    done_before f r q le listed d =
        (listed.0, listed.1, (h.done listed.0 (Filter f q) listed.1).0 (filters_done f r q le ((h.done d.0 (Filter f r) d.1).1 d.2)))

    needed_done : (job : JobName) (reads : List (Option BandSpan)) → Covers m job reads → ((need : JobName) → IsNeed segments own reads job need → IsDoneBy segments base marks need)
        → (need : JobName) → NeedsIn m w job need → IsFinished w.finished need
    needed_done job reads covers needs need n =
        let here : IsNeed segments own (m.reads job w.finished) job need =
        subst (λ s. IsNeed s own (m.reads job w.finished) job need) h.segments (subst (λ i. IsNeed w.segments i (m.reads job w.finished) job need) h.window n) in
        let d = needs need (wider segments job need w.finished reads covers here) in
        (h.done d.0 need d.1).1 d.2

    pub ready_now : base + length marks ≡ drawn → (at : ℕ) (job : JobName) → job_at segments (base + at) ≡ Some job → slice_get marks at ≡ Some false → (reads : List (Option BandSpan))
        → Covers m job reads → ((need : JobName) → IsNeed segments own reads job need → IsDoneBy segments base marks need) → IsReady m w job
    ready_now long at job there open_mark reads covers needs =
        record {
          drawn = (
            base + at,
            let l = slice_get_within marks at false open_mark in let d = h.drawn in omega (arith, l, d, long),
            subst (λ s. job_at s (base + at) ≡ Some job) (sym h.segments) there,
          );
          unfinished = λ f. not_marked base marks at open_mark ((h.done (base + at) job there).0 f);
          needs = needed_done job reads covers needs;
        }

  module _ (t : Truth X) (can : CanDo m t) (segments : List Segment) (drawn base : ℕ) (marks : List Bool) (w : WorldState X) (h : IsWorld m own segments drawn base marks false w)
      (long : base + length marks ≡ drawn) (few : drawn ≤ length (jobs_in segments)) (at : ℕ) (job : JobName) (there : job_at segments (base + at) ≡ Some job)
      (open_mark : slice_get marks at ≡ Some false) (reads : List (Option BandSpan)) (covers : Covers m job reads)
      (needs : (need : JobName) → IsNeed segments own reads job need → IsDoneBy segments base marks need) (x : X) (right : t.right job x) where
    is_needed : (need : JobName) → NeedsIn m w job need → IsFinished w.finished need
    is_needed = needed_done segments drawn base marks false w h job reads covers needs

    ready : IsReady m w job
    ready = ready_now segments drawn base marks false w h long at job there open_mark reads covers needs

    does_of : (j : JobName) → j ≡ job → t.right j x → Does m w j x
    does_of (Head f) is so = ([], All-nil _, can.0 (Head f) x tt so)
    does_of (Column f c) is so = ([], All-nil _, can.0 (Column f c) x tt so)
    does_of (Close f) is so = ([], All-nil _, can.0 (Close f) x tt so)
    does_of (Rows f c r) is so = ([], All-nil _, can.0 (Rows f c r) x tt so)
    does_of (Filter f r) is so = ([], All-nil _, can.0 (Filter f r) x tt so)
    does_of (End f) is so = ([], All-nil _, can.0 (End f) x tt so)
    does_of (Write zero) is so = ([], All-nil _, can.1 x so)
    does_of (Write (suc f)) is so =
        let step : NeedsIn m w (Write (suc f)) (Write f) = (let z : suc f ≡ f + 1 = omega arith in z) in
        let before = is_needed (Write f) (subst (λ j. NeedsIn m w j (Write f)) is step) in
        let more : suc f ≡ f + 1 = omega arith in (
          record { job = Write f; result = before.0 } ∷ [],
          All-cons (λ d. HasResult w.finished d.job d.result × IsBehind m w (Write (suc f)) d.job) (record { job = Write f; result = before.0 }) []
              (before.1, direct (Write (suc f)) (Write f) step) (All-nil (λ d. HasResult w.finished d.job d.result × IsBehind m w (Write (suc f)) d.job)),
          subst (λ n. m.does (Write n) (record { job = Write f; result = before.0 } ∷ []) x) (sym more)
              (can.2 f before.0 x (h.passed refl f before.0 before.1) (subst (λ n. t.right (Write n) x) more so)),
        )

    next : WorldState X
    next = after m w (Finish job x (published m job x))

    pub next_reached : IsReached m own (after m w (Finish job x (published m job x)))
    next_reached = reached_next m own w (Finish job x (published m job x)) h.reached (ready, does_of job refl right, refl)

    -- a ticket that was drawn before is the same job's
    same_job : (k : ℕ) (other : JobName) → k < drawn → job_at (and_published segments (published m job x)) k ≡ Some other → job_at segments k ≡ Some other
    same_job k other less e =
        let was = some_job (jobs_in segments) k (omega (arith, less, few)) in
        was.1 ∙ ap Some (same_Some was.0 other (sym (at_still segments (published m job x) k was.0 was.1) ∙ e))
      where
        some_job : (jobs : List JobName) (k : ℕ) → k < length jobs → (job : JobName) × (slice_get jobs k ≡ Some job)
        some_job [] k less = absurd (omega (arith, less))
        some_job (y ∷ jobs) zero less = (y, refl)
        some_job (y ∷ jobs) (suc k) less = some_job jobs k (omega (arith, less))

    module _ (order : InOrder (and_published segments (published m job x))) where
      is_marked : (ticket : ℕ) (other : JobName) → job_at (and_published segments (published m job x)) ticket ≡ Some other
          → IsFinished (record { job = job; result = x } ∷ w.finished) other → IsMarked base (slice_set marks at true) ticket
      is_marked ticket other e fin =
          ⊎_elim
          (λ (s : job ≡ other).
          now_marked base marks at ticket
          (one_ticket (and_published segments (published m job x)) order ticket (base + at) other e (at_still segments (published m job x) (base + at) other (there ∙ ap Some s))) open_mark)
          (λ (old : IsFinished w.finished other).
          let l = h.listed other old in
          let same = one_ticket (and_published segments (published m job x)) order l.0 ticket other (at_still segments (published m job x) l.0 other l.1) e in
          still_marked base marks at ticket (subst (λ i. IsMarked base marks i) same ((h.done l.0 other l.1).0 old)))
          (finished_either (record { job = job; result = x }) w.finished other fin)

      is_finished : (ticket : ℕ) (other : JobName) → job_at (and_published segments (published m job x)) ticket ≡ Some other → IsMarked base (slice_set marks at true) ticket
          → IsFinished (record { job = job; result = x } ∷ w.finished) other
      is_finished ticket other e k =
          ⊎_elim
          (λ (s : ticket ≡ base + at).
          finished_now (record { job = job; result = x }) w.finished other
          (same_Some job other (sym (at_still segments (published m job x) (base + at) job there) ∙ subst (λ i. job_at (and_published segments (published m job x)) i ≡ Some other) s e)))
          (λ (apart : ticket ≡ base + at → ⊥).
          let old = before_marked base marks at ticket apart k in
          let below = marked_below base marks ticket old in
          finished_more (record { job = job; result = x }) w.finished other
          ((h.done ticket other (same_job ticket other (omega (arith, below, long)) e)).1 old))
          (cases_eq ticket (base + at))

      -- no write that isn't the run's last was refused
      pub world_finishes : (ends : Bool) → (ends ≡ false → HasPassed m job x)
          → IsWorld m own (and_published segments (published m job x)) drawn base (slice_set marks at true) ends (after m w (Finish job x (published m job x)))
      world_finishes ends passes =
          record {
            reached = next_reached;
            window = h.window;
            segments = ap (λ s. and_published s (published m job x)) h.segments;
            drawn = h.drawn;
            listed = λ other fin.
                ⊎_elim
                (λ (s : job ≡ other). (base + at, at_still segments (published m job x) (base + at) other (there ∙ ap Some s)))
                (λ (old : IsFinished w.finished other). let l = h.listed other old in (l.0, at_still segments (published m job x) l.0 other l.1))
                (finished_either (record { job = job; result = x }) w.finished other fin);
            done = λ ticket other e. (is_marked ticket other e, is_finished ticket other e);
            chain = λ f r fin.
                finished_more (record { job = job; result = x }) w.finished (Filter f r)
                (⊎_elim
                (λ (s : job ≡ Filter f (r + 1)).
                let step : NeedsIn m w (Filter f (r + 1)) (Filter f r) = (refl, refl) in is_needed (Filter f r) (subst (λ j. NeedsIn m w j (Filter f r)) (sym s) step))
                (λ (old : IsFinished w.finished (Filter f (r + 1))). h.chain f r old)
                (finished_either (record { job = job; result = x }) w.finished (Filter f (r + 1)) fin));
            passed = λ goes f y has.
                ⊎_elim
                (λ (s : (job ≡ Write f) × (x ≡ y)). subst (λ z. m.fails z ≡ false) s.1 (let p : HasPassed m (Write f) x = subst (λ j. HasPassed m j x) s.0 (passes goes) in p))
                (λ (old : HasResult w.finished (Write f) y). h.passed refl f y old)
                has;
          }
