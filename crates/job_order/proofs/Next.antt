-- Some job may always finish.
use Rattle.std.proofs.Common.{◌≡◌, ℕ, zero, suc, ◌+◌, ◌<◌, ◌≤◌, ◌⊎◌, inl, inr, ⊎_elim, refl, sym, ◌∙◌, ap, subst, List, [], ◌∷◌, length, slice_get, Option, Some, None, arith, eq-or-lt_of_le}
use Rattle.std.proofs.lemmas.Option.{none-some, same_Some}
use Rattle.std.proofs.lemmas.Bool.{cases_eq}
use Rattle.vp9_types.specs.declared.job.JobName.{JobName}
use Rattle.vp9_types.specs.declared.job.JobName.TheVariants.{Head, Column, Close, Rows, Filter, Write, End}
use Rattle.vp9_types.specs.declared.job.BandSpan.{BandSpan}
use Rattle.job_order.specs.Needs.{IsNeed, NeedsBand, Publishes}
use Rattle.job_order.specs.declared.segment.Segment.{Segment}
use Rattle.job_order.specs.declared.segment.Segment.TheVariants.{Opening, Parse, Build, Last}
use Rattle.job_order.specs.declared.event.Done.{Done}
use Rattle.job_order.specs.declared.event.Event.{Event}
use Rattle.job_order.specs.declared.event.Event.TheVariants.{Finish}
use Rattle.job_order.specs.JobSegments.{job_at, InOrder}
use Rattle.job_order.specs.Worlds.{Rules, WorldState, IsFinished, IsReady, IsAllowed, AreAllowed, published, opening, run}
use Rattle.job_order.specs.Truths.{Truth, AreTrue}
use Rattle.job_order.specs.Sound.{IsSound, IsLeast, AreTotal, MayRead, frame_of}
use Rattle.job_order.proofs.Orders.{start, ticket_of}
use Rattle.job_order.proofs.Homes.{some_at}
use Rattle.job_order.proofs.Counts.{Counts}
use Rattle.job_order.proofs.Keeps.{kept_first, kept_all}
use Rattle.job_order.proofs.Finished.{finished_now, finished_more, finished_either}

-- two numbers are the same, or they aren't
by_one : (kind : ℕ → JobName) → ((f g : ℕ) → kind f ≡ kind g → f ≡ g) → (f g : ℕ) → (kind f ≡ kind g) ⊎ (kind f ≡ kind g → ⊥)
by_one kind apart f g = ⊎_elim (λ (a : f ≡ g). inl (ap kind a)) (λ (a : f ≡ g → ⊥). inr (λ e. a (apart f g e))) (cases_eq f g)

by_two : (kind : ℕ → ℕ → JobName) → ((f g c d : ℕ) → kind f c ≡ kind g d → (f ≡ g) × (c ≡ d)) → (f g c d : ℕ) → (kind f c ≡ kind g d) ⊎ (kind f c ≡ kind g d → ⊥)
by_two kind apart f g c d =
    ⊎_elim
    (λ (a : f ≡ g).
    ⊎_elim (λ (b : c ≡ d). inl (ap (λ i. kind i c) a ∙ ap (λ i. kind g i) b)) (λ (b : c ≡ d → ⊥). inr (λ e. b (apart f g c d e).1)) (cases_eq c d))
    (λ (a : f ≡ g → ⊥). inr (λ e. a (apart f g c d e).0))
    (cases_eq f g)

by_three : (f g c d r q : ℕ) → (Rows f c r ≡ Rows g d q) ⊎ (Rows f c r ≡ Rows g d q → ⊥)
by_three f g c d r q =
    ⊎_elim
    (λ (a : f ≡ g).
    ⊎_elim
    (λ (b : c ≡ d).
    ⊎_elim (λ (e : r ≡ q). inl (ap (λ i. Rows i c r) a ∙ (ap (λ i. Rows g i r) b ∙ ap (λ i. Rows g d i) e))) (λ (e : r ≡ q → ⊥). inr (λ p. e (let z : r ≡ q = cc in z))) (cases_eq r q))
    (λ (b : c ≡ d → ⊥). inr (λ p. b (let z : c ≡ d = cc in z)))
    (cases_eq c d))
    (λ (a : f ≡ g → ⊥). inr (λ p. a (let z : f ≡ g = cc in z)))
    (cases_eq f g)

-- two jobs are the same, or they aren't
pub same_job : (a b : JobName) → (a ≡ b) ⊎ (a ≡ b → ⊥)
same_job (Head f) (Head g) = by_one Head (λ f g e. cc) f g
same_job (Column f c) (Column g d) = by_two Column (λ f g c d e. (cc, cc)) f g c d
same_job (Close f) (Close g) = by_one Close (λ f g e. cc) f g
same_job (Rows f c r) (Rows g d q) = by_three f g c d r q
same_job (Filter f r) (Filter g q) = by_two Filter (λ f g c d e. (cc, cc)) f g r q
same_job (Write f) (Write g) = by_one Write (λ f g e. cc) f g
same_job (End f) (End g) = by_one End (λ f g e. cc) f g
same_job a b = inr (λ e. cc)

-- a job needs the filter that publishes a band that it needs
by_band : (segments : List Segment) (window : ℕ) (reads : List (Option BandSpan)) (job : JobName) (g band row : ℕ) → NeedsBand segments reads job g band → Publishes segments g row band
    → IsNeed segments window reads job (Filter g row)
by_band segments window reads (Rows f c r) g band row n p = (band, n, p)
by_band segments window reads (Write f) g band row n p = (band, n, p)
by_band segments window reads _ g band row n p = absurd n

module _ {X : Type 0} where
  pub finished_or_not : (finished : List (Done X)) (job : JobName) → IsFinished finished job ⊎ (IsFinished finished job → ⊥)
  finished_or_not [] job = inr (λ h. absurd h.1)
  finished_or_not (d ∷ earlier) job =
      ⊎_elim
      (λ (e : d.job ≡ job). inl (finished_now d earlier job e))
      (λ (n : d.job ≡ job → ⊥).
      ⊎_elim
      (λ (h : IsFinished earlier job). inl (finished_more d earlier job h))
      (λ (h : IsFinished earlier job → ⊥). inr (λ done. ⊎_elim (λ (e : d.job ≡ job). n e) (λ (e : IsFinished earlier job). h e) (finished_either d earlier job done)))
      (finished_or_not earlier job))
      (same_job d.job job)

  module _ (w : WorldState X) where
    abbrev pub AllBelow : ℕ → Type 0
    AllBelow n = (k : ℕ) (job : JobName) → k < n → job_at w.segments k ≡ Some job → IsFinished w.finished job

    abbrev pub HasLeast : Type 0
    HasLeast = (ticket : ℕ) × (job : JobName) × IsLeast w ticket job

    one_more : (n : ℕ) (o : Option JobName) → job_at w.segments n ≡ o → AllBelow n → AllBelow (suc n) ⊎ HasLeast
    one_more n None is all =
        inl (λ k job less e. ⊎_elim (λ (s : k ≡ n). absurd (none-some job (sym is ∙ subst (λ i. job_at w.segments i ≡ Some job) s e))) (λ (l : k < n). all k job l e) (eq-or-lt_of_le (let z : k ≤ n = omega (arith, less) in z)))
    one_more n (Some first) is all =
        ⊎_elim
        (λ (h : IsFinished w.finished first).
        inl (λ k job less e.
        ⊎_elim
        (λ (s : k ≡ n). subst (λ j. IsFinished w.finished j) (same_Some first job (sym is ∙ subst (λ i. job_at w.segments i ≡ Some job) s e)) h)
        (λ (l : k < n). all k job l e)
        (eq-or-lt_of_le (let z : k ≤ n = omega (arith, less) in z))))
        (λ (h : IsFinished w.finished first → ⊥). inr (n, first, record { at = is; unfinished = h; before = all }))
        (finished_or_not w.finished first)

    least_below : (n : ℕ) → AllBelow n ⊎ HasLeast
    least_below zero = inl (λ k job less e. absurd (omega (arith, less)))
    least_below (suc n) = ⊎_elim (λ (all : AllBelow n). one_more n (job_at w.segments n) refl all) (λ (h : HasLeast). inr h) (least_below n)

    abbrev pub HasUnfinished : Type 0
    HasUnfinished = (ticket : ℕ) × (job : JobName) × (job_at w.segments ticket ≡ Some job) × (IsFinished w.finished job → ⊥)

    some_least : HasUnfinished → HasLeast
    some_least u = ⊎_elim (λ (all : AllBelow (suc u.0)). absurd (u.3 (all u.0 u.1 (omega arith) u.2))) (λ (h : HasLeast). h) (least_below (suc u.0))

    module _ (c : Counts {X = X} w.window w.finished w.segments) (h : InOrder w.segments) (going : (f : ℕ) → ¬ IsFinished w.finished (End f)) where
      -- the last job of the last segment, or the head in it
      of_last : (place : ℕ) (s : Segment) → slice_get w.segments place ≡ Some s → place + 1 ≡ length w.segments → HasUnfinished
      of_last place Opening e is =
          let at = h.places place Opening e in
          let long = c.long in
          (start w.segments place + 0, Head 0, ticket_of w.segments place Opening (Head 0) 0 e (refl, refl), λ done. let l = c.head.below 0 done in absurd (omega (arith, l, at, is, long)))
      of_last place (Parse g columns) e is =
          let at = h.places place (Parse g columns) e in
          let long = c.long in
          let low = c.low in
          let high = c.high in (
            start w.segments place + columns,
            Close g,
            ticket_of w.segments place (Parse g columns) (Close g) columns e (refl, refl),
            λ done. let l = c.close.below g done in absurd (omega (arith, l, at, is, long, low, high)),
          )
      of_last place (Build g columns rows shown) e is =
          let at = h.places place (Build g columns rows shown) e in
          let long = c.long in
          let low = c.low in
          let high = c.high in (
            start w.segments place + 0,
            Head (g + 1),
            ticket_of w.segments place (Build g columns rows shown) (Head (g + 1)) 0 e (refl, refl),
            λ done. let l = c.head.below (g + 1) done in absurd (omega (arith, l, at, is, long, low, high)),
          )
      of_last place (Last g) e is = (start w.segments place + 0, End g, ticket_of w.segments place (Last g) (End g) 0 e (refl, refl), going g)

      pub has_least : HasLeast
      has_least =
          let long = c.long in
          let s = some_at w.segments h w.segments (c.heads + c.closes) (omega (arith, long)) in
          some_least (of_last (c.heads + c.closes) s.0 s.1 (omega (arith, long)))

module _ {X : Type 0} (m : Rules X) (t : Truth X) where
  pub next_there : (window : ℕ) (events : List (Event X)) → 2 ≤ window → AreTrue m t → AreAllowed m (opening window) events → ((f : ℕ) → ¬ IsFinished (run m (opening window) events).finished (End f))
      → (ticket : ℕ) × (job : JobName) × IsLeast (run m (opening window) events) ticket job
  next_there window events wide ok a going =
      let k = kept_all m t (opening window) events ok wide (kept_first m t window) a in has_least (run m (opening window) events) k.0.counts k.0.order going

  pub least_ready : (w : WorldState X) (ticket : ℕ) (job : JobName) → IsSound m t w → IsLeast w ticket job → ticket < w.drawn → IsReady m w job
  least_ready w ticket job s l drawn =
      record {
        drawn = (ticket, drawn, l.at);
        unfinished = l.unfinished;
        needs = λ need n. let b = s.smaller ticket job need l.at n in l.before b.0 need b.1 b.2;
      }

  pub least_finishes : (w : WorldState X) (ticket : ℕ) (job : JobName) → IsSound m t w → AreTotal m t → IsLeast w ticket job → ticket < w.drawn → (x : X) × IsAllowed m w (Finish job x (published m job x))
  least_finishes w ticket job s total l drawn =
      let r = least_ready w ticket job s l drawn in let d = total w job s r in (d.0, (r, d.1, refl))

  -- the filters of a ready job's bands
  pub bands_done : (w : WorldState X) (job : JobName) (g band : ℕ) → IsSound m t w → IsReady m w job → NeedsBand w.segments (m.reads job w.finished) job g band
      → ((row : ℕ) × IsFinished w.finished (Filter g row) × Publishes w.segments g row band) × MayRead t (frame_of job) g
  bands_done w job g band s r n =
      let b = s.bands r.drawn.0 job g band r.drawn.2 n in
      ((b.0.0, r.needs (Filter g b.0.0) (by_band w.segments w.window (m.reads job w.finished) job g band b.0.0 n b.0.1), b.0.1), b.1)
