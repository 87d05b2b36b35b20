-- Jobs done in ticket order.
use Rattle.std.proofs.Common.{◌≡◌, ℕ, zero, suc, ◌+◌, ◌*◌, ◌<◌, ◌≤◌, ⊎_elim, refl, sym, ◌∙◌, ap, subst, List, [], ◌∷◌, length, slice_get, Option, Some, arith, eq-or-lt_of_le}
use Rattle.std.proofs.lemmas.Option.{same_Some, slice_get_within}
use Rattle.vp9_types.specs.declared.job.JobName.{JobName}
use Rattle.vp9_types.specs.declared.job.JobName.TheVariants.{Head, Column, Close, Rows, Filter, Write, End}
use Rattle.job_order.specs.declared.segment.Segment.{Segment}
use Rattle.job_order.specs.declared.event.Event.TheVariants.{Draw, Finish}
use Rattle.job_order.specs.JobSegments.{jobs_in, job_at, InOrder}
use Rattle.job_order.specs.Worlds.{Rules, WorldState, IsFinished, IsReady, Does, IsAllowed, opening, after, published, and_published}
use Rattle.job_order.specs.Truths.{Truth}
use Rattle.job_order.specs.Sound.{IsSound, IsInTurn}
use Rattle.job_order.proofs.Orders.{start}
use Rattle.job_order.proofs.Homes.{column_home, close_home, rows_home, filter_home, write_home, head_home, end_home}
use Rattle.job_order.proofs.Smaller.{same_columns, same_build}
use Rattle.job_order.proofs.Finished.{finished_now, finished_more, finished_either}
use Rattle.job_order.proofs.Grows.{at_still, still_below}

module _ (segments : List Segment) (h : InOrder segments) where
  -- each job has one ticket
  pub one_ticket : (t u : ℕ) (job : JobName) → job_at segments t ≡ Some job → job_at segments u ≡ Some job → t ≡ u
  one_ticket t u (Head f) a b = let p = head_home segments h t f a in let q = head_home segments h u f b in p.is ∙ sym q.is
  one_ticket t u (Column f c) a b = let p = column_home segments h t f c a in let q = column_home segments h u f c b in p.is ∙ sym q.is
  one_ticket t u (Close f) a b =
      let p = close_home segments h t f a in let q = close_home segments h u f b in
      p.is ∙ ap (λ n. start segments (2 * f + 1) + n) (same_columns segments f p.columns q.columns p.there q.there) ∙ sym q.is
  one_ticket t u (Rows f c r) a b =
      let p = rows_home segments h t f c r a in let q = rows_home segments h u f c r b in
      p.is ∙ ap (λ n. start segments (2 * f + 2) + (1 + (r * (n + 1) + c))) (same_build segments f p.columns q.columns p.rows q.rows p.shown q.shown p.there q.there).0 ∙ sym q.is
  one_ticket t u (Filter f r) a b =
      let p = filter_home segments h t f r a in let q = filter_home segments h u f r b in
      p.is ∙ ap (λ n. start segments (2 * f + 2) + (1 + (r * (n + 1) + n))) (same_build segments f p.columns q.columns p.rows q.rows p.shown q.shown p.there q.there).0 ∙ sym q.is
  one_ticket t u (Write f) a b =
      let p = write_home segments h t f a in let q = write_home segments h u f b in
      let s = same_build segments f p.columns q.columns p.rows q.rows p.shown q.shown p.there q.there in
      p.is ∙ (ap (λ n. start segments (2 * f + 2) + (1 + p.rows * (n + 1))) s.0 ∙ ap (λ n. start segments (2 * f + 2) + (1 + n * (q.columns + 1))) s.1) ∙ sym q.is
  one_ticket t u (End f) a b =
      let p = end_home segments h t f a in let q = end_home segments h u f b in
      let x = h.last p.place f p.there in let y = h.last q.place f q.there in
      p.is ∙ ap (λ n. start segments n + 0) (let z : p.place ≡ q.place = omega (arith, x, y) in z) ∙ sym q.is

-- what stands below a job's ticket stood there before
some_job : (jobs : List JobName) (k : ℕ) → k < length jobs → (job : JobName) × (slice_get jobs k ≡ Some job)
some_job [] k less = absurd (omega (arith, less))
some_job (x ∷ jobs) zero less = (x, refl)
some_job (x ∷ jobs) (suc k) less = some_job jobs k (omega (arith, less))

stood : (segments : List Segment) (o : Option Segment) (n k : ℕ) (job other : JobName) → job_at segments n ≡ Some job → k ≤ n → job_at (and_published segments o) k ≡ Some other → job_at segments k ≡ Some other
stood segments o n k job other e le there =
    let inside = slice_get_within (jobs_in segments) n job e in
    let was = some_job (jobs_in segments) k (omega (arith, inside, le)) in
    was.1 ∙ ap Some (same_Some was.0 other (sym (at_still segments o k was.0 was.1) ∙ there))

module _ {X : Type 0} where
  pub first_turn : (window : ℕ) → IsInTurn {X = X} (opening window) 0
  first_turn window = record { drawn = refl; all = λ ticket job less e. absurd (omega (arith, less)); only = λ job h. absurd h.1 }

  module _ (m : Rules X) (t : Truth X) (w : WorldState X) (n : ℕ) (job : JobName) (x : X) (sound : IsSound m t w) (turn : IsInTurn w n) (e : job_at w.segments n ≡ Some job) where
    turn_ready : IsReady m (after m w Draw) job
    turn_ready =
        record {
          drawn = (n, (let d = turn.drawn in omega (arith, d)), e);
          unfinished = λ done. let b = turn.only job done in let same = one_ticket w.segments sound.order b.0 n job b.2 e in let l = b.1 in absurd (omega (arith, l, same));
          needs = λ need x. let b = sound.smaller n job need e x in turn.all b.0 need b.1 b.2;
        }

    next_turn : IsInTurn (after m (after m w Draw) (Finish job x (published m job x))) (n + 1)
    next_turn =
        record {
          drawn = ap (λ k. k + 1) turn.drawn;
          all = λ ticket other less there.
              let old = stood w.segments (published m job x) n ticket job other e (omega (arith, less)) there in
              ⊎_elim
              (λ (s : ticket ≡ n). finished_now (record { job = job; result = x }) w.finished other (same_Some job other (sym e ∙ subst (λ i. job_at w.segments i ≡ Some other) s old)))
              (λ (l : ticket < n). finished_more (record { job = job; result = x }) w.finished other (turn.all ticket other l old))
              (eq-or-lt_of_le (let z : ticket ≤ n = omega (arith, less) in z));
          only = λ other done.
              ⊎_elim
              (λ (s : job ≡ other). (n, (let z : n < n + 1 = omega arith in z), at_still w.segments (published m job x) n other (e ∙ ap Some s)))
              (λ (d : IsFinished w.finished other). still_below w.segments (published m job x) n (n + 1) other (omega arith) (turn.only other d))
              (finished_either (record { job = job; result = x }) w.finished other done);
        }

    pub in_turn : Does m (after m w Draw) job x → IsAllowed m (after m w Draw) (Finish job x (published m job x)) × IsInTurn (after m (after m w Draw) (Finish job x (published m job x))) (n + 1)
    in_turn does = ((turn_ready, does, refl), next_turn)
