-- Later events change no result.
use Rattle.std.proofs.Common.{◌≡◌, ℕ, ◌≤◌, inr, refl, sym, ◌∙◌, ap, subst, List, [], ◌∷◌, ◌++◌, append-nil}
use Rattle.vp9_types.specs.declared.job.JobName.{JobName}
use Rattle.vp9_types.specs.declared.job.JobName.TheVariants.{Head, Column, Close, Rows, Filter, Write, End}
use Rattle.job_order.specs.declared.event.Event.{Event}
use Rattle.job_order.specs.declared.event.Event.TheVariants.{Draw, Finish, Announce, Stop}
use Rattle.job_order.specs.Worlds.{Rules, WorldState, HasResult, IsReady, Does, IsAllowed, AreAllowed, IsReached, opening, after, run}
use Rattle.job_order.specs.Truths.{Truth, AreTrue}
use Rattle.job_order.specs.Sound.{IsSound, HasFailed, written, put_by}
use Rattle.job_order.proofs.Counts.{write_turn}
use Rattle.job_order.proofs.Texts.{Refused, any_failed, handed_on}
use Rattle.job_order.proofs.Keeps.{Kept, kept_first, kept_after, kept_all, all_sound, same_window}

module _ {X : Type 0} (m : Rules X) where
  stays_after : (w : WorldState X) (e : Event X) (job : JobName) (x : X) → HasResult w.finished job x → HasResult (after m w e).finished job x
  stays_after w Draw job x h = h
  stays_after w (Finish other y publishes) job x h = inr h
  stays_after w (Announce f band) job x h = h
  stays_after w Stop job x h = h

  pub stays : (w : WorldState X) (events : List (Event X)) (job : JobName) (x : X) → HasResult w.finished job x → HasResult (run m w events).finished job x
  stays w [] job x h = h
  stays w (e ∷ events) job x h = stays (after m w e) events job x (stays_after w e job x h)

  still_failed : (w : WorldState X) (e : Event X) → HasFailed m w.finished → HasFailed m (after m w e).finished
  still_failed w e h = (h.0, h.1, stays_after w e (Write h.0) h.1 h.2, h.3)

  -- one world after another
  run_then : (w : WorldState X) (events : List (Event X)) (e : Event X) → run m w (events ++ e ∷ []) ≡ after m (run m w events) e
  run_then w [] e = refl
  run_then w (first ∷ events) e = run_then (after m w first) events e

  allowed_then : (w : WorldState X) (events : List (Event X)) (e : Event X) → AreAllowed m w events → IsAllowed m (run m w events) e → AreAllowed m w (events ++ e ∷ [])
  allowed_then w [] e are is = (is, tt)
  allowed_then w (first ∷ events) e are is = (are.0, allowed_then (after m w first) events e are.1 is)

  pub reached_first : (window : ℕ) → IsReached m window (opening window)
  reached_first window = ([], tt, refl)

  pub reached_next : (window : ℕ) (w : WorldState X) (e : Event X) → IsReached m window w → IsAllowed m w e → IsReached m window (after m w e)
  reached_next window w e r is =
      (r.0 ++ e ∷ [], allowed_then (opening window) r.0 e r.1 (subst (λ v. IsAllowed m v e) r.2 is), ap (λ v. after m v e) r.2 ∙ sym (run_then (opening window) r.0 e))

  module _ (t : Truth X) (ok : AreTrue m t) where
    puts_none : (w : WorldState X) (k : Kept m t w) → HasFailed m w.finished → (job : JobName) (x : X) → IsReady m w job → Does m w job x → put_by m job x ≡ []
    puts_none w k failed (Write f) x r d =
        let is = write_turn m w f r k.counts in
        (handed_on m t w f x ok k.once d (subst (λ n. Refused m t w.finished n) (sym is) (any_failed m t w.finished k.counts.writes k.texts failed))).1
    puts_none w k failed (Head f) x r d = refl
    puts_none w k failed (Column f c) x r d = refl
    puts_none w k failed (Close f) x r d = refl
    puts_none w k failed (Rows f c q) x r d = refl
    puts_none w k failed (Filter f q) x r d = refl
    puts_none w k failed (End f) x r d = refl

    same_after : (w : WorldState X) (k : Kept m t w) (e : Event X) → IsAllowed m w e → HasFailed m w.finished → written m (after m w e).finished ≡ written m w.finished
    same_after w k Draw a failed = refl
    same_after w k (Finish job x publishes) a failed = ap (λ p. written m w.finished ++ p) (puts_none w k failed job x a.0 a.1) ∙ append-nil (written m w.finished)
    same_after w k (Announce f band) a failed = refl
    same_after w k Stop a failed = refl

    same_later : (w : WorldState X) (events : List (Event X)) → 2 ≤ w.window → Kept m t w → HasFailed m w.finished → AreAllowed m w events → written m (run m w events).finished ≡ written m w.finished
    same_later w [] wide k failed a = refl
    same_later w (e ∷ events) wide k failed a =
        same_later (after m w e) events (subst (λ n. 2 ≤ n) (sym (same_window m t w e)) wide) (kept_after m t w ok wide k e a.0) (still_failed w e failed) a.1
        ∙ same_after w k e a.0 failed

    pub grows_no_more : (window : ℕ) (events later : List (Event X)) → 2 ≤ window → AreAllowed m (opening window) events → HasFailed m (run m (opening window) events).finished
        → AreAllowed m (run m (opening window) events) later → written m (run m (run m (opening window) events) later).finished ≡ written m (run m (opening window) events).finished
    grows_no_more window events later wide a failed b =
        let k = kept_all m t (opening window) events ok wide (kept_first m t window) a in same_later (run m (opening window) events) later k.1 k.0 failed b

    pub reached_sound : (window : ℕ) (w : WorldState X) → 2 ≤ window → IsReached m window w → IsSound m t w
    reached_sound window w wide r = subst (λ v. IsSound m t v) (sym r.2) (all_sound m t window r.0 wide ok r.1)
