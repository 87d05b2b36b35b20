-- The needs of a job of a superblock row stay, once its frame's close is finished.
use Rattle.std.proofs.Common.{◌≡◌, ◌↔◌, ℕ, ◌+◌, ◌*◌, ◌<◌, ◌≤◌, inl, inr, ⊎_elim, refl, sym, ◌∙◌, subst, List, [], ◌∷◌, length, slice_get, Option, Some, None, arith}
use Rattle.std.proofs.lemmas.Option.{slice_get_within}
use Rattle.vp9_types.specs.declared.job.JobName.{JobName}
use Rattle.vp9_types.specs.declared.job.JobName.TheVariants.{Head, Column, Close, Rows, Filter, Write, End}
use Rattle.vp9_types.specs.declared.job.BandSpan.{BandSpan}
use Rattle.job_order.specs.declared.segment.Segment.{Segment}
use Rattle.job_order.specs.declared.segment.Segment.TheVariants.{Parse, Build}
use Rattle.job_order.specs.declared.event.Event.{Event}
use Rattle.job_order.specs.declared.event.Event.TheVariants.{Draw, Finish, Announce, Stop}
use Rattle.job_order.specs.JobSegments.{InOrder}
use Rattle.job_order.specs.Needs.{HasBand, IsNeed, IsLastRow, Publishes}
use Rattle.job_order.specs.Worlds.{Rules, WorldState, IsFinished, NeedsIn, IsAllowed, AreAllowed, IsReached, opening, after, run, published, and_published}
use Rattle.job_order.specs.Truths.{Truth, AreTrue}
use Rattle.job_order.specs.Sound.{AreSettled}
use Rattle.job_order.proofs.Places.{got_either, IsBehindIn}
use Rattle.job_order.proofs.Homes.{IsBuild, filter_home, close_home}
use Rattle.job_order.proofs.Grows.{still_publishes}
use Rattle.job_order.proofs.Readiness.{filter_listed}
use Rattle.job_order.proofs.Later.{stays}
use Rattle.job_order.proofs.Keeps.{Kept, kept_first, kept_after, kept_all, same_window, sound}

module _ (segments : List Segment) where
  stood : (o : Option Segment) (place : ℕ) (s : Segment) → place < length segments → slice_get (and_published segments o) place ≡ Some s → slice_get segments place ≡ Some s
  stood None place s inside e = e
  stood (Some new) place s inside e =
      ⊎_elim
      (λ (x : slice_get segments place ≡ Some s). x)
      (λ (x : IsBehindIn segments (new ∷ []) place s). absurd (let i = x.is in omega (arith, i, inside)))
      (got_either segments (new ∷ []) place s e)

  module _ (h : InOrder segments) (o : Option Segment) (k : InOrder (and_published segments o)) where
    published_before : (g row band : ℕ) → 2 * g + 2 < length segments → Publishes (and_published segments o) g row band → Publishes segments g row band
    published_before g row band inside p =
        let at = filter_home (and_published segments o) k p.0.0 g row p.0.1 in
        let there = stood o (2 * g + 2) (Build g at.columns at.rows at.shown) inside at.there in (
          filter_listed segments h g at.columns at.rows row at.shown there at.row,
          ⊎_elim inl
              (λ (x : (row ≡ band) × IsLastRow (and_published segments o) g row).
              let last = x.1 in
              let moved : IsBuild (and_published segments o) g last.0 (row + 1) last.1 =
              subst (λ i. slice_get (and_published segments o) i ≡ Some (Build g last.0 (row + 1) last.1)) (k.places last.2.0 (Build g last.0 (row + 1) last.1) last.2.1) last.2.1 in
              inr (x.0, (last.0, last.1, (2 * g + 2, stood o (2 * g + 2) (Build g last.0 (row + 1) last.1) inside moved))))
              p.1,
        )

    same_needs : (window f c r : ℕ) (reads : List (Option BandSpan)) → 2 * f + 1 < length segments → ((g band : ℕ) → HasBand reads g band → g < f) → (need : JobName)
        → IsNeed (and_published segments o) window reads (Rows f c r) need ↔ IsNeed segments window reads (Rows f c r) need
    same_needs window f c r reads long early (Head g) = (λ x. x, λ x. x)
    same_needs window f c r reads long early (Column g d) = (λ x. x, λ x. x)
    same_needs window f c r reads long early (Close g) = (λ x. x, λ x. x)
    same_needs window f c r reads long early (Rows g d q) = (λ x. x, λ x. x)
    same_needs window f c r reads long early (Filter g q) = (
      λ x. (x.0, x.1, published_before g q x.0 (let less = early g x.0 x.1 in omega (arith, less, long)) x.2),
      λ x. (x.0, x.1, still_publishes segments o g q x.0 x.2),
    )
    same_needs window f c r reads long early (Write g) = (λ x. x, λ x. x)
    same_needs window f c r reads long early (End g) = (λ x. x, λ x. x)

module _ {X : Type 0} (m : Rules X) (t : Truth X) (ok : AreTrue m t) (settled : AreSettled m t) (f c r : ℕ) where
  module _ (w : WorldState X) (wide : 2 ≤ w.window) (k : Kept m t w) (done : IsFinished w.finished (Close f)) where
    long : 2 * f + 1 < length w.segments
    long =
        let below = k.drawn (Close f) done.0 done.1 in
        let at = close_home w.segments k.order below.0 f below.2 in slice_get_within w.segments (2 * f + 1) (Parse f at.columns) at.there

    early : (g band : ℕ) → HasBand (m.reads (Rows f c r) w.finished) g band → g < f
    early g band has = ok.slots.earlier f g (ok.reads f c r w.finished g band k.right has).0

    reads_next : (e : Event X) → IsAllowed m w e → m.reads (Rows f c r) (after m w e).finished ≡ m.reads (Rows f c r) w.finished
    reads_next e a = settled w e f c r (sound m t w ok wide k) a done

    needs_next : (e : Event X) → IsAllowed m w e → (need : JobName) → NeedsIn m (after m w e) (Rows f c r) need ↔ NeedsIn m w (Rows f c r) need
    needs_next Draw a need = (λ x. x, λ x. x)
    needs_next (Finish job x publishes) a need =
        subst (λ l. IsNeed (after m w (Finish job x publishes)).segments w.window l (Rows f c r) need ↔ NeedsIn m w (Rows f c r) need) (sym (reads_next (Finish job x publishes) a))
        (same_needs w.segments k.order (published m job x) (kept_after m t w ok wide k (Finish job x publishes) a).order w.window f c r (m.reads (Rows f c r) w.finished) long early need)
    needs_next (Announce g band) a need = (λ x. x, λ x. x)
    needs_next Stop a need = (λ x. x, λ x. x)

  reads_later : (w : WorldState X) (later : List (Event X)) → 2 ≤ w.window → Kept m t w → IsFinished w.finished (Close f) → AreAllowed m w later
      → m.reads (Rows f c r) (run m w later).finished ≡ m.reads (Rows f c r) w.finished
  reads_later w [] wide k done a = refl
  reads_later w (e ∷ later) wide k done a =
      reads_later (after m w e) later (subst (λ n. 2 ≤ n) (sym (same_window m t w e)) wide) (kept_after m t w ok wide k e a.0)
      (done.0, stays m w (e ∷ []) (Close f) done.0 done.1) a.1
      ∙ reads_next w wide k done e a.0

  needs_later : (w : WorldState X) (later : List (Event X)) → 2 ≤ w.window → Kept m t w → IsFinished w.finished (Close f) → AreAllowed m w later → (need : JobName)
      → NeedsIn m (run m w later) (Rows f c r) need ↔ NeedsIn m w (Rows f c r) need
  needs_later w [] wide k done a need = (λ x. x, λ x. x)
  needs_later w (e ∷ later) wide k done a need =
      let next = needs_later (after m w e) later (subst (λ n. 2 ≤ n) (sym (same_window m t w e)) wide) (kept_after m t w ok wide k e a.0)
      (done.0, stays m w (e ∷ []) (Close f) done.0 done.1) a.1 need in
      let step = needs_next w wide k done e a.0 need in
      (λ x. step.0 (next.0 x), λ x. next.1 (step.1 x))

  module _ (window : ℕ) (w : WorldState X) (later : List (Event X)) (wide : 2 ≤ window) (reached : IsReached m window w) (a : AreAllowed m w later) (done : IsFinished w.finished (Close f)) where
    kept : Kept m t w × (2 ≤ w.window)
    kept = subst (λ v. Kept m t v × (2 ≤ v.window)) (sym reached.2) (kept_all m t (opening window) reached.0 ok wide (kept_first m t window) reached.1)

    pub reads_stay : m.reads (Rows f c r) (run m w later).finished ≡ m.reads (Rows f c r) w.finished
    reads_stay = let k = kept in reads_later w later k.1 k.0 done a

    pub needs_stay : (need : JobName) → NeedsIn m (run m w later) (Rows f c r) need ↔ NeedsIn m w (Rows f c r) need
    needs_stay need = let k = kept in needs_later w later k.1 k.0 done a need
