-- Each event that is allowed keeps what makes a world sound.
use Rattle.std.proofs.Common.{◌≡◌, ℕ, suc, ◌+◌, ◌≤◌, ◌⊎◌, inl, inr, ⊎_elim, refl, sym, ◌∙◌, ap, subst, List, [], ◌∷◌, Option, Some, None, arith, le_refl, All, Contains}
use Rattle.std.proofs.lemmas.List.Elements.{All-nil, All-cons, All-weaker}
use Rattle.vp9_types.specs.declared.job.JobName.{JobName}
use Rattle.vp9_types.specs.declared.job.JobName.TheVariants.{Head, Column, Close, Rows, Filter, Write, End}
use Rattle.job_order.specs.declared.segment.Segment.{Segment}
use Rattle.job_order.specs.declared.segment.Segment.TheVariants.{Opening, Build, Last}
use Rattle.job_order.specs.declared.segment.Shown.{Shown}
use Rattle.job_order.specs.declared.event.Done.{Done}
use Rattle.job_order.specs.declared.event.BandName.{BandName}
use Rattle.job_order.specs.declared.event.Event.{Event}
use Rattle.job_order.specs.declared.event.Event.TheVariants.{Draw, Finish, Announce, Stop}
use Rattle.job_order.specs.JobSegments.{IsBelow, StandsAt, InOrder}
use Rattle.job_order.specs.Needs.{IsNeed, Publishes}
use Rattle.job_order.specs.Worlds.{Rules, Building, WorldState, HasResult, IsFinished, IsReady, IsDrawn, Does, IsBehind, IsAllowed, AreAllowed, CanAnnounce, opening, after, run, published, and_published, segments_of}
use Rattle.job_order.specs.Truths.{Truth, AreTrue, IsFront}
use Rattle.job_order.specs.Sound.{AreOnce, AreAfterNeeds, IsSound, HasFailed, written, texts_below, put_by}
use Rattle.job_order.proofs.Places.{only}
use Rattle.job_order.proofs.Smaller.{smaller}
use Rattle.job_order.proofs.Finished.{UpTo, up_same, up_next, same_count, finished_more}
use Rattle.job_order.proofs.Grows.{still_below, still_publishes}
use Rattle.job_order.proofs.Counts.{Counts, counts_after, order_after, write_turn}
use Rattle.job_order.proofs.Texts.{TextsUpTo, AllPut, Refused, texts_other, texts_write, true_false}
use Rattle.job_order.proofs.Readable.{few_readable}
use Rattle.job_order.proofs.Bands.{bands_there, early}

-- a finished filter published the band
abbrev pub IsOut : {X : Type 0} → List Segment → List (Done X) → BandName → Type 0
IsOut segments finished band = (row : ℕ) × IsFinished finished (Filter band.frame row) × Publishes segments band.frame row band.band

pub record Kept {X : Type 0} (m : Rules X) (t : Truth X) (w : WorldState X) : Type 0 where
  pub counts : Counts {X = X} w.window w.finished w.segments
  pub order : InOrder w.segments
  pub segments : w.segments ≡ segments_of m w.finished
  pub drawn : (job : JobName) (x : X) → HasResult w.finished job x → IsDrawn w job
  pub once : AreOnce w.finished
  pub after_needs : AreAfterNeeds m w.window w.finished
  pub right : (job : JobName) (x : X) → HasResult w.finished job x → t.right job x
  pub texts : TextsUpTo m t w.finished counts.writes
  pub announced : All (λ band. IsOut w.segments w.finished band) w.announced

pub opening_order : InOrder (Opening ∷ [])
opening_order =
    record {
      places = λ place s e. let one = only Opening s place e in subst (λ x. StandsAt place x) one.1 one.0;
      last = λ place f e. let one = only Opening (Last f) place e in absurd (not_last f one.1);
      shown = λ f columns rows shown p. let one = only Opening (Build f columns rows (Some shown)) p.0 p.1 in absurd (not_build f columns rows (Some shown) one.1);
    }
  where
    not_last : (f : ℕ) → Opening ≡ Last f → ⊥
    not_last f e = cc

    not_build : (f columns rows : ℕ) (shown : Option Shown) → Opening ≡ Build f columns rows shown → ⊥
    not_build f columns rows shown e = cc

module _ {X : Type 0} (m : Rules X) (t : Truth X) where
  none_done : (kind : ℕ → JobName) → UpTo {X = X} kind [] 0
  none_done kind = record { below = λ f h. absurd h.1; all = λ f less. absurd (omega (arith, less)) }

  pub kept_first : (window : ℕ) → Kept m t (opening window)
  kept_first window =
      record {
        counts = record { heads = 0; closes = 0; writes = 0; head = none_done Head; close = none_done Close; write = none_done Write; low = omega arith; high = omega arith; room = omega arith; long = refl };
        order = opening_order;
        segments = refl;
        drawn = λ job x h. absurd h;
        once = tt;
        after_needs = tt;
        right = λ job x h. absurd h;
        texts = inl (record { none = λ f x h. absurd h; whole = refl });
        announced = All-nil (λ (band : BandName). IsOut (Opening ∷ []) [] band);
      }

  module _ (w : WorldState X) (ok : AreTrue m t) (wide : 2 ≤ w.window) (k : Kept m t w) where
    kept_draw : Kept m t (after m w Draw)
    kept_draw =
        record {
          counts = k.counts;
          order = k.order;
          segments = k.segments;
          once = k.once;
          after_needs = k.after_needs;
          right = k.right;
          texts = k.texts;
          announced = k.announced;
          drawn = λ job x h. still_below w.segments None w.drawn (w.drawn + 1) job (omega arith) (k.drawn job x h);
        }

    kept_announce : (f band : ℕ) → CanAnnounce w f band → Kept m t (after m w (Announce f band))
    kept_announce f band a =
        record {
          counts = k.counts;
          order = k.order;
          segments = k.segments;
          once = k.once;
          after_needs = k.after_needs;
          right = k.right;
          texts = k.texts;
          drawn = k.drawn;
          announced = All-cons (λ (b : BandName). IsOut w.segments w.finished b) (record { frame = f; band = band }) w.announced a.is_published k.announced;
        }

    kept_stop : Kept m t (after m w Stop)
    kept_stop =
        record {
          counts = k.counts;
          order = k.order;
          segments = k.segments;
          once = k.once;
          after_needs = k.after_needs;
          right = k.right;
          texts = k.texts;
          drawn = k.drawn;
          announced = k.announced;
        }

    pub right_now : (job : JobName) (x : X) → Does m w job x → t.right job x
    right_now job x d =
        ok.right job d.0 x
        (All-weaker (λ (y : Done X). HasResult w.finished y.job y.result × IsBehind m w job y.job) (λ y. t.right y.job y.result) (λ y h. k.right y.job y.result h.0) d.0 d.1) d.2

    abbrev pub CountsNext : (job : JobName) (x : X) → Type 0
    CountsNext job x = Counts {X = X} w.window (record { job = job; result = x } ∷ w.finished) (and_published w.segments (published m job x))

    texts_kept : (job : JobName) (x : X) → (c : CountsNext job x) → put_by m job x ≡ [] → ((f : ℕ) → job ≡ Write f → ⊥) → TextsUpTo m t (record { job = job; result = x } ∷ w.finished) c.writes
    texts_kept job x c none apart =
        subst (λ n. TextsUpTo m t (record { job = job; result = x } ∷ w.finished) n)
        (same_count Write (record { job = job; result = x } ∷ w.finished) k.counts.writes c.writes (up_same Write (record { job = job; result = x }) w.finished k.counts.writes apart k.counts.write) c.write)
        (texts_other m t job x w.finished k.counts.writes none apart k.texts)

    texts_after : (job : JobName) (x : X) → IsReady m w job → Does m w job x → (c : CountsNext job x) → TextsUpTo m t (record { job = job; result = x } ∷ w.finished) c.writes
    texts_after (Head f) x r d c = texts_kept (Head f) x c refl (λ g e. cc)
    texts_after (Column f i) x r d c = texts_kept (Column f i) x c refl (λ g e. cc)
    texts_after (Close f) x r d c = texts_kept (Close f) x c refl (λ g e. cc)
    texts_after (Rows f i q) x r d c = texts_kept (Rows f i q) x c refl (λ g e. cc)
    texts_after (Filter f q) x r d c = texts_kept (Filter f q) x c refl (λ g e. cc)
    texts_after (Write f) x r d c =
        let is = write_turn m w f r k.counts in
        subst (λ n. TextsUpTo m t (record { job = Write f; result = x } ∷ w.finished) n)
        (same_count Write (record { job = Write f; result = x } ∷ w.finished) (suc k.counts.writes) c.writes
        (up_next Write (record { job = Write f; result = x }) w.finished k.counts.writes (λ g e. let z : g ≡ f = cc in z ∙ is) (ap Write is) k.counts.write) c.write)
        (texts_write m t w f k.counts.writes x ok k.once (right_now (Write f) x d) d is k.texts)
    texts_after (End f) x r d c = texts_kept (End f) x c refl (λ g e. cc)

    small_shown : (x : X) (f : ℕ) (b : Building) (shown : Shown) → t.right (Close f) x → m.builds x ≡ Some b → b.shown ≡ Some shown → shown.frame ≤ f
    small_shown x f b shown right says shows =
        ⊎_elim (λ (e : shown.frame ≡ f). let z : shown.frame ≤ f = omega (arith, e) in z)
        (λ (e : Contains (t.slots f) shown.frame). let l = ok.slots.earlier f shown.frame e in let z : shown.frame ≤ f = omega (arith, l) in z)
        ((ok.builds f x b right says).1 shown shows).0

    kept_finish : (job : JobName) (x : X) (publishes : Option Segment) → IsReady m w job → Does m w job x → Kept m t (after m w (Finish job x publishes))
    kept_finish job x publishes r d =
        let o = published m job x in
        let right = right_now job x d in
        record {
          counts = counts_after m w wide job x r k.counts;
          order = order_after m w job x (λ f b shown is says shows. small_shown x f b shown (subst (λ j. t.right j x) is right) says shows) r k.counts k.order;
          segments = ap (λ s. and_published s (published m job x)) k.segments;
          drawn = λ other y h.
              ⊎_elim
              (λ (e : (job ≡ other) × (x ≡ y)). subst (λ j. IsBelow (and_published w.segments (published m job x)) w.drawn j) e.0 (still_below w.segments (published m job x) w.drawn w.drawn job (le_refl w.drawn) r.drawn))
              (λ (e : HasResult w.finished other y). still_below w.segments (published m job x) w.drawn w.drawn other (le_refl w.drawn) (k.drawn other y e))
              h;
          once = (r.unfinished, k.once);
          after_needs = (λ need n. r.needs need (subst (λ s. IsNeed s w.window (m.reads job w.finished) job need) (sym k.segments) n), k.after_needs);
          right = λ other y h.
              ⊎_elim
              (λ (e : (job ≡ other) × (x ≡ y)). subst (λ j. t.right j y) e.0 (subst (λ z. t.right job z) e.1 right))
              (λ (e : HasResult w.finished other y). k.right other y e)
              h;
          texts = texts_after job x r d (counts_after m w wide job x r k.counts);
          announced = All-weaker (λ (b : BandName). IsOut w.segments w.finished b) (λ b. IsOut (and_published w.segments (published m job x)) (record { job = job; result = x } ∷ w.finished) b)
              (λ b p. (p.0, (finished_more (record { job = job; result = x }) w.finished (Filter b.frame p.0) p.1), still_publishes w.segments (published m job x) b.frame p.0 b.band p.2)) w.announced k.announced;
        }

    pub kept_after : (e : Event X) → IsAllowed m w e → Kept m t (after m w e)
    kept_after Draw a = kept_draw
    kept_after (Finish job x publishes) a = kept_finish job x publishes a.0 a.1
    kept_after (Announce f band) a = kept_announce f band a
    kept_after Stop a = kept_stop

    all_texts : (¬ HasFailed m w.finished × (written m w.finished ≡ texts_below t.text k.counts.writes)) ⊎ (HasFailed m w.finished × IsFront (written m w.finished) (texts_below t.text k.counts.writes))
    all_texts =
        ⊎_elim
        (λ (a : AllPut m t w.finished k.counts.writes). inl ((λ h. true_false (m.fails h.1) h.3 (a.none h.0 h.1 h.2)), a.whole))
        (λ (r : Refused m t w.finished k.counts.writes). inr ((r.f, r.x, r.there, r.failed), r.front))
        k.texts

    pub sound : IsSound m t w
    sound =
        record {
          drawn = k.drawn;
          once = k.once;
          after_needs = k.after_needs;
          segments = k.segments;
          order = k.order;
          right = k.right;
          announced = k.announced;
          texts = (k.counts.writes, k.counts.write.all, k.counts.write.below, all_texts);
          readable = few_readable m t w wide ok.slots k.counts;
          smaller = λ ticket job need e n. smaller w.segments w.window (m.reads job w.finished) wide k.order ticket job need (early m t w ok k.order k.segments k.right job) e n;
          bands = bands_there m t w ok k.order k.segments k.right;
        }

  pub same_window : (w : WorldState X) (e : Event X) → (after m w e).window ≡ w.window
  same_window w Draw = refl
  same_window w (Finish job x publishes) = refl
  same_window w (Announce f band) = refl
  same_window w Stop = refl

  pub kept_all : (w : WorldState X) (events : List (Event X)) → AreTrue m t → 2 ≤ w.window → Kept m t w → AreAllowed m w events → Kept m t (run m w events) × (2 ≤ (run m w events).window)
  kept_all w [] ok wide k a = (k, wide)
  kept_all w (e ∷ events) ok wide k a =
      kept_all (after m w e) events ok (subst (λ n. 2 ≤ n) (sym (same_window w e)) wide) (kept_after w ok wide k e a.0) a.1

  pub all_sound : (window : ℕ) (events : List (Event X)) → 2 ≤ window → AreTrue m t → AreAllowed m (opening window) events → IsSound m t (run m (opening window) events)
  all_sound window events wide ok a =
      let k = kept_all (opening window) events ok wide (kept_first window) a in sound (run m (opening window) events) ok k.1 k.0
