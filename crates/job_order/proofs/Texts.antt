-- What the writes put.
use Rattle.std.proofs.Common.{◌≡◌, ℕ, suc, ◌+◌, ◌⊎◌, inl, inr, ⊎_elim, refl, sym, ◌∙◌, ap, subst, Bool, true, false, List, [], ◌∷◌, ◌++◌, arith, append_assoc, append-nil}
use Rattle.std.proofs.lemmas.List.Elements.{All-contains}
use Rattle.vp9_types.specs.declared.job.JobName.{JobName}
use Rattle.vp9_types.specs.declared.job.JobName.TheVariants.{Write}
use Rattle.job_order.specs.declared.event.Done.{Done}
use Rattle.job_order.specs.Worlds.{Rules, WorldState, HasResult, Does, IsBehind}
use Rattle.job_order.specs.Truths.{Truth, AreTrue, IsFront, IsRightText}
use Rattle.job_order.specs.Sound.{AreOnce, texts_below, put_by, written, HasFailed}
use Rattle.job_order.proofs.Finished.{one_result}

-- no write was refused, and the texts are whole
pub record AllPut {X : Type 0} (m : Rules X) (t : Truth X) (finished : List (Done X)) (k : ℕ) : Type 0 where
  pub none : (f : ℕ) (x : X) → HasResult finished (Write f) x → m.fails x ≡ false
  pub whole : written m finished ≡ texts_below t.text k

-- the last write was refused
pub record Refused {X : Type 0} (m : Rules X) (t : Truth X) (finished : List (Done X)) (k : ℕ) : Type 0 where
  pub f : ℕ
  pub x : X
  pub last : k ≡ suc f
  pub there : HasResult finished (Write f) x
  pub failed : m.fails x ≡ true
  pub front : IsFront (written m finished) (texts_below t.text k)

pub true_false : (b : Bool) → b ≡ true → b ≡ false → ⊥
true_false b p q = cc

module _ {X : Type 0} (m : Rules X) (t : Truth X) where
  abbrev pub TextsUpTo : List (Done X) → ℕ → Type 0
  TextsUpTo finished k = AllPut m t finished k ⊎ Refused m t finished k

  pub any_failed : (finished : List (Done X)) (k : ℕ) → TextsUpTo finished k → HasFailed m finished → Refused m t finished k
  any_failed finished k h failed =
      ⊎_elim (λ (a : AllPut m t finished k). absurd (true_false (m.fails failed.1) failed.3 (a.none failed.0 failed.1 failed.2))) (λ (r : Refused m t finished k). r) h

  -- another job puts nothing
  pub texts_other : (job : JobName) (x : X) (finished : List (Done X)) (k : ℕ) → put_by m job x ≡ [] → ((f : ℕ) → job ≡ Write f → ⊥) → TextsUpTo finished k
      → TextsUpTo (record { job = job; result = x } ∷ finished) k
  texts_other job x finished k none apart h =
      let same : written m finished ++ put_by m job x ≡ written m finished = ap (λ p. written m finished ++ p) none ∙ append-nil (written m finished) in
      ⊎_elim
      (λ (a : AllPut m t finished k).
      inl (record {
        none = λ f y e. ⊎_elim (λ (p : (job ≡ Write f) × (x ≡ y)). absurd (apart f p.0)) (λ (p : HasResult finished (Write f) y). a.none f y p) e;
        whole = same ∙ a.whole;
      }))
      (λ (r : Refused m t finished k).
      inr (record { f = r.f; x = r.x; last = r.last; there = inr r.there; failed = r.failed; front = (r.front.0, ap (λ p. p ++ r.front.0) same ∙ r.front.1) }))
      h

  put_whole : (f : ℕ) (x : X) (finished : List (Done X)) (b : Bool) → m.fails x ≡ b → IsRightText b (m.puts f x) (t.text f) → AllPut m t finished f
      → TextsUpTo (record { job = Write f; result = x } ∷ finished) (suc f)
  put_whole f x finished false is text a =
      inl (record {
        none = λ g y e. ⊎_elim (λ (p : (Write f ≡ Write g) × (x ≡ y)). ap m.fails (sym p.1) ∙ is) (λ (p : HasResult finished (Write g) y). a.none g y p) e;
        whole = ap (λ p. p ++ m.puts f x) a.whole ∙ ap (λ p. texts_below t.text f ++ p) text;
      })
  put_whole f x finished true is text a =
      inr (record {
        f = f;
        x = x;
        last = refl;
        there = inl (refl, refl);
        failed = is;
        front = (text.0, append_assoc (written m finished) (m.puts f x) text.0 ∙ ap (λ p. p ++ (m.puts f x ++ text.0)) a.whole ∙ ap (λ p. texts_below t.text f ++ p) text.1);
      })

  put_nothing : (f : ℕ) (x : X) (finished : List (Done X)) → m.fails x ≡ true → m.puts f x ≡ [] → Refused m t finished f → TextsUpTo (record { job = Write f; result = x } ∷ finished) (suc f)
  put_nothing f x finished is none r =
      let same : written m finished ++ m.puts f x ≡ written m finished = ap (λ p. written m finished ++ p) none ∙ append-nil (written m finished) in
      inr (record {
        f = f;
        x = x;
        last = refl;
        there = inl (refl, refl);
        failed = is;
        front = (r.front.0 ++ t.text f, sym (append_assoc (written m finished ++ m.puts f x) r.front.0 (t.text f)) ∙ ap (λ p. p ++ t.text f) (ap (λ p. p ++ r.front.0) same ∙ r.front.1));
      })

  -- what a write does after a refused one
  pub handed_on : (w : WorldState X) (f : ℕ) (y : X) → AreTrue m t → AreOnce w.finished → Does m w (Write f) y → Refused m t w.finished f → (m.fails y ≡ true) × (m.puts f y ≡ [])
  handed_on w f y ok once does r =
      let is : f ≡ r.f + 1 = let l = r.last in omega (arith, l) in
      let before = ok.hands_on r.f does.0 y (subst (λ i. m.does (Write i) does.0 y) is does.2) in
      let has = All-contains (λ d. HasResult w.finished d.job d.result × IsBehind m w (Write f) d.job) does.0 (record { job = Write r.f; result = before.0 }) does.1 before.1 in
      let same = one_result w.finished (Write r.f) before.0 r.x once has.0 r.there in
      let handed = before.2 (ap m.fails same ∙ r.failed) in
      (handed.0, ap (λ i. m.puts i y) is ∙ handed.1)

  pub texts_write : (w : WorldState X) (f k : ℕ) (x : X) → AreTrue m t → AreOnce w.finished → t.right (Write f) x → Does m w (Write f) x → f ≡ k → TextsUpTo w.finished k
      → TextsUpTo (record { job = Write f; result = x } ∷ w.finished) (suc k)
  texts_write w f k x ok once right does is h =
      subst (λ i. TextsUpTo (record { job = Write f; result = x } ∷ w.finished) (suc i)) is
      (⊎_elim
      (λ (a : AllPut m t w.finished f). put_whole f x w.finished (m.fails x) refl (ok.text f x right) a)
      (λ (r : Refused m t w.finished f). let next = handed_on w f x ok once does r in put_nothing f x w.finished next.0 next.1 r)
      (subst (λ i. TextsUpTo w.finished i) (sym is) h))
