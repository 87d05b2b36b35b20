-- Finished jobs and their results.
use Rattle.std.proofs.Common.{◌≡◌, ℕ, suc, ◌<◌, ◌≤◌, ◌⊎◌, inl, inr, ⊎_elim, refl, sym, ◌∙◌, ap, subst, List, [], ◌∷◌, arith, eq-or-lt_of_le}
use Rattle.std.proofs.lemmas.Bool.{cases_lt}
use Rattle.vp9_types.specs.declared.job.JobName.{JobName}
use Rattle.job_order.specs.declared.event.Done.{Done}
use Rattle.job_order.specs.Worlds.{HasResult, IsFinished}
use Rattle.job_order.specs.Sound.{AreOnce}

module _ {X : Type 0} where
  pub finished_either : (d : Done X) (earlier : List (Done X)) (job : JobName) → IsFinished (d ∷ earlier) job → (d.job ≡ job) ⊎ IsFinished earlier job
  finished_either d earlier job h = ⊎_elim (λ (e : (d.job ≡ job) × (d.result ≡ h.0)). inl e.0) (λ (e : HasResult earlier job h.0). inr (h.0, e)) h.1

  pub finished_more : (d : Done X) (earlier : List (Done X)) (job : JobName) → IsFinished earlier job → IsFinished (d ∷ earlier) job
  finished_more d earlier job h = (h.0, inr h.1)

  pub finished_now : (d : Done X) (earlier : List (Done X)) (job : JobName) → d.job ≡ job → IsFinished (d ∷ earlier) job
  finished_now d earlier job is = (d.result, inl (is, refl))

  -- a job that was finished once has one result
  pub one_result : (finished : List (Done X)) (job : JobName) (x y : X) → AreOnce finished → HasResult finished job x → HasResult finished job y → x ≡ y
  one_result [] job x y once a b = absurd a
  one_result (d ∷ earlier) job x y once a b =
      ⊎_elim
      (λ (p : (d.job ≡ job) × (d.result ≡ x)).
      ⊎_elim
      (λ (q : (d.job ≡ job) × (d.result ≡ y)). sym p.1 ∙ q.1)
      (λ (q : HasResult earlier job y). absurd (once.0 (y, subst (λ j. HasResult earlier j y) (sym p.0) q)))
      b)
      (λ (p : HasResult earlier job x).
      ⊎_elim
      (λ (q : (d.job ≡ job) × (d.result ≡ y)). absurd (once.0 (x, subst (λ j. HasResult earlier j x) (sym q.0) p)))
      (λ (q : HasResult earlier job y). one_result earlier job x y once.1 p q)
      b)
      a

  -- The jobs of a kind are finished in the order of their frames, of the first n frames.
  pub record UpTo (kind : ℕ → JobName) (finished : List (Done X)) (n : ℕ) : Type 0 where
    pub below : (f : ℕ) → IsFinished finished (kind f) → f < n
    pub all : (f : ℕ) → f < n → IsFinished finished (kind f)

  pub up_same : (kind : ℕ → JobName) (d : Done X) (earlier : List (Done X)) (n : ℕ) → ((f : ℕ) → d.job ≡ kind f → ⊥) → UpTo kind earlier n → UpTo kind (d ∷ earlier) n
  up_same kind d earlier n apart h =
      record {
        below = λ f done. ⊎_elim (λ (e : d.job ≡ kind f). absurd (apart f e)) (λ (e : IsFinished earlier (kind f)). h.below f e) (finished_either d earlier (kind f) done);
        all = λ f less. finished_more d earlier (kind f) (h.all f less);
      }

  pub up_next : (kind : ℕ → JobName) (d : Done X) (earlier : List (Done X)) (n : ℕ) → ((f : ℕ) → d.job ≡ kind f → f ≡ n) → d.job ≡ kind n → UpTo kind earlier n → UpTo kind (d ∷ earlier) (suc n)
  up_next kind d earlier n same is h =
      record {
        below = λ f done.
            ⊎_elim (λ (e : d.job ≡ kind f). let s = same f e in let z : f < suc n = omega (arith, s) in z) (λ (e : IsFinished earlier (kind f)). let l = h.below f e in let z : f < suc n = omega (arith, l) in z)
            (finished_either d earlier (kind f) done);
        all = λ f less.
            ⊎_elim (λ (e : f ≡ n). finished_now d earlier (kind f) (is ∙ ap kind (sym e))) (λ (e : f < n). finished_more d earlier (kind f) (h.all f e))
            (eq-or-lt_of_le (let z : f ≤ n = omega (arith, less) in z));
      }

  pub same_count : (kind : ℕ → JobName) (finished : List (Done X)) (n k : ℕ) → UpTo kind finished n → UpTo kind finished k → n ≡ k
  same_count kind finished n k a b =
      ⊎_elim
      (λ (less : n < k). let l = a.below n (b.all n less) in absurd (omega (arith, l)))
      (λ (le : k ≤ n).
      ⊎_elim (λ (e : k ≡ n). sym e) (λ (less : k < n). let l = b.below k (a.all k less) in absurd (omega (arith, l))) (eq-or-lt_of_le le))
      (cases_lt n k)
