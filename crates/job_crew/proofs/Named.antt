-- What holds of each job that is named.
use Rattle.std.proofs.Common.{◌≡◌, ℕ, ◌<◌, ◌⊎◌, ⊎_elim, List, [], ◌∷◌, length, get_or, Option, None, sym, subst, arith}
use Rattle.vp9_types.specs.declared.job.JobName.{JobName}
use Rattle.vp9_types.specs.declared.job.JobName.TheVariants.{Column, Rows, Filter}
use Rattle.vp9_types.specs.declared.job.BandSpan.{BandSpan}
use Rattle.job_order.specs.declared.segment.Segment.{Segment}
use Rattle.job_order.specs.declared.needs.JobSpan.{JobSpan}
use Rattle.job_order.specs.declared.needs.JobSpan.TheVariants.{Columns, RowOf}
use Rattle.job_order.specs.declared.needs.Needs.{Needs}
use Rattle.job_order.specs.Needs.{IsInSpan, Publishes}
use Rattle.job_order.specs.Code.{IsIn, IsInIf, IsInOne, PublishesOne, Names}

module _ (P : JobName → Type 0) where
  pub columns_in : (f columns : ℕ) → ((c : ℕ) → c < columns → P (Column f c)) → (need : JobName) → IsIn (Columns f columns) need → P need
  columns_in f columns all (Column g c) is = subst (λ i. P (Column i c)) (sym is.0) (all c is.1)
  columns_in f columns all _ is = absurd is

  pub row_in : (f r columns : ℕ) → ((c : ℕ) → c < columns → P (Rows f c r)) → (need : JobName) → IsIn (RowOf f r columns) need → P need
  row_in f r columns all (Rows g c q) is = subst (λ i. P (Rows i c q)) (sym is.0) (subst (λ i. P (Rows f c i)) (sym is.1) (all c is.2))
  row_in f r columns all _ is = absurd is

  jobs_in_two : (jobs : List (Option JobSpan)) → length jobs ≡ 2 → ((need : JobName) → IsInIf (get_or jobs 0 None) need → P need) → ((need : JobName) → IsInIf (get_or jobs 1 None) need → P need)
      → (need : JobName) → IsInOne jobs need → P need
  jobs_in_two [] long a b need x = absurd x
  jobs_in_two (first ∷ []) long a b need x = absurd (omega (arith, long))
  jobs_in_two (first ∷ second ∷ third ∷ more) long a b need x = absurd (omega (arith, long))
  jobs_in_two (first ∷ second ∷ []) long a b need x =
      ⊎_elim (λ (y : IsInIf first need). a need y) (λ (y : IsInIf second need ⊎ ⊥). ⊎_elim (λ (z : IsInIf second need). b need z) (λ (z : ⊥). absurd z) y) x

  module _ (segments : List Segment) where
    abbrev pub AreOut : Option BandSpan → Type 0
    AreOut span = (g band row : ℕ) → IsInSpan span g band → Publishes segments g row band → P (Filter g row)

    out_of_three : (one two three : Option BandSpan) → AreOut one → AreOut two → AreOut three → (need : JobName) → PublishesOne segments (one ∷ two ∷ three ∷ []) need → P need
    out_of_three one two three k l n (Filter g q) p =
        ⊎_elim
        (λ (y : IsInSpan one g p.0). k g p.0 q y p.2)
        (λ (y : IsInSpan two g p.0 ⊎ (IsInSpan three g p.0 ⊎ ⊥)).
        ⊎_elim
        (λ (z : IsInSpan two g p.0). l g p.0 q z p.2)
        (λ (z : IsInSpan three g p.0 ⊎ ⊥). ⊎_elim (λ (v : IsInSpan three g p.0). n g p.0 q v p.2) (λ (v : ⊥). absurd v) z)
        y)
        p.1
    out_of_three one two three k l n _ p = absurd p

    bands_out : (bands : List (Option BandSpan)) → length bands ≡ 3 → AreOut (get_or bands 0 None) → AreOut (get_or bands 1 None) → AreOut (get_or bands 2 None) → (need : JobName)
        → PublishesOne segments bands need → P need
    bands_out [] long k l n need p = absurd (omega (arith, long))
    bands_out (one ∷ []) long k l n need p = absurd (omega (arith, long))
    bands_out (one ∷ two ∷ []) long k l n need p = absurd (omega (arith, long))
    bands_out (one ∷ two ∷ three ∷ four ∷ more) long k l n need p = absurd (omega (arith, long))
    bands_out (one ∷ two ∷ three ∷ []) long k l n need p = out_of_three one two three k l n need p

    pub each_named : (needs : Needs) → length needs.jobs ≡ 2 → length needs.bands ≡ 3 → ((need : JobName) → IsInIf (get_or needs.jobs 0 None) need → P need)
        → ((need : JobName) → IsInIf (get_or needs.jobs 1 None) need → P need) → AreOut (get_or needs.bands 0 None) → AreOut (get_or needs.bands 1 None) → AreOut (get_or needs.bands 2 None)
        → (need : JobName) → Names segments needs need → P need
    each_named needs two three a b k l n need x =
        ⊎_elim (λ (y : IsInOne needs.jobs need). jobs_in_two needs.jobs two a b need y) (λ (y : PublishesOne segments needs.bands need). bands_out needs.bands three k l n need y) x
