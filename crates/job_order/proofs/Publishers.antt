-- The filter that publishes a band.
use Rattle.std.proofs.Common.{◌≡◌, ℕ, ◌+◌, ◌<◌, ⊎_elim, sym, ◌∙◌, subst, List, slice_get, Option, Some, arith}
use Rattle.vp9_types.specs.declared.job.JobName.TheVariants.{Filter}
use Rattle.job_order.specs.declared.segment.Segment.{Segment}
use Rattle.job_order.specs.declared.segment.Segment.TheVariants.{Build}
use Rattle.job_order.specs.declared.segment.Shown.{Shown}
use Rattle.job_order.specs.JobSegments.{IsListed, IsPublished, InOrder}
use Rattle.job_order.specs.Needs.{IsLastRow, Publishes}
use Rattle.job_order.proofs.Homes.{IsBuild, filter_home}
use Rattle.job_order.proofs.Smaller.{same_build}

module _ (segments : List Segment) (h : InOrder segments) where
  build_at : (f columns rows : ℕ) (shown : Option Shown) → IsPublished segments (Build f columns rows shown) → IsBuild segments f columns rows shown
  build_at f columns rows shown p = subst (λ i. slice_get segments i ≡ Some (Build f columns rows shown)) (h.places p.0 (Build f columns rows shown) p.1) p.1

  -- a listed filter isn't behind the last one
  not_behind : (f row last : ℕ) → IsListed segments (Filter f row) → IsLastRow segments f last → row < last + 1
  not_behind f row last listed is =
      let at = filter_home segments h listed.0 f row listed.1 in
      let same = same_build segments f at.columns is.0 at.rows (last + 1) at.shown is.1 at.there (build_at f is.0 (last + 1) is.1 is.2) in
      let less = at.row in omega (arith, less, same.1)

  pub one_filter : (f band a b : ℕ) → Publishes segments f a band → Publishes segments f b band → a ≡ b
  one_filter f band a b p q =
      ⊎_elim
      (λ (x : a ≡ band + 1).
      ⊎_elim
      (λ (y : b ≡ band + 1). x ∙ sym y)
      (λ (y : (b ≡ band) × IsLastRow segments f b). let l = not_behind f a b p.0 y.1 in absurd (omega (arith, l, x, y.0)))
      q.1)
      (λ (x : (a ≡ band) × IsLastRow segments f a).
      ⊎_elim
      (λ (y : b ≡ band + 1). let l = not_behind f b a q.0 x.1 in absurd (omega (arith, l, y, x.0)))
      (λ (y : (b ≡ band) × IsLastRow segments f b). x.0 ∙ sym y.0)
      q.1)
      p.1

  pub row_below : (f columns rows row : ℕ) (shown : Option Shown) → IsPublished segments (Build f columns rows shown) → row + 1 < rows → ¬ Publishes segments f row row
  row_below f columns rows row shown there less p =
      ⊎_elim
      (λ (x : row ≡ row + 1). absurd (omega (arith, x)))
      (λ (x : (row ≡ row) × IsLastRow segments f row).
      let last = x.1 in
      let same = same_build segments f columns last.0 rows (row + 1) shown last.1 (build_at f columns rows shown there) (build_at f last.0 (row + 1) last.1 last.2) in
      absurd (omega (arith, less, same.1)))
      p.1
