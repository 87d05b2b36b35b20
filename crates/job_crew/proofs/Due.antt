-- The jobs that a right result publishes are due.
use Rattle.std.proofs.Common.{◌≡◌, ℕ, ◌<◌, inr, sym, subst, refl, Option}
use Rattle.vp9_types.specs.declared.job.JobName.{JobName}
use Rattle.vp9_types.specs.declared.job.JobName.TheVariants.{Head, Column, Close, Rows, Filter, Write, End}
use Rattle.job_order.specs.declared.segment.Segment.TheVariants.{Parse, Build, Last}
use Rattle.job_order.specs.declared.segment.Shown.{Shown}
use Rattle.job_order.specs.Worlds.{Rules, Building}
use Rattle.job_order.specs.Truths.{Truth}
use Rattle.job_order.proofs.Orders.{StandsIn, stands}
use Rattle.job_crew.specs.Runs.{IsParsedSo, IsBuiltSo, IsLastOne, IsDue}
use Rattle.job_crew.specs.Code.{AreDue}

module _ {X : Type 0} (m : Rules X) (t : Truth X) where
  parse_job : (f columns : ℕ) → IsParsedSo m t f columns → (job : JobName) (k : ℕ) → StandsIn (Parse f columns) job k → IsDue m t job
  parse_job f columns so (Column g c) k h = (columns, subst (λ i. IsParsedSo m t i columns) (sym h.0) so, h.1)
  parse_job f columns so (Close g) k h = (columns, subst (λ i. IsParsedSo m t i columns) (sym h.0) so)
  parse_job f columns so (Head g) k h = absurd h
  parse_job f columns so (Rows g c r) k h = absurd h
  parse_job f columns so (Filter g r) k h = absurd h
  parse_job f columns so (Write g) k h = absurd h
  parse_job f columns so (End g) k h = absurd h

  pub parse_due : (f columns : ℕ) → IsParsedSo m t f columns → AreDue m t (Parse f columns)
  parse_due f columns so place job e = parse_job f columns so job place (stands (Parse f columns) place job e)

  build_job : (f columns rows : ℕ) (shown : Option Shown) (b : Building) → b.columns ≡ columns → b.rows ≡ rows → IsBuiltSo m t f b → (job : JobName) (k : ℕ)
      → StandsIn (Build f columns rows shown) job k → IsDue m t job
  build_job f columns rows shown b cs rs so (Head g) k h = inr (f, h.0, (b, so))
  build_job f columns rows shown b cs rs so (Rows g c r) k h =
      (b, subst (λ i. IsBuiltSo m t i b) (sym h.0) so, subst (λ n. c < n) (sym cs) h.1, subst (λ n. r < n) (sym rs) h.2)
  build_job f columns rows shown b cs rs so (Filter g r) k h = (b, subst (λ i. IsBuiltSo m t i b) (sym h.0) so, subst (λ n. r < n) (sym rs) h.1)
  build_job f columns rows shown b cs rs so (Write g) k h = (b, subst (λ i. IsBuiltSo m t i b) (sym h.0) so)
  build_job f columns rows shown b cs rs so (Column g c) k h = absurd h
  build_job f columns rows shown b cs rs so (Close g) k h = absurd h
  build_job f columns rows shown b cs rs so (End g) k h = absurd h

  pub build_due : (f : ℕ) (b : Building) → IsBuiltSo m t f b → AreDue m t (Build f b.columns b.rows b.shown)
  build_due f b so place job e = build_job f b.columns b.rows b.shown b refl refl so job place (stands (Build f b.columns b.rows b.shown) place job e)

  last_job : (f : ℕ) → IsLastOne m t f → (job : JobName) (k : ℕ) → StandsIn (Last f) job k → IsDue m t job
  last_job f so (End g) k h = subst (λ i. IsLastOne m t i) (sym h.0) so
  last_job f so (Head g) k h = absurd h
  last_job f so (Column g c) k h = absurd h
  last_job f so (Close g) k h = absurd h
  last_job f so (Rows g c r) k h = absurd h
  last_job f so (Filter g r) k h = absurd h
  last_job f so (Write g) k h = absurd h

  pub last_due : (f : ℕ) → IsLastOne m t f → AreDue m t (Last f)
  last_due f so place job e = last_job f so job place (stands (Last f) place job e)
