-- What is published stays, and stands where it stood.
use Rattle.std.proofs.Common.{◌≡◌, ◌≢◌, ℕ, ◌+◌, ◌≤◌, ◌⊎◌, inl, inr, ⊎_elim, sym, ◌∙◌, subst, List, [], ◌∷◌, ◌++◌, length, slice_get, Option, Some, None, arith, length-append}
use Rattle.std.proofs.lemmas.Option.{none-some, same_Some}
use Rattle.vp9_types.specs.declared.job.JobName.{JobName}
use Rattle.vp9_types.specs.declared.job.JobName.TheVariants.{Filter}
use Rattle.job_order.specs.declared.segment.Segment.{Segment}
use Rattle.job_order.specs.declared.segment.Segment.TheVariants.{Build, Last}
use Rattle.job_order.specs.declared.segment.Shown.{Shown}
use Rattle.job_order.specs.JobSegments.{jobs_of, jobs_in, job_at, IsBelow, IsPublished, StandsAt, InOrder}
use Rattle.job_order.specs.Needs.{Publishes, IsLastRow}
use Rattle.job_order.specs.Worlds.{and_published}
use Rattle.job_order.proofs.Places.{got_left, got_right, got_either, IsBehindIn, only}

at_more : (segments more : List Segment) (ticket : ℕ) (job : JobName) → job_at segments ticket ≡ Some job → job_at (segments ++ more) ticket ≡ Some job
at_more [] more ticket job e = absurd (none-some job e)
at_more (s ∷ rest) more ticket job e =
    ⊎_elim
    (λ (h : slice_get (jobs_of s) ticket ≡ Some job). got_left (jobs_of s) (jobs_in (rest ++ more)) ticket job h)
    (λ (h : IsBehindIn (jobs_of s) (jobs_in rest) ticket job).
    subst (λ i. slice_get (jobs_of s ++ jobs_in (rest ++ more)) i ≡ Some job) (sym h.is) (got_right (jobs_of s) (jobs_in (rest ++ more)) h.place job (at_more rest more h.place job h.there)))
    (got_either (jobs_of s) (jobs_in rest) ticket job e)

module _ (segments : List Segment) where
  pub at_still : (o : Option Segment) (ticket : ℕ) (job : JobName) → job_at segments ticket ≡ Some job → job_at (and_published segments o) ticket ≡ Some job
  at_still None ticket job e = e
  at_still (Some s) ticket job e = at_more segments (s ∷ []) ticket job e

  pub still_below : (o : Option Segment) (tickets more : ℕ) (job : JobName) → tickets ≤ more → IsBelow segments tickets job → IsBelow (and_published segments o) more job
  still_below o tickets more job le h = (h.0, let l = h.1 in omega (arith, l, le), at_still o h.0 job h.2)

  pub still_published : (o : Option Segment) (s : Segment) → IsPublished segments s → IsPublished (and_published segments o) s
  still_published None s h = h
  still_published (Some new) s h = (h.0, got_left segments (new ∷ []) h.0 s h.1)

  pub still_publishes : (o : Option Segment) (f row band : ℕ) → Publishes segments f row band → Publishes (and_published segments o) f row band
  still_publishes o f row band h = (
    (h.0.0, at_still o h.0.0 (Filter f row) h.0.1),
    ⊎_elim inl (λ (x : (row ≡ band) × IsLastRow segments f row). inr (x.0, (x.1.0, x.1.1, still_published o (Build f x.1.0 (row + 1) x.1.1) x.1.2))) h.1,
  )

  -- what stands behind the end of some segments
  pub record IsOpen : Type 0 where
    pub no_last : (place f : ℕ) → slice_get segments place ≡ Some (Last f) → ⊥

  -- a segment that isn't the end of the run, and stands last
  pub is_open : InOrder segments → (place : ℕ) (s : Segment) → slice_get segments place ≡ Some s → ((g : ℕ) → s ≢ Last g) → place + 1 ≡ length segments → IsOpen
  is_open h place s e not_last is =
      record {
        no_last = λ p f at.
            let l = h.last p f at in
            not_last f (same_Some s (Last f) (sym e ∙ subst (λ i. slice_get segments i ≡ Some (Last f)) (let z : p ≡ place = omega (arith, l, is) in z) at));
      }

  either : (s : Segment) (place : ℕ) (x : Segment) → slice_get (segments ++ s ∷ []) place ≡ Some x → (slice_get segments place ≡ Some x) ⊎ ((place ≡ length segments) × (s ≡ x))
  either s place x e =
      ⊎_elim inl
      (λ (h : IsBehindIn segments (s ∷ []) place x). let one = only s x h.place h.there in inr (let i = h.is in omega (arith, i, one.0), one.1))
      (got_either segments (s ∷ []) place x e)

  pub pushed : (s : Segment) → InOrder segments → IsOpen → StandsAt (length segments) s → ((f columns rows : ℕ) (shown : Shown) → s ≡ Build f columns rows (Some shown) → shown.frame ≤ f)
      → InOrder (segments ++ s ∷ [])
  pushed s h ready at small =
      record {
        places = λ place x e.
            ⊎_elim (λ (o : slice_get segments place ≡ Some x). h.places place x o)
            (λ (n : (place ≡ length segments) × (s ≡ x)). subst (λ i. StandsAt i x) (sym n.0) (subst (λ y. StandsAt (length segments) y) n.1 at))
            (either s place x e);
        last = λ place f e.
            ⊎_elim (λ (o : slice_get segments place ≡ Some (Last f)). absurd (ready.no_last place f o))
            (λ (n : (place ≡ length segments) × (s ≡ Last f)). let l = length-append segments (s ∷ []) in let z : place + 1 ≡ length (segments ++ s ∷ []) = omega (arith, l, n.0) in z)
            (either s place (Last f) e);
        shown = λ f columns rows shown e.
            ⊎_elim (λ (o : slice_get segments e.0 ≡ Some (Build f columns rows (Some shown))). h.shown f columns rows shown (e.0, o))
            (λ (n : (e.0 ≡ length segments) × (s ≡ Build f columns rows (Some shown))). small f columns rows shown n.1)
            (either s e.0 (Build f columns rows (Some shown)) e.1);
      }
