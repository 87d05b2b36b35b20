-- Each band that a job needs is published by a filter.
use Rattle.std.proofs.Common.{◌≡◌, ℕ, ◌+◌, ◌*◌, ◌<◌, ◌≤◌, ◌⊎◌, inl, inr, ⊎_elim, refl, sym, ◌∙◌, ap, subst, List, [], ◌∷◌, length, slice_get, Option, Some, None, arith, eq-or-lt_of_le, Contains}
use Rattle.std.proofs.lemmas.Option.{none-some, same_Some, slice_get_within}
use Rattle.vp9_types.specs.declared.job.JobName.{JobName}
use Rattle.vp9_types.specs.declared.job.JobName.TheVariants.{Head, Column, Close, Rows, Filter, Write, End}
use Rattle.job_order.specs.declared.segment.Segment.{Segment}
use Rattle.job_order.specs.declared.segment.Segment.TheVariants.{Opening, Build}
use Rattle.job_order.specs.declared.segment.Shown.{Shown}
use Rattle.job_order.specs.declared.event.Done.{Done}
use Rattle.job_order.specs.JobSegments.{job_at, IsPublished, InOrder}
use Rattle.job_order.specs.Needs.{HasBand, HasOwnBand, ShowsBand, NeedsBand, Publishes}
use Rattle.job_order.specs.Worlds.{Rules, Building, WorldState, HasResult, published, and_published, parsed, built, segments_of}
use Rattle.job_order.specs.Truths.{Truth, AreTrue, IsRightBuilding}
use Rattle.job_order.specs.Sound.{MayRead, frame_of}
use Rattle.job_order.proofs.Places.{got_either, IsBehindIn, only}
use Rattle.job_order.proofs.Orders.{start, ticket_of}
use Rattle.job_order.proofs.Homes.{IsBuild, rows_home, build_there}

-- a published building is what a close said
pub record IsSaid {X : Type 0} (m : Rules X) (finished : List (Done X)) (f columns rows : ℕ) (shown : Option Shown) : Type 0 where
  pub x : X
  pub b : Building
  pub there : HasResult finished (Close f) x
  pub says : m.builds x ≡ Some b
  pub same_rows : b.rows ≡ rows
  pub same_shown : b.shown ≡ shown

module _ {X : Type 0} (m : Rules X) where
  built_by : (g : ℕ) (x : X) (o : Option Building) (finished : List (Done X)) (f columns rows : ℕ) (shown : Option Shown) → m.builds x ≡ o → built g o ≡ Build f columns rows shown
      → IsSaid m (record { job = Close g; result = x } ∷ finished) f columns rows shown
  built_by g x None finished f columns rows shown is e = absurd cc
  built_by g x (Some b) finished f columns rows shown is e =
      let same : g ≡ f = cc in
      record { x = x; b = b; there = inl (ap Close same, refl); says = is; same_rows = cc; same_shown = cc }

  parsed_not : (g : ℕ) (o : Option ℕ) (f columns rows : ℕ) (shown : Option Shown) → parsed g o ≡ Build f columns rows shown → ⊥
  parsed_not g None f columns rows shown e = cc
  parsed_not g (Some n) f columns rows shown e = cc

  -- a segment that a result has published
  said_now : (job : JobName) (x : X) (finished : List (Done X)) (s : Segment) (f columns rows : ℕ) (shown : Option Shown) → published m job x ≡ Some s → s ≡ Build f columns rows shown
      → IsSaid m (record { job = job; result = x } ∷ finished) f columns rows shown
  said_now (Head g) x finished s f columns rows shown is e = absurd (parsed_not g (m.parses x) f columns rows shown (same_Some (parsed g (m.parses x)) s is ∙ e))
  said_now (Close g) x finished s f columns rows shown is e = built_by g x (m.builds x) finished f columns rows shown refl (same_Some (built g (m.builds x)) s is ∙ e)
  said_now (Column g k) x finished s f columns rows shown is e = absurd (none-some s is)
  said_now (Rows g k q) x finished s f columns rows shown is e = absurd (none-some s is)
  said_now (Filter g q) x finished s f columns rows shown is e = absurd (none-some s is)
  said_now (Write g) x finished s f columns rows shown is e = absurd (none-some s is)
  said_now (End g) x finished s f columns rows shown is e = absurd (none-some s is)

  said_more : (d : Done X) (finished : List (Done X)) (f columns rows : ℕ) (shown : Option Shown) → IsSaid m finished f columns rows shown → IsSaid m (d ∷ finished) f columns rows shown
  said_more d finished f columns rows shown h = record { x = h.x; b = h.b; there = inr h.there; says = h.says; same_rows = h.same_rows; same_shown = h.same_shown }

  said_in : (segments : List Segment) (o : Option Segment) (d : Done X) (finished : List (Done X)) (f columns rows : ℕ) (shown : Option Shown)
      → published m d.job d.result ≡ o
      → (IsPublished segments (Build f columns rows shown) → IsSaid m finished f columns rows shown)
      → IsPublished (and_published segments o) (Build f columns rows shown) → IsSaid m (d ∷ finished) f columns rows shown
  said_in segments None d finished f columns rows shown is before h = said_more d finished f columns rows shown (before h)
  said_in segments (Some s) d finished f columns rows shown is before h =
      ⊎_elim
      (λ (o : slice_get segments h.0 ≡ Some (Build f columns rows shown)). said_more d finished f columns rows shown (before (h.0, o)))
      (λ (n : IsBehindIn segments (s ∷ []) h.0 (Build f columns rows shown)).
      said_now d.job d.result finished s f columns rows shown is (let one = only s (Build f columns rows shown) n.place n.there in one.1))
      (got_either segments (s ∷ []) h.0 (Build f columns rows shown) h.1)

  pub said : (finished : List (Done X)) (f columns rows : ℕ) (shown : Option Shown) → IsPublished (segments_of m finished) (Build f columns rows shown) → IsSaid m finished f columns rows shown
  said [] f columns rows shown h = let one = only Opening (Build f columns rows shown) h.0 h.1 in absurd (not_opening one.1)
    where
      not_opening : Opening ≡ Build f columns rows shown → ⊥
      not_opening e = cc
  said (d ∷ earlier) f columns rows shown h = said_in (segments_of m earlier) (published m d.job d.result) d earlier f columns rows shown refl (said earlier f columns rows shown) h

module _ {X : Type 0} (m : Rules X) (t : Truth X) (w : WorldState X) (ok : AreTrue m t) (h : InOrder w.segments) (is : w.segments ≡ segments_of m w.finished)
    (right : (job : JobName) (x : X) → HasResult w.finished job x → t.right job x) where
  right_said : (f columns rows : ℕ) (shown : Option Shown) → IsPublished w.segments (Build f columns rows shown) → IsSaid m w.finished f columns rows shown
  right_said f columns rows shown p = said m w.finished f columns rows shown (subst (λ s. IsPublished s (Build f columns rows shown)) is p)

  right_building : (f columns rows : ℕ) (shown : Option Shown) → (s : IsSaid m w.finished f columns rows shown) → IsRightBuilding t f s.b
  right_building f columns rows shown s = ok.builds f s.x s.b (right (Close f) s.x s.there) s.says

  right_rows : (f columns rows : ℕ) (shown : Option Shown) → IsPublished w.segments (Build f columns rows shown) → rows ≡ t.bands f
  right_rows f columns rows shown p = let s = right_said f columns rows shown p in sym s.same_rows ∙ (right_building f columns rows shown s).0

  right_shown : (f columns rows : ℕ) (shown : Shown) → IsPublished w.segments (Build f columns rows (Some shown))
      → ((shown.frame ≡ f) ⊎ Contains (t.slots f) shown.frame) × (shown.bands ≡ t.bands shown.frame)
  right_shown f columns rows shown p = let s = right_said f columns rows (Some shown) p in (right_building f columns rows (Some shown) s).1 shown s.same_shown

  filter_there : (g columns rows row : ℕ) (shown : Option Shown) → IsBuild w.segments g columns rows shown → row < rows → (ticket : ℕ) × (job_at w.segments ticket ≡ Some (Filter g row))
  filter_there g columns rows row shown there less = (
    start w.segments (2 * g + 2) + (1 + (row * (columns + 1) + columns)),
    ticket_of w.segments (2 * g + 2) (Build g columns rows shown) (Filter g row) (1 + (row * (columns + 1) + columns)) there (refl, less, refl),
  )

  publisher : (g columns rows band : ℕ) (shown : Option Shown) → IsBuild w.segments g columns rows shown → band < rows → (row : ℕ) × Publishes w.segments g row band
  publisher g columns rows band shown there less =
      ⊎_elim
      (λ (e : band + 1 ≡ rows). (
        band,
        (
          filter_there g columns rows band shown there less,
          inr (refl, (columns, shown, subst (λ r. IsPublished w.segments (Build g columns r shown)) (sym e) (2 * g + 2, there))),
        ),
      ))
      (λ (more : band + 1 < rows). (band + 1, (filter_there g columns rows (band + 1) shown there more, inl refl)))
      (eq-or-lt_of_le (let z : band + 1 ≤ rows = omega (arith, less) in z))

  -- a band of a frame before one that is published
  publisher_before : (g f band : ℕ) → g < f → 2 * f + 2 < length w.segments → band < t.bands g → (row : ℕ) × Publishes w.segments g row band
  publisher_before g f band less inside small =
      let b = build_there w.segments h g (omega (arith, less, inside)) in
      let rows = right_rows g b.0 b.1 b.2 (2 * g + 2, b.3) in
      publisher g b.0 b.1 band b.2 b.3 (omega (arith, small, rows))

  rows_bands : (ticket f c r g band : ℕ) → job_at w.segments ticket ≡ Some (Rows f c r) → HasBand (m.reads (Rows f c r) w.finished) g band
      → ((row : ℕ) × Publishes w.segments g row band) × MayRead t f g
  rows_bands ticket f c r g band e has =
      let at = rows_home w.segments h ticket f c r e in
      let span = ok.reads f c r w.finished g band right has in
      (publisher_before g f band (ok.slots.earlier f g span.0) (slice_get_within w.segments (2 * f + 2) (Build f at.columns at.rows at.shown) at.there) span.1, inr span.0)

  build_at : (f columns rows : ℕ) (shown : Option Shown) → IsPublished w.segments (Build f columns rows shown) → IsBuild w.segments f columns rows shown
  build_at f columns rows shown p = subst (λ i. slice_get w.segments i ≡ Some (Build f columns rows shown)) (h.places p.0 (Build f columns rows shown) p.1) p.1

  shown_bands : (f g band : ℕ) → ShowsBand w.segments f g band → ((row : ℕ) × Publishes w.segments g row band) × MayRead t f g
  shown_bands f g band s =
      let r = right_shown f s.0 s.1 s.2 s.3 in
      let there = build_at f s.0 s.1 (Some s.2) s.3 in
      let small : band < t.bands g = subst (λ i. band < t.bands i) s.4 (subst (λ i. band < i) r.1 s.5) in
      let rows = right_rows f s.0 s.1 (Some s.2) s.3 in
      ⊎_elim
      (λ (e : s.2.frame ≡ f).
      let same : g ≡ f = sym s.4 ∙ e in (
        subst (λ i. (row : ℕ) × Publishes w.segments i row band) (sym same)
            (publisher f s.0 s.1 band (Some s.2) there (let z : band < t.bands f = subst (λ i. band < t.bands i) same small in omega (arith, z, rows))),
        inl same,
      ))
      (λ (e : Contains (t.slots f) s.2.frame).
      let slot : Contains (t.slots f) g = subst (λ i. Contains (t.slots f) i) s.4 e in
      (publisher_before g f band (ok.slots.earlier f g slot) (slice_get_within w.segments (2 * f + 2) (Build f s.0 s.1 (Some s.2)) there) small, inr slot))
      r.0

  own_bands : (f g band : ℕ) → (g ≡ f) × HasOwnBand w.segments f band → ((row : ℕ) × Publishes w.segments g row band) × MayRead t f g
  own_bands f g band o =
      let b = o.1 in
      (subst (λ i. (row : ℕ) × Publishes w.segments i row band) (sym o.0) (publisher f b.0 b.1 band b.2 (build_at f b.0 b.1 b.2 b.3) b.4), inl o.0)

  pub bands_there : (ticket : ℕ) (job : JobName) (g band : ℕ) → job_at w.segments ticket ≡ Some job → NeedsBand w.segments (m.reads job w.finished) job g band
      → ((row : ℕ) × Publishes w.segments g row band) × MayRead t (frame_of job) g
  bands_there ticket (Rows f c r) g band e n = rows_bands ticket f c r g band e n
  bands_there ticket (Write f) g band e n = ⊎_elim (own_bands f g band) (shown_bands f g band) n
  bands_there ticket _ g band e n = absurd n

  -- and what a job of a superblock row reads is of earlier frames
  pub early : (job : JobName) (f c r g band : ℕ) → job ≡ Rows f c r → HasBand (m.reads job w.finished) g band → g < f
  early job f c r g band same has =
      ok.slots.earlier f g (ok.reads f c r w.finished g band right (subst (λ j. HasBand (m.reads j w.finished) g band) same has)).0
