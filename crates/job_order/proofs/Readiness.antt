-- Whether a job is ready.
use Rattle.std.proofs.Common.{◌≡◌, ℕ, ◌+◌, ◌*◌, ◌<◌, ◌≤◌, ◌⊎◌, inl, inr, ⊎_elim, refl, sym, ◌∙◌, ap, subst, List, [], ◌∷◌, ◌++◌, length, take, drop, reverse, get_or, slice_get, Option, Some, None, arith, take-append-drop, eq-or-lt_of_le}
use Rattle.std.proofs.lemmas.Bool.{cases_lt}
use Rattle.std.proofs.lemmas.Option.{slice_get_within, get_or_from_slice_get, slice_get-get_or, same_Some}
use Rattle.std.proofs.lemmas.List.{take_more, reverse-append}
use Rattle.vp9_types.specs.declared.job.JobName.{JobName}
use Rattle.vp9_types.specs.declared.job.JobName.TheVariants.{Column, Rows, Filter}
use Rattle.vp9_types.specs.declared.job.BandSpan.{BandSpan}
use Rattle.job_order.specs.declared.segment.Segment.{Segment}
use Rattle.job_order.specs.declared.segment.Segment.TheVariants.{Opening, Build}
use Rattle.job_order.specs.declared.segment.Shown.{Shown}
use Rattle.job_order.specs.declared.event.Done.{Done}
use Rattle.job_order.specs.declared.needs.JobSpan.TheVariants.{One, Columns, RowOf}
use Rattle.job_order.specs.declared.needs.JobSpan.{JobSpan}
use Rattle.job_order.specs.declared.needs.Needs.{Needs}
use Rattle.job_order.specs.JobSegments.{IsListed, IsBelow, InOrder}
use Rattle.job_order.specs.Needs.{IsNeed, IsInSpan, IsLastRow, Publishes}
use Rattle.job_order.specs.Worlds.{Rules, WorldState, HasResult, IsFinished, IsReady}
use Rattle.job_order.specs.Code.{IsIn, IsInIf, IsInOne, PublishesOne, Names}
use Rattle.job_order.proofs.Homes.{IsBuild, filter_home}
use Rattle.job_order.proofs.Orders.{start, ticket_of}
use Rattle.job_order.proofs.Smaller.{same_build}
use Rattle.job_order.proofs.Finished.{finished_either}

pub all_below : (P : ℕ → Type 0) (n : ℕ) → ((k : ℕ) → k < n → P k) → P n → (k : ℕ) → k < n + 1 → P k
all_below P n below here k less =
    ⊎_elim (λ (e : k ≡ n). subst P (sym e) here) (λ (l : k < n). below k l) (eq-or-lt_of_le (let z : k ≤ n = omega (arith, less) in z))

module _ {X : Type 0} where
  has_right : (xs ys : List (Done X)) (job : JobName) (x : X) → HasResult ys job x → HasResult (xs ++ ys) job x
  has_right [] ys job x h = h
  has_right (d ∷ xs) ys job x h = inr (has_right xs ys job x h)

  -- the first places, the latest first
  next_place : (xs : List (Done X)) (place : ℕ) (d : Done X) → slice_get xs place ≡ Some d → reverse (take (place + 1) xs) ≡ d ∷ reverse (take place xs)
  next_place xs place d e =
      ap reverse (take_more xs place d (slice_get_within xs place d e) ∙ ap (λ y. take place xs ++ y ∷ []) (get_or_from_slice_get xs place d d e))
      ∙ reverse-append (take place xs) (d ∷ [])

  pub found : (xs : List (Done X)) (place : ℕ) (d : Done X) (job : JobName) → slice_get xs place ≡ Some d → d.job ≡ job → IsFinished (reverse xs) job
  found xs place d job e is =
      let parts : reverse xs ≡ reverse (drop (place + 1) xs) ++ (d ∷ reverse (take place xs)) =
      ap reverse (sym (take-append-drop (place + 1) xs)) ∙ (reverse-append (take (place + 1) xs) (drop (place + 1) xs) ∙ ap (λ l. reverse (drop (place + 1) xs) ++ l) (next_place xs place d e)) in
      (d.result, subst (λ l. HasResult l job d.result) (sym parts) (has_right (reverse (drop (place + 1) xs)) (d ∷ reverse (take place xs)) job d.result (inl (is, refl))))

  pub not_found : (xs : List (Done X)) (place : ℕ) (d : Done X) (job : JobName) → slice_get xs place ≡ Some d → (d.job ≡ job → ⊥) → (IsFinished (reverse (take place xs)) job → ⊥)
      → IsFinished (reverse (take (place + 1) xs)) job → ⊥
  not_found xs place d job e isnt none h =
      ⊎_elim (λ (y : d.job ≡ job). isnt y) (λ (y : IsFinished (reverse (take place xs)) job). none y)
      (finished_either d (reverse (take place xs)) job (subst (λ l. IsFinished l job) (next_place xs place d e) h))

  module _ (finished : List (Done X)) where
    pub one_done : (job : JobName) → IsFinished finished job → (need : JobName) → IsInIf (Some (One job)) need → IsFinished finished need
    one_done job h need is = subst (λ j. IsFinished finished j) (sym is) h

    column_done : (frame columns : ℕ) → ((c : ℕ) → c < columns → IsFinished finished (Column frame c)) → (need : JobName) → IsIn (Columns frame columns) need → IsFinished finished need
    column_done frame columns all (Column g c) is = subst (λ i. IsFinished finished (Column i c)) (sym is.0) (all c is.1)
    column_done frame columns all _ is = absurd is

    pub columns_done : (frame columns : ℕ) → ((c : ℕ) → c < columns → IsFinished finished (Column frame c)) → (need : JobName) → IsInIf (Some (Columns frame columns)) need → IsFinished finished need
    columns_done frame columns all need is = column_done frame columns all need is

    strip_done : (frame row columns : ℕ) → ((c : ℕ) → c < columns → IsFinished finished (Rows frame c row)) → (need : JobName) → IsIn (RowOf frame row columns) need → IsFinished finished need
    strip_done frame row columns all (Rows g c q) is =
        subst (λ i. IsFinished finished (Rows i c q)) (sym is.0) (subst (λ i. IsFinished finished (Rows frame c i)) (sym is.1) (all c is.2))
    strip_done frame row columns all _ is = absurd is

    pub row_done : (frame row columns : ℕ) → ((c : ℕ) → c < columns → IsFinished finished (Rows frame c row)) → (need : JobName) → IsInIf (Some (RowOf frame row columns)) need → IsFinished finished need
    row_done frame row columns all need is = strip_done frame row columns all need is

module _ (segments : List Segment) (h : InOrder segments) where
  pub inside : (f row band : ℕ) → Publishes segments f row band → 2 * f + 2 < length segments
  inside f row band p = let at = filter_home segments h p.0.0 f row p.0.1 in slice_get_within segments (2 * f + 2) (Build f at.columns at.rows at.shown) at.there

  pub band_of : (f columns rows row band : ℕ) (shown : Option Shown) → IsBuild segments f columns rows shown → Publishes segments f row band
      → ((row ≡ band + 1) × (band + 1 < rows)) ⊎ ((row ≡ band) × (band + 1 ≡ rows))
  band_of f columns rows row band shown there p =
      let at = filter_home segments h p.0.0 f row p.0.1 in
      let same = same_build segments f at.columns columns at.rows rows at.shown shown at.there there in
      ⊎_elim
      (λ (x : row ≡ band + 1). inl (x, (let l = at.row in omega (arith, x, l, same.1))))
      (λ (x : (row ≡ band) × IsLastRow segments f row).
      let last = x.1 in
      let moved : IsBuild segments f last.0 (row + 1) last.1 = subst (λ i. slice_get segments i ≡ Some (Build f last.0 (row + 1) last.1)) (h.places last.2.0 (Build f last.0 (row + 1) last.1) last.2.1) last.2.1 in
      let so = same_build segments f columns last.0 rows (row + 1) shown last.1 there moved in
      inr (x.0, omega (arith, so.1, x.0)))
      p.1

  pub filter_listed : (f columns rows row : ℕ) (shown : Option Shown) → IsBuild segments f columns rows shown → row < rows → IsListed segments (Filter f row)
  filter_listed f columns rows row shown there less = (
    start segments (2 * f + 2) + (1 + (row * (columns + 1) + columns)),
    ticket_of segments (2 * f + 2) (Build f columns rows shown) (Filter f row) (1 + (row * (columns + 1) + columns)) there (refl, less, refl),
  )

  pub named_row : (f g columns rows band row : ℕ) (shown : Option Shown) (result : Option ℕ) → 2 * f + 2 < length segments → get_or segments (2 * f + 2) Opening ≡ Build g columns rows shown
      → (band + 1 < rows → result ≡ Some (band + 1)) → (band + 1 ≡ rows → result ≡ Some band) → Publishes segments f row band → result ≡ Some row
  named_row f g columns rows band row shown result within e next last p =
      let there : slice_get segments (2 * f + 2) ≡ Some (Build g columns rows shown) = slice_get-get_or segments (2 * f + 2) Opening within ∙ ap Some e in
      let at = h.places (2 * f + 2) (Build g columns rows shown) there in
      let is : g ≡ f = omega (arith, at) in
      ⊎_elim
      (λ (x : (row ≡ band + 1) × (band + 1 < rows)). next x.1 ∙ ap Some (sym x.0))
      (λ (x : (row ≡ band) × (band + 1 ≡ rows)). last x.1 ∙ ap Some (sym x.0))
      (band_of f columns rows row band shown (subst (λ i. slice_get segments (2 * f + 2) ≡ Some (Build i columns rows shown)) is there) p)

  pub published_by : (f g columns rows band row : ℕ) (shown : Option Shown) (result : Option ℕ) → 2 * f + 2 < length segments → get_or segments (2 * f + 2) Opening ≡ Build g columns rows shown
      → (band + 1 < rows → result ≡ Some (band + 1)) → (band + 1 ≡ rows → result ≡ Some band) → (rows ≤ band → result ≡ None) → result ≡ Some row → Publishes segments f row band
  published_by f g columns rows band row shown result within e next last none is =
      let there : slice_get segments (2 * f + 2) ≡ Some (Build g columns rows shown) = slice_get-get_or segments (2 * f + 2) Opening within ∙ ap Some e in
      let at = h.places (2 * f + 2) (Build g columns rows shown) there in
      let own : g ≡ f = omega (arith, at) in
      let here : IsBuild segments f columns rows shown = subst (λ i. slice_get segments (2 * f + 2) ≡ Some (Build i columns rows shown)) own there in
      ⊎_elim
      (λ (more : band + 1 < rows).
      let same : row ≡ band + 1 = same_Some row (band + 1) (sym is ∙ next more) in
      (filter_listed f columns rows row shown here (omega (arith, same, more)), inl same))
      (λ (no_more : rows ≤ band + 1).
      ⊎_elim
      (λ (it : rows ≡ band + 1).
      let same : row ≡ band = same_Some row band (sym is ∙ last (sym it)) in
      let plain : rows ≡ row + 1 = omega (arith, same, it) in
      (filter_listed f columns rows row shown here (omega (arith, same, it)), inr (same, (columns, shown, (2 * f + 2, subst (λ r. IsBuild segments f columns r shown) plain here)))))
      (λ (past : rows < band + 1). absurd (let bad : ◌≡◌ {A = Option ℕ} None (Some row) = sym (none (omega (arith, past))) ∙ is in cc))
      (eq-or-lt_of_le no_more))
      (cases_lt (band + 1) rows)

  pub no_row : (f band row : ℕ) → ((g columns rows : ℕ) (shown : Option Shown) → get_or segments (2 * f + 2) Opening ≡ Build g columns rows shown → ⊥) → Publishes segments f row band → ⊥
  no_row f band row none p =
      let at = filter_home segments h p.0.0 f row p.0.1 in
      none f at.columns at.rows at.shown (get_or_from_slice_get segments (2 * f + 2) (Build f at.columns at.rows at.shown) Opening at.there)

module _ {X : Type 0} (segments : List Segment) (finished : List (Done X)) where
  pub spans_out : (o : Option BandSpan) (span : BandSpan) → o ≡ Some span
      → ((band row : ℕ) → span.first ≤ band → band ≤ span.last → Publishes segments span.frame row band → IsFinished finished (Filter span.frame row))
      → (g band row : ℕ) → IsInSpan o g band → Publishes segments g row band → IsFinished finished (Filter g row)
  spans_out o span is all g band row h p =
      let here : IsInSpan (Some span) g band = subst (λ s. IsInSpan s g band) is h in
      subst (λ i. IsFinished finished (Filter i row)) here.0 (all band row here.1 here.2 (subst (λ i. Publishes segments i row band) (sym here.0) p))

  pub jobs_named : (jobs : List (Option JobSpan)) → length jobs ≡ 2 → ((need : JobName) → IsInIf (get_or jobs 0 None) need → IsFinished finished need)
      → ((need : JobName) → IsInIf (get_or jobs 1 None) need → IsFinished finished need) → (need : JobName) → IsInOne jobs need → IsFinished finished need
  jobs_named [] long a b need x = absurd x
  jobs_named (first ∷ []) long a b need x = absurd (omega (arith, long))
  jobs_named (first ∷ second ∷ third ∷ more) long a b need x = absurd (omega (arith, long))
  jobs_named (first ∷ second ∷ []) long a b need x =
      ⊎_elim (λ (y : IsInIf first need). a need y) (λ (y : IsInIf second need ⊎ ⊥). ⊎_elim (λ (z : IsInIf second need). b need z) (λ (z : ⊥). absurd z) y) x

  pub second_named : (jobs : List (Option JobSpan)) → ((need : JobName) → IsInOne jobs need → IsFinished finished need)
      → (need : JobName) → IsInIf (get_or jobs 1 None) need → IsFinished finished need
  second_named [] all need x = absurd x
  second_named (first ∷ []) all need x = absurd x
  second_named (first ∷ second ∷ more) all need x = all need (inr (inl x))

  -- what publishes a band of a span is finished
  abbrev pub IsOut : Option BandSpan → Type 0
  IsOut span = (g band row : ℕ) → IsInSpan span g band → Publishes segments g row band → IsFinished finished (Filter g row)

  bands_named : (one two three : Option BandSpan) → IsOut one → IsOut two → IsOut three → (need : JobName) → PublishesOne segments (one ∷ two ∷ three ∷ []) need → IsFinished finished need
  bands_named one two three k l n (Filter g q) p =
      ⊎_elim
      (λ (y : IsInSpan one g p.0). k g p.0 q y p.2)
      (λ (y : IsInSpan two g p.0 ⊎ (IsInSpan three g p.0 ⊎ ⊥)).
      ⊎_elim
      (λ (z : IsInSpan two g p.0). l g p.0 q z p.2)
      (λ (z : IsInSpan three g p.0 ⊎ ⊥). ⊎_elim (λ (v : IsInSpan three g p.0). n g p.0 q v p.2) (λ (v : ⊥). absurd v) z)
      y)
      p.1
  bands_named one two three k l n _ p = absurd p

  pub third_out : (bands : List (Option BandSpan)) → ((need : JobName) → PublishesOne segments bands need → IsFinished finished need) → IsOut (get_or bands 2 None)
  third_out [] all g band row x p = absurd x
  third_out (one ∷ []) all g band row x p = absurd x
  third_out (one ∷ two ∷ []) all g band row x p = absurd x
  third_out (one ∷ two ∷ three ∷ more) all g band row x p = all (Filter g row) (band, inr (inr (inl x)), p)

  pub all_out : (bands : List (Option BandSpan)) → length bands ≡ 3 → IsOut (get_or bands 0 None) → IsOut (get_or bands 1 None) → IsOut (get_or bands 2 None)
      → (need : JobName) → PublishesOne segments bands need → IsFinished finished need
  all_out [] long k l n need p = absurd (omega (arith, long))
  all_out (one ∷ []) long k l n need p = absurd (omega (arith, long))
  all_out (one ∷ two ∷ []) long k l n need p = absurd (omega (arith, long))
  all_out (one ∷ two ∷ three ∷ four ∷ more) long k l n need p = absurd (omega (arith, long))
  all_out (one ∷ two ∷ three ∷ []) long k l n need p = bands_named one two three k l n need p

-- what a ready job needs is finished
pub named_of : {X : Type 0} (m : Rules X) (w : WorldState X) (job : JobName) (needs : Needs) (reads : List (Option BandSpan)) → reads ≡ m.reads job w.finished
    → ((need : JobName) → Names w.segments needs need → IsNeed w.segments w.window reads job need) → IsReady m w job → (need : JobName) → Names w.segments needs need → IsFinished w.finished need
named_of m w job needs reads is from ready need n = ready.needs need (subst (λ r. IsNeed w.segments w.window r job need) is (from need n))

pub ready_from : {X : Type 0} (m : Rules X) (w : WorldState X) (job : JobName) (needs : Needs) (reads : List (Option BandSpan)) → reads ≡ m.reads job w.finished → IsBelow w.segments w.drawn job
    → ¬ IsFinished w.finished job → ((need : JobName) → IsNeed w.segments w.window reads job need → Names w.segments needs need)
    → ((need : JobName) → Names w.segments needs need → IsFinished w.finished need) → IsReady m w job
ready_from m w job needs reads is drawn un to all =
    record { drawn = drawn; unfinished = un; needs = λ need n. all need (to need (subst (λ r. IsNeed w.segments w.window r job need) (sym is) n)) }
