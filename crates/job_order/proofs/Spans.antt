-- What the needs of a job name, as spans.
use Rattle.std.proofs.Common.{◌≡◌, ◌↔◌, ℕ, ◌+◌, ◌-◌, ◌*◌, ◌<◌, ◌≤◌, ◌⊎◌, inl, inr, ⊎_elim, refl, sym, ◌∙◌, ap, subst, Bool, true, false, if◌then◌else◌, nat_lt, List, [], ◌∷◌, slice_get, Option, Some, None, arith}
use Rattle.std.proofs.lemmas.Bool.{ltb-true, ltb-false}
use Rattle.std.proofs.lemmas.Option.{same_Some}
use Rattle.vp9_types.specs.declared.job.JobName.{JobName}
use Rattle.vp9_types.specs.declared.job.JobName.TheVariants.{Head, Column, Close, Rows, Filter, Write}
use Rattle.vp9_types.specs.declared.job.BandSpan.{BandSpan}
use Rattle.job_order.specs.declared.segment.Segment.{Segment}
use Rattle.job_order.specs.declared.segment.Segment.TheVariants.{Parse, Build}
use Rattle.job_order.specs.declared.segment.Shown.{Shown}
use Rattle.job_order.specs.declared.needs.JobSpan.{JobSpan}
use Rattle.job_order.specs.declared.needs.JobSpan.TheVariants.{One, Columns, RowOf}
use Rattle.job_order.specs.declared.needs.Needs.{Needs}
use Rattle.job_order.specs.JobSegments.{IsListed, IsPublished, InOrder}
use Rattle.job_order.specs.Needs.{IsNeed, IsInSpan, HasBand, HasOwnBand, ShowsBand, NeedsBand}
use Rattle.job_order.specs.Code.{IsParsed, IsBuilt, IsIn, IsInIf, IsInOne, PublishesOne, Names, job_before, first_bands, shown_bands, needs, no_bands}
use Rattle.job_order.proofs.Orders.{start, ticket_of}
use Rattle.job_order.proofs.Homes.{IsParse, IsBuild, column_home, close_home, rows_home, filter_home, write_home}
use Rattle.job_order.proofs.Smaller.{same_columns, same_build}

-- a job so many before
before_in : (kind : ℕ → JobName) (n back : ℕ) (b : Bool) → (b ≡ false → back ≤ n) → (need : JobName) → IsInIf (if b then None else Some (One (kind (n - back)))) need
    → (back ≤ n) × (need ≡ kind (n - back))
before_in kind n back true le need h = absurd h
before_in kind n back false le need h = (le refl, h)

of_before : (kind : ℕ → JobName) (n back : ℕ) (need : JobName) → IsInIf (job_before kind n back) need → (back ≤ n) × (need ≡ kind (n - back))
of_before kind n back need h = before_in kind n back (nat_lt n back) (λ e. ltb-false n back e) need h

in_before : (kind : ℕ → JobName) (n back k : ℕ) (b : Bool) → (b ≡ true → n < back) → (need : JobName) → n ≡ k + back → need ≡ kind k → IsInIf (if b then None else Some (One (kind (n - back)))) need
in_before kind n back k true less need is e = let l = less refl in absurd (omega (arith, l, is))
in_before kind n back k false less need is e = e ∙ ap kind (let z : k ≡ n - back = omega (arith, is) in z)

is_before : (kind : ℕ → JobName) (n back k : ℕ) (need : JobName) → n ≡ k + back → need ≡ kind k → IsInIf (job_before kind n back) need
is_before kind n back k need is e = in_before kind n back k (nat_lt n back) (λ e. ltb-true n back e) need is e

-- the first bands
bands_in : (f n g band : ℕ) (b : Bool) → (b ≡ true → 0 < n) → IsInSpan (if b then Some (record { frame = f; first = 0; last = n - 1 }) else None) g band → (f ≡ g) × (band < n)
bands_in f n g band true some h = let l = some refl in let k = h.2 in (h.0, omega (arith, l, k))
bands_in f n g band false some h = absurd h

of_first : (f n g band : ℕ) → IsInSpan (first_bands f n) g band → (f ≡ g) × (band < n)
of_first f n g band h = bands_in f n g band (nat_lt 0 n) (λ e. ltb-true 0 n e) h

in_bands : (f n g band : ℕ) (b : Bool) → (b ≡ false → n ≤ 0) → f ≡ g → band < n → IsInSpan (if b then Some (record { frame = f; first = 0; last = n - 1 }) else None) g band
in_bands f n g band true none is less = (is, omega arith, omega (arith, less))
in_bands f n g band false none is less = let l = none refl in absurd (omega (arith, l, less))

is_first : (f n g band : ℕ) → f ≡ g → band < n → IsInSpan (first_bands f n) g band
is_first f n g band is less = in_bands f n g band (nat_lt 0 n) (λ e. ltb-false 0 n e) is less

module _ (segments : List Segment) (h : InOrder segments) (window : ℕ) (reads : List (Option BandSpan)) where
  none_published : (need : JobName) → PublishesOne segments no_bands need → ⊥
  none_published (Filter g q) p = ⊎_elim (λ x. x) (λ p. ⊎_elim (λ x. x) (λ p. ⊎_elim (λ x. x) (λ x. x) p) p) p.1
  none_published _ p = p

  -- the close of a frame
  module _ (f columns : ℕ) (there : IsParse segments f columns) where
    close_to : (need : JobName) → IsNeed segments window reads (Close f) need → Names segments (needs (Some (One (Head f))) (Some (Columns f columns)) no_bands) need
    close_to (Head g) n = inl (inl (ap Head n))
    close_to (Column g c) n =
        let at = column_home segments h n.1.0 g c n.1.1 in
        let same = same_columns segments f at.columns columns (subst (λ i. IsParse segments i at.columns) n.0 at.there) there in
        inl (inr (inl (n.0, (let i = at.inside in omega (arith, i, same)))))
    close_to _ n = absurd n

    column_from : (need : JobName) → IsIn (Columns f columns) need → IsNeed segments window reads (Close f) need
    column_from (Column g c) n =
        (n.0, subst (λ i. IsListed segments (Column i c)) (sym n.0) (start segments (2 * f + 1) + c, ticket_of segments (2 * f + 1) (Parse f columns) (Column f c) c there (refl, n.1, refl)))
    column_from _ n = absurd n

    close_from : (need : JobName) → Names segments (needs (Some (One (Head f))) (Some (Columns f columns)) no_bands) need → IsNeed segments window reads (Close f) need
    close_from need n =
        ⊎_elim
        (λ (x : IsInOne (Some (One (Head f)) ∷ Some (Columns f columns) ∷ []) need).
        ⊎_elim
        (λ (e : need ≡ Head f). let here : IsNeed segments window reads (Close f) (Head f) = refl in subst (λ j. IsNeed segments window reads (Close f) j) (sym e) here)
        (λ (y : IsIn (Columns f columns) need ⊎ ⊥). ⊎_elim (λ (e : IsIn (Columns f columns) need). column_from need e) (λ (e : ⊥). absurd e) y)
        x)
        (λ (x : PublishesOne segments no_bands need). absurd (none_published need x))
        n

    pub close_named : (r : Needs) (span : Option JobSpan) → span ≡ Some (Columns f columns) → r ≡ needs (Some (One (Head f))) span no_bands → (need : JobName)
        → IsNeed segments window reads (Close f) need ↔ Names segments r need
    close_named r span is e need =
        let same : needs (Some (One (Head f))) (Some (Columns f columns)) no_bands ≡ r = ap (λ s. needs (Some (One (Head f))) s no_bands) (sym is) ∙ sym e in
        subst (λ n. IsNeed segments window reads (Close f) need ↔ Names segments n need) same (close_to need, close_from need)

  -- the filter of a superblock row
  module _ (f row columns rows : ℕ) (shown : Option Shown) (there : IsBuild segments f columns rows shown) (less : row < rows) where
    abbrev pub filter_needs : Needs
    filter_needs = needs (Some (RowOf f row columns)) (job_before (λ r. Filter f r) row 1) no_bands

    filter_to : (need : JobName) → IsNeed segments window reads (Filter f row) need → Names segments filter_needs need
    filter_to (Rows g c q) n =
        let at = rows_home segments h n.2.0 g c q n.2.1 in
        let same = same_build segments f at.columns columns at.rows rows at.shown shown (subst (λ i. IsBuild segments i at.columns at.rows at.shown) n.0 at.there) there in
        inl (inl (n.0, n.1, (let i = at.column in omega (arith, i, same.0))))
    filter_to (Filter g q) n = inl (inr (inl (is_before (λ r. Filter f r) row 1 q (Filter g q) n.1 (ap (λ i. Filter i q) n.0))))
    filter_to _ n = absurd n

    row_from : (need : JobName) → IsIn (RowOf f row columns) need → IsNeed segments window reads (Filter f row) need
    row_from (Rows g c q) n =
        let listed : IsListed segments (Rows f c row) = (
          start segments (2 * f + 2) + (1 + (row * (columns + 1) + c)),
          ticket_of segments (2 * f + 2) (Build f columns rows shown) (Rows f c row) (1 + (row * (columns + 1) + c)) there (refl, n.2, less, refl),
        ) in
        (n.0, n.1, subst (λ i. IsListed segments (Rows i c q)) (sym n.0) (subst (λ i. IsListed segments (Rows f c i)) (sym n.1) listed))
    row_from _ n = absurd n

    filter_from : (need : JobName) → Names segments filter_needs need → IsNeed segments window reads (Filter f row) need
    filter_from need n =
        ⊎_elim
        (λ (x : IsInOne (Some (RowOf f row columns) ∷ job_before (λ r. Filter f r) row 1 ∷ []) need).
        ⊎_elim
        (λ (e : IsIn (RowOf f row columns) need). row_from need e)
        (λ (y : IsInIf (job_before (λ r. Filter f r) row 1) need ⊎ ⊥).
        ⊎_elim
        (λ (e : IsInIf (job_before (λ r. Filter f r) row 1) need).
        let b = of_before (λ r. Filter f r) row 1 need e in
        let here : IsNeed segments window reads (Filter f row) (Filter f (row - 1)) = (refl, (let l = b.0 in omega (arith, l))) in
        subst (λ j. IsNeed segments window reads (Filter f row) j) (sym b.1) here)
        (λ (e : ⊥). absurd e) y)
        x)
        (λ (x : PublishesOne segments no_bands need). absurd (none_published need x))
        n

    pub filter_named : (r : Needs) (span before : Option JobSpan) → span ≡ Some (RowOf f row columns) → before ≡ job_before (λ r. Filter f r) row 1 → r ≡ needs span before no_bands → (need : JobName)
        → IsNeed segments window reads (Filter f row) need ↔ Names segments r need
    filter_named r span before is so e need =
        let same : filter_needs ≡ r = ap (λ s. needs s (job_before (λ r. Filter f r) row 1) no_bands) (sym is) ∙ (ap (λ s. needs span s no_bands) (sym so) ∙ sym e) in
        subst (λ n. IsNeed segments window reads (Filter f row) need ↔ Names segments n need) same (filter_to need, filter_from need)

  -- the write of a frame
  module _ (f columns rows : ℕ) (shown : Option Shown) (there : IsBuild segments f columns rows shown) where
    abbrev pub write_bands : List (Option BandSpan)
    write_bands = first_bands f rows ∷ shown_bands shown ∷ None ∷ []

    abbrev pub write_needs : Needs
    write_needs = needs (Some (One (Close f))) (job_before Write f 1) write_bands

    build_moved : (n p : ℕ) (s : Option Shown) → IsPublished segments (Build f n p s) → IsBuild segments f n p s
    build_moved n p s x = subst (λ i. slice_get segments i ≡ Some (Build f n p s)) (h.places x.0 (Build f n p s) x.1) x.1

    same_shown : (n p : ℕ) (s : Option Shown) → IsBuild segments f n p s → shown ≡ s
    same_shown n p s x = let e = same_Some (Build f columns rows shown) (Build f n p s) (sym there ∙ x) in cc

    own_to : (g band : ℕ) → (g ≡ f) × HasOwnBand segments f band → HasBand write_bands g band
    own_to g band o =
        let same = same_build segments f o.1.0 columns o.1.1 rows o.1.2 shown (build_moved o.1.0 o.1.1 o.1.2 o.1.3) there in
        inl (is_first f rows g band (sym o.0) (let l = o.1.4 in omega (arith, l, same.1)))

    shown_to : (g band : ℕ) → ShowsBand segments f g band → HasBand write_bands g band
    shown_to g band s =
        let is = same_shown s.0 s.1 (Some s.2) (build_moved s.0 s.1 (Some s.2) s.3) in
        inr (inl (subst (λ o. IsInSpan (shown_bands o) g band) (sym is) (is_first s.2.frame s.2.bands g band s.4 s.5)))

    write_to : (need : JobName) → IsNeed segments window reads (Write f) need → Names segments write_needs need
    write_to (Close g) n = inl (inl (ap Close n))
    write_to (Filter g q) n = inr (n.0, ⊎_elim (own_to g n.0) (shown_to g n.0) n.1, n.2)
    write_to (Write g) n = inl (inr (inl (is_before Write f 1 g (Write g) n refl)))
    write_to _ n = absurd n

    shown_from : (o : Option Shown) (g band : ℕ) → shown ≡ o → IsInSpan (shown_bands o) g band → ShowsBand segments f g band
    shown_from None g band is n = absurd n
    shown_from (Some s) g band is n =
        let b = of_first s.frame s.bands g band n in
        (columns, rows, s, (2 * f + 2, subst (λ o. IsBuild segments f columns rows o) is there), b.0, b.1)

    bands_from : (g band : ℕ) → HasBand write_bands g band → NeedsBand segments reads (Write f) g band
    bands_from g band n =
        ⊎_elim
        (λ (x : IsInSpan (first_bands f rows) g band). let b = of_first f rows g band x in inl (sym b.0, (columns, rows, shown, (2 * f + 2, there), b.1)))
        (λ (y : IsInSpan (shown_bands shown) g band ⊎ (⊥ ⊎ ⊥)).
        ⊎_elim (λ (x : IsInSpan (shown_bands shown) g band). inr (shown_from shown g band refl x)) (λ (x : ⊥ ⊎ ⊥). absurd (⊎_elim (λ (e : ⊥). e) (λ (e : ⊥). e) x)) y)
        n

    published_from : (need : JobName) → PublishesOne segments write_bands need → IsNeed segments window reads (Write f) need
    published_from (Filter g q) n = (n.0, bands_from g n.0 n.1, n.2)
    published_from _ n = absurd n

    write_from : (need : JobName) → Names segments write_needs need → IsNeed segments window reads (Write f) need
    write_from need n =
        ⊎_elim
        (λ (x : IsInOne (Some (One (Close f)) ∷ job_before Write f 1 ∷ []) need).
        ⊎_elim
        (λ (e : need ≡ Close f). let here : IsNeed segments window reads (Write f) (Close f) = refl in subst (λ j. IsNeed segments window reads (Write f) j) (sym e) here)
        (λ (y : IsInIf (job_before Write f 1) need ⊎ ⊥).
        ⊎_elim
        (λ (e : IsInIf (job_before Write f 1) need).
        let b = of_before Write f 1 need e in
        let here : IsNeed segments window reads (Write f) (Write (f - 1)) = (let l = b.0 in omega (arith, l)) in
        subst (λ j. IsNeed segments window reads (Write f) j) (sym b.1) here)
        (λ (e : ⊥). absurd e) y)
        x)
        (λ (x : PublishesOne segments write_bands need). published_from need x)
        n

    pub write_named : (r : Needs) → r ≡ write_needs → (need : JobName) → IsNeed segments window reads (Write f) need ↔ Names segments r need
    write_named r e need = subst (λ n. IsNeed segments window reads (Write f) need ↔ Names segments n need) (sym e) (write_to need, write_from need)

  pub parsed_there : (job : JobName) (f : ℕ) → job ≡ Close f → IsListed segments job → IsParsed segments f
  parsed_there job f is l = let at = close_home segments h l.0 f (l.1 ∙ ap Some is) in (at.columns, at.there)

  pub built_filter : (job : JobName) (f row : ℕ) → job ≡ Filter f row → IsListed segments job → IsBuilt segments f
  built_filter job f row is l = let at = filter_home segments h l.0 f row (l.1 ∙ ap Some is) in (at.columns, at.rows, at.shown, at.there)

  pub built_write : (job : JobName) (f : ℕ) → job ≡ Write f → IsListed segments job → IsBuilt segments f
  built_write job f is l = let at = write_home segments h l.0 f (l.1 ∙ ap Some is) in (at.columns, at.rows, at.shown, at.there)

  pub row_inside : (job : JobName) (f row columns rows : ℕ) (shown : Option Shown) → IsBuild segments f columns rows shown → job ≡ Filter f row → IsListed segments job → row < rows
  row_inside job f row columns rows shown there is l =
      let at = filter_home segments h l.0 f row (l.1 ∙ ap Some is) in
      let same = same_build segments f at.columns columns at.rows rows at.shown shown at.there there in
      let i = at.row in omega (arith, i, same.1)
