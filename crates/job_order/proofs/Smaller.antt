-- Each need has a smaller ticket.
use Rattle.std.proofs.Common.{◌≡◌, ℕ, ◌+◌, ◌*◌, ◌<◌, ◌≤◌, ⊎_elim, refl, sym, ◌∙◌, subst, List, length, slice_get, Option, Some, arith, mul-le-mul_right, add-mul, eq-or-lt_of_le, le_of_eq}
use Rattle.std.proofs.lemmas.Option.{same_Some, slice_get_within}
use Rattle.vp9_types.specs.declared.job.JobName.{JobName}
use Rattle.vp9_types.specs.declared.job.JobName.TheVariants.{Head, Column, Close, Rows, Filter, Write, End}
use Rattle.vp9_types.specs.declared.job.BandSpan.{BandSpan}
use Rattle.job_order.specs.declared.segment.Segment.{Segment}
use Rattle.job_order.specs.declared.segment.Segment.TheVariants.{Parse, Build, Last}
use Rattle.job_order.specs.declared.segment.Shown.{Shown}
use Rattle.job_order.specs.JobSegments.{job_at, IsListed, IsBelow, InOrder}
use Rattle.job_order.specs.Needs.{IsNeed, HasBand, ShowsBand}
use Rattle.job_order.proofs.Orders.{start, earlier_segment, same_segment}
use Rattle.job_order.proofs.Homes.{ColumnHome, CloseHome, RowsHome, FilterHome, WriteHome, HeadHome, EndHome, IsParse, IsBuild, column_home, close_home, rows_home, filter_home, write_home, head_home, end_home, head_below, close_below, write_below}

pub same_columns : (segments : List Segment) (f m n : ℕ) → IsParse segments f m → IsParse segments f n → m ≡ n
same_columns segments f m n a b = let e = same_Some (Parse f m) (Parse f n) (sym a ∙ b) in cc

pub same_build : (segments : List Segment) (f m n p q : ℕ) (s t : Option Shown) → IsBuild segments f m p s → IsBuild segments f n q t → (m ≡ n) × (p ≡ q)
same_build segments f m n p q s t a b = let e = same_Some (Build f m p s) (Build f n q t) (sym a ∙ b) in (cc, cc)

-- rows one after another
row_step : (long q r : ℕ) → q < r → q * long + long ≤ r * long
row_step long q r less = let a = mul-le-mul_right long (let z : q + 1 ≤ r = omega arith in z) in let m : (q + 1) * long ≡ q * long + 1 * long = add-mul q 1 long in omega (arith, a, m)

module _ (segments : List Segment) (window : ℕ) (reads : List (Option BandSpan)) (wide : 2 ≤ window) (h : InOrder segments) where
  within : (place : ℕ) (s : Segment) → slice_get segments place ≡ Some s → place < length segments
  within place s e = slice_get_within segments place s e

  smaller_head : (ticket f : ℕ) (need : JobName) → HeadHome segments ticket f → IsNeed segments window reads (Head f) need → IsBelow segments ticket need
  smaller_head ticket f (Close g) at n = close_below segments h g (2 * f) 0 ticket (omega (arith, n)) (within (2 * f) at.segment at.there) at.is
  smaller_head ticket f (Write g) at n = write_below segments h g (2 * f) 0 ticket (omega (arith, n, wide)) (within (2 * f) at.segment at.there) at.is
  smaller_head ticket f _ at n = absurd n

  smaller_column : (ticket f c : ℕ) (need : JobName) → ColumnHome segments ticket f c → IsNeed segments window reads (Column f c) need → IsBelow segments ticket need
  smaller_column ticket f c (Head g) at n = head_below segments h g (2 * f + 1) c ticket (omega (arith, n)) (within (2 * f + 1) (Parse f at.columns) at.there) at.is
  smaller_column ticket f c _ at n = absurd n

  column_before : (ticket f c : ℕ) → CloseHome segments ticket f → IsListed segments (Column f c) → IsBelow segments ticket (Column f c)
  column_before ticket f c at listed =
      let there = column_home segments h listed.0 f c listed.1 in
      let same = same_columns segments f there.columns at.columns there.there at.there in
      same_segment segments (2 * f + 1) (Parse f at.columns) (Column f c) c at.columns ticket at.there (refl, let i = there.inside in omega (arith, i, same), refl)
      (let i = there.inside in omega (arith, i, same)) at.is

  smaller_close : (ticket f : ℕ) (need : JobName) → CloseHome segments ticket f → IsNeed segments window reads (Close f) need → IsBelow segments ticket need
  smaller_close ticket f (Head g) at n = head_below segments h g (2 * f + 1) at.columns ticket (omega (arith, n)) (within (2 * f + 1) (Parse f at.columns) at.there) at.is
  smaller_close ticket f (Column g c) at n =
      subst (λ i. IsBelow segments ticket (Column i c)) (sym n.0) (column_before ticket f c at (subst (λ i. IsListed segments (Column i c)) n.0 n.1))
  smaller_close ticket f _ at n = absurd n

  -- a filter of an earlier frame
  filter_before : (place n ticket g q f : ℕ) → IsListed segments (Filter g q) → g < f → place ≡ 2 * f + 2 → ticket ≡ start segments place + n → IsBelow segments ticket (Filter g q)
  filter_before place n ticket g q f listed less at is =
      let there = filter_home segments h listed.0 g q listed.1 in
      earlier_segment segments (2 * g + 2) place (Build g there.columns there.rows there.shown) (Filter g q) (1 + (q * (there.columns + 1) + there.columns)) n ticket there.there
      (refl, there.row, refl) (omega (arith, less, at)) is

  rows_above : (ticket f c q : ℕ) → RowsHome segments ticket f c (q + 1) → IsBelow segments ticket (Rows f c q)
  rows_above ticket f c q at =
      let step = row_step (at.columns + 1) q (q + 1) (omega arith) in
      same_segment segments (2 * f + 2) (Build f at.columns at.rows at.shown) (Rows f c q) (1 + (q * (at.columns + 1) + c)) (1 + ((q + 1) * (at.columns + 1) + c)) ticket at.there
      (refl, at.column, let r = at.row in omega (arith, r), refl) (omega (arith, step)) at.is

  smaller_rows : (ticket f c r : ℕ) (need : JobName) → ((g band : ℕ) → HasBand reads g band → g < f) → RowsHome segments ticket f c r → IsNeed segments window reads (Rows f c r) need
      → IsBelow segments ticket need
  smaller_rows ticket f c r (Close g) early at n =
      close_below segments h g (2 * f + 2) (1 + (r * (at.columns + 1) + c)) ticket (omega (arith, n)) (within (2 * f + 2) (Build f at.columns at.rows at.shown) at.there) at.is
  smaller_rows ticket f c r (Rows g d q) early at n =
      let here : IsBelow segments ticket (Rows f c q) = rows_above ticket f c q (subst (λ i. RowsHome segments ticket f c i) n.2 at) in
      subst (λ i. IsBelow segments ticket (Rows i d q)) (sym n.0) (subst (λ i. IsBelow segments ticket (Rows f i q)) (sym n.1) here)
  smaller_rows ticket f c r (Filter g q) early at n =
      filter_before (2 * f + 2) (1 + (r * (at.columns + 1) + c)) ticket g q f n.2.0 (early g n.0 n.1) refl at.is
  smaller_rows ticket f c r _ early at n = absurd n

  rows_before : (ticket f c r : ℕ) → FilterHome segments ticket f r → IsListed segments (Rows f c r) → IsBelow segments ticket (Rows f c r)
  rows_before ticket f c r at listed =
      let there = rows_home segments h listed.0 f c r listed.1 in
      let same = same_build segments f there.columns at.columns there.rows at.rows there.shown at.shown there.there at.there in
      let inside : c < at.columns = let i = there.column in omega (arith, i, same.0) in
      same_segment segments (2 * f + 2) (Build f at.columns at.rows at.shown) (Rows f c r) (1 + (r * (at.columns + 1) + c)) (1 + (r * (at.columns + 1) + at.columns)) ticket at.there
      (refl, inside, at.row, refl) (omega (arith, inside)) at.is

  filter_above : (ticket f q : ℕ) → FilterHome segments ticket f (q + 1) → IsBelow segments ticket (Filter f q)
  filter_above ticket f q at =
      let step = row_step (at.columns + 1) q (q + 1) (omega arith) in
      same_segment segments (2 * f + 2) (Build f at.columns at.rows at.shown) (Filter f q) (1 + (q * (at.columns + 1) + at.columns)) (1 + ((q + 1) * (at.columns + 1) + at.columns)) ticket at.there
      (refl, let r = at.row in omega (arith, r), refl) (omega (arith, step)) at.is

  smaller_filter : (ticket f r : ℕ) (need : JobName) → FilterHome segments ticket f r → IsNeed segments window reads (Filter f r) need → IsBelow segments ticket need
  smaller_filter ticket f r (Rows g c q) at n =
      let here : IsBelow segments ticket (Rows f c r) = rows_before ticket f c r at (subst (λ i. IsListed segments (Rows i c r)) n.0 (subst (λ i. IsListed segments (Rows g c i)) n.1 n.2)) in
      subst (λ i. IsBelow segments ticket (Rows i c q)) (sym n.0) (subst (λ i. IsBelow segments ticket (Rows f c i)) (sym n.1) here)
  smaller_filter ticket f r (Filter g q) at n =
      subst (λ i. IsBelow segments ticket (Filter i q)) (sym n.0) (filter_above ticket f q (subst (λ i. FilterHome segments ticket f i) n.1 at))
  smaller_filter ticket f r _ at n = absurd n

  own_filter : (ticket f q : ℕ) → WriteHome segments ticket f → IsListed segments (Filter f q) → IsBelow segments ticket (Filter f q)
  own_filter ticket f q at listed =
      let there = filter_home segments h listed.0 f q listed.1 in
      let same = same_build segments f there.columns at.columns there.rows at.rows there.shown at.shown there.there at.there in
      let inside : q < at.rows = let i = there.row in omega (arith, i, same.1) in
      let step = row_step (at.columns + 1) q at.rows inside in
      same_segment segments (2 * f + 2) (Build f at.columns at.rows at.shown) (Filter f q) (1 + (q * (at.columns + 1) + at.columns)) (1 + at.rows * (at.columns + 1)) ticket at.there
      (refl, inside, refl) (omega (arith, step)) at.is

  any_filter : (ticket f g q : ℕ) → WriteHome segments ticket f → g ≤ f → IsListed segments (Filter g q) → IsBelow segments ticket (Filter g q)
  any_filter ticket f g q at le listed =
      ⊎_elim
      (λ (same : g ≡ f). subst (λ i. IsBelow segments ticket (Filter i q)) (sym same) (own_filter ticket f q at (subst (λ i. IsListed segments (Filter i q)) same listed)))
      (λ (less : g < f). filter_before (2 * f + 2) (1 + at.rows * (at.columns + 1)) ticket g q f listed less refl at.is)
      (eq-or-lt_of_le le)

  smaller_write : (ticket f : ℕ) (need : JobName) → WriteHome segments ticket f → IsNeed segments window reads (Write f) need → IsBelow segments ticket need
  smaller_write ticket f (Close g) at n =
      close_below segments h g (2 * f + 2) (1 + at.rows * (at.columns + 1)) ticket (omega (arith, n)) (within (2 * f + 2) (Build f at.columns at.rows at.shown) at.there) at.is
  smaller_write ticket f (Filter g q) at n =
      any_filter ticket f g q at
      (⊎_elim (λ (x : (g ≡ f) × _). le_of_eq x.0)
      (λ (x : ShowsBand segments f g n.0). subst (λ i. i ≤ f) x.4 (h.shown f x.0 x.1 x.2 x.3)) n.1) n.2.0
  smaller_write ticket f (Write g) at n =
      write_below segments h g (2 * f + 2) (1 + at.rows * (at.columns + 1)) ticket (omega (arith, n)) (within (2 * f + 2) (Build f at.columns at.rows at.shown) at.there) at.is
  smaller_write ticket f _ at n = absurd n

  smaller_end : (ticket f : ℕ) (need : JobName) → EndHome segments ticket f → IsNeed segments window reads (End f) need → IsBelow segments ticket need
  smaller_end ticket f (Write g) at n =
      write_below segments h g at.place 0 ticket
      (⊎_elim (λ (x : at.place ≡ 2 * f + 1). let z : 2 * g + 2 < at.place = omega (arith, x, n) in z) (λ (x : at.place ≡ 2 * f + 2). let z : 2 * g + 2 < at.place = omega (arith, x, n) in z) at.either)
      (within at.place (Last f) at.there) at.is
  smaller_end ticket f _ at n = absurd n

  -- what a job of a superblock row reads is of earlier frames
  abbrev pub AreEarly : JobName → Type 0
  AreEarly job = (f c r g band : ℕ) → job ≡ Rows f c r → HasBand reads g band → g < f

  pub smaller : (ticket : ℕ) (job need : JobName) → AreEarly job → job_at segments ticket ≡ Some job → IsNeed segments window reads job need → IsBelow segments ticket need
  smaller ticket (Head f) need early e n = smaller_head ticket f need (head_home segments h ticket f e) n
  smaller ticket (Column f c) need early e n = smaller_column ticket f c need (column_home segments h ticket f c e) n
  smaller ticket (Close f) need early e n = smaller_close ticket f need (close_home segments h ticket f e) n
  smaller ticket (Rows f c r) need early e n = smaller_rows ticket f c r need (λ g band b. early f c r g band refl b) (rows_home segments h ticket f c r e) n
  smaller ticket (Filter f r) need early e n = smaller_filter ticket f r need (filter_home segments h ticket f r e) n
  smaller ticket (Write f) need early e n = smaller_write ticket f need (write_home segments h ticket f e) n
  smaller ticket (End f) need early e n = smaller_end ticket f need (end_home segments h ticket f e) n
