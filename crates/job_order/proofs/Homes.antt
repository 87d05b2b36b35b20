-- Which segment a job stands in, and where.
use Rattle.std.proofs.Common.{◌≡◌, ◌≢◌, ℕ, zero, suc, ◌+◌, ◌*◌, ◌<◌, ◌⊎◌, inl, inr, ⊎_elim, refl, sym, ◌∙◌, ap, subst, List, [], ◌∷◌, length, slice_get, Option, Some, arith}
use Rattle.vp9_types.specs.declared.job.JobName.TheVariants.{Head, Column, Close, Rows, Filter, Write, End}
use Rattle.job_order.specs.declared.segment.Segment.{Segment}
use Rattle.job_order.specs.declared.segment.Segment.TheVariants.{Opening, Parse, Build, Last}
use Rattle.job_order.specs.declared.segment.Shown.{Shown}
use Rattle.job_order.specs.JobSegments.{job_at, IsBelow, InOrder}
use Rattle.job_order.proofs.Orders.{StandsIn, start, find, earlier_segment}

abbrev pub IsParse : List Segment → ℕ → ℕ → Type 0
IsParse segments f columns = slice_get segments (2 * f + 1) ≡ Some (Parse f columns)

abbrev pub IsBuild : List Segment → ℕ → ℕ → ℕ → Option Shown → Type 0
IsBuild segments f columns rows shown = slice_get segments (2 * f + 2) ≡ Some (Build f columns rows shown)

pub record ColumnHome (segments : List Segment) (ticket f c : ℕ) : Type 0 where
  pub columns : ℕ
  pub there : IsParse segments f columns
  pub inside : c < columns
  pub is : ticket ≡ start segments (2 * f + 1) + c

pub record CloseHome (segments : List Segment) (ticket f : ℕ) : Type 0 where
  pub columns : ℕ
  pub there : IsParse segments f columns
  pub is : ticket ≡ start segments (2 * f + 1) + columns

pub record RowsHome (segments : List Segment) (ticket f c r : ℕ) : Type 0 where
  pub columns : ℕ
  pub rows : ℕ
  pub shown : Option Shown
  pub there : IsBuild segments f columns rows shown
  pub column : c < columns
  pub row : r < rows
  pub is : ticket ≡ start segments (2 * f + 2) + (1 + (r * (columns + 1) + c))

pub record FilterHome (segments : List Segment) (ticket f r : ℕ) : Type 0 where
  pub columns : ℕ
  pub rows : ℕ
  pub shown : Option Shown
  pub there : IsBuild segments f columns rows shown
  pub row : r < rows
  pub is : ticket ≡ start segments (2 * f + 2) + (1 + (r * (columns + 1) + columns))

pub record WriteHome (segments : List Segment) (ticket f : ℕ) : Type 0 where
  pub columns : ℕ
  pub rows : ℕ
  pub shown : Option Shown
  pub there : IsBuild segments f columns rows shown
  pub is : ticket ≡ start segments (2 * f + 2) + (1 + rows * (columns + 1))

pub record HeadHome (segments : List Segment) (ticket f : ℕ) : Type 0 where
  pub segment : Segment
  pub there : slice_get segments (2 * f) ≡ Some segment
  pub goes_on : (g : ℕ) → segment ≢ Last g
  pub is : ticket ≡ start segments (2 * f) + 0

pub record EndHome (segments : List Segment) (ticket f : ℕ) : Type 0 where
  pub place : ℕ
  pub there : slice_get segments place ≡ Some (Last f)
  pub either : (place ≡ 2 * f + 1) ⊎ (place ≡ 2 * f + 2)
  pub is : ticket ≡ start segments place + 0

moved : (segments : List Segment) (place p ticket k n : ℕ) → place ≡ p → k ≡ n → ticket ≡ start segments place + k → ticket ≡ start segments p + n
moved segments place p ticket k n same is e = let h : ticket ≡ start segments p + k = subst (λ i. ticket ≡ start segments i + k) same e in omega (arith, h, is)

parse_moved : (segments : List Segment) (place f g columns : ℕ) → place ≡ 2 * g + 1 → f ≡ g → slice_get segments place ≡ Some (Parse g columns) → IsParse segments f columns
parse_moved segments place f g columns same is e =
    subst (λ i. IsParse segments i columns) (sym is) (subst (λ i. slice_get segments i ≡ Some (Parse g columns)) same e)

build_moved : (segments : List Segment) (place f g columns rows : ℕ) (shown : Option Shown) → place ≡ 2 * g + 2 → f ≡ g → slice_get segments place ≡ Some (Build g columns rows shown)
    → IsBuild segments f columns rows shown
build_moved segments place f g columns rows shown same is e =
    subst (λ i. IsBuild segments i columns rows shown) (sym is) (subst (λ i. slice_get segments i ≡ Some (Build g columns rows shown)) same e)

module _ (segments : List Segment) (h : InOrder segments) where
  column_in : (place : ℕ) (s : Segment) (k ticket f c : ℕ) → slice_get segments place ≡ Some s → StandsIn s (Column f c) k → ticket ≡ start segments place + k → ColumnHome segments ticket f c
  column_in place Opening k ticket f c e x is = absurd x
  column_in place (Parse g columns) k ticket f c e x is =
      let at = h.places place (Parse g columns) e in
      record { columns = columns; there = parse_moved segments place f g columns at x.0 e; inside = x.1; is = moved segments place (2 * f + 1) ticket k c (omega (arith, at, x.0)) x.2 is }
  column_in place (Build g columns rows shown) k ticket f c e x is = absurd x
  column_in place (Last g) k ticket f c e x is = absurd x

  pub column_home : (ticket f c : ℕ) → job_at segments ticket ≡ Some (Column f c) → ColumnHome segments ticket f c
  column_home ticket f c e = let at = find segments ticket (Column f c) e in column_in at.place at.segment at.k ticket f c at.there at.stands at.is

  close_in : (place : ℕ) (s : Segment) (k ticket f : ℕ) → slice_get segments place ≡ Some s → StandsIn s (Close f) k → ticket ≡ start segments place + k → CloseHome segments ticket f
  close_in place Opening k ticket f e x is = absurd x
  close_in place (Parse g columns) k ticket f e x is =
      let at = h.places place (Parse g columns) e in
      record { columns = columns; there = parse_moved segments place f g columns at x.0 e; is = moved segments place (2 * f + 1) ticket k columns (omega (arith, at, x.0)) x.1 is }
  close_in place (Build g columns rows shown) k ticket f e x is = absurd x
  close_in place (Last g) k ticket f e x is = absurd x

  pub close_home : (ticket f : ℕ) → job_at segments ticket ≡ Some (Close f) → CloseHome segments ticket f
  close_home ticket f e = let at = find segments ticket (Close f) e in close_in at.place at.segment at.k ticket f at.there at.stands at.is

  rows_in : (place : ℕ) (s : Segment) (k ticket f c r : ℕ) → slice_get segments place ≡ Some s → StandsIn s (Rows f c r) k → ticket ≡ start segments place + k → RowsHome segments ticket f c r
  rows_in place Opening k ticket f c r e x is = absurd x
  rows_in place (Parse g columns) k ticket f c r e x is = absurd x
  rows_in place (Build g columns rows shown) k ticket f c r e x is =
      let at = h.places place (Build g columns rows shown) e in
      record {
        columns = columns;
        rows = rows;
        shown = shown;
        there = build_moved segments place f g columns rows shown at x.0 e;
        column = x.1;
        row = x.2;
        is = moved segments place (2 * f + 2) ticket k (1 + (r * (columns + 1) + c)) (omega (arith, at, x.0)) x.3 is;
      }
  rows_in place (Last g) k ticket f c r e x is = absurd x

  pub rows_home : (ticket f c r : ℕ) → job_at segments ticket ≡ Some (Rows f c r) → RowsHome segments ticket f c r
  rows_home ticket f c r e = let at = find segments ticket (Rows f c r) e in rows_in at.place at.segment at.k ticket f c r at.there at.stands at.is

  filter_in : (place : ℕ) (s : Segment) (k ticket f r : ℕ) → slice_get segments place ≡ Some s → StandsIn s (Filter f r) k → ticket ≡ start segments place + k → FilterHome segments ticket f r
  filter_in place Opening k ticket f r e x is = absurd x
  filter_in place (Parse g columns) k ticket f r e x is = absurd x
  filter_in place (Build g columns rows shown) k ticket f r e x is =
      let at = h.places place (Build g columns rows shown) e in
      record {
        columns = columns;
        rows = rows;
        shown = shown;
        there = build_moved segments place f g columns rows shown at x.0 e;
        row = x.1;
        is = moved segments place (2 * f + 2) ticket k (1 + (r * (columns + 1) + columns)) (omega (arith, at, x.0)) x.2 is;
      }
  filter_in place (Last g) k ticket f r e x is = absurd x

  pub filter_home : (ticket f r : ℕ) → job_at segments ticket ≡ Some (Filter f r) → FilterHome segments ticket f r
  filter_home ticket f r e = let at = find segments ticket (Filter f r) e in filter_in at.place at.segment at.k ticket f r at.there at.stands at.is

  write_in : (place : ℕ) (s : Segment) (k ticket f : ℕ) → slice_get segments place ≡ Some s → StandsIn s (Write f) k → ticket ≡ start segments place + k → WriteHome segments ticket f
  write_in place Opening k ticket f e x is = absurd x
  write_in place (Parse g columns) k ticket f e x is = absurd x
  write_in place (Build g columns rows shown) k ticket f e x is =
      let at = h.places place (Build g columns rows shown) e in
      record {
        columns = columns;
        rows = rows;
        shown = shown;
        there = build_moved segments place f g columns rows shown at x.0 e;
        is = moved segments place (2 * f + 2) ticket k (1 + rows * (columns + 1)) (omega (arith, at, x.0)) x.1 is;
      }
  write_in place (Last g) k ticket f e x is = absurd x

  pub write_home : (ticket f : ℕ) → job_at segments ticket ≡ Some (Write f) → WriteHome segments ticket f
  write_home ticket f e = let at = find segments ticket (Write f) e in write_in at.place at.segment at.k ticket f at.there at.stands at.is

  head_in : (place : ℕ) (s : Segment) (k ticket f : ℕ) → slice_get segments place ≡ Some s → StandsIn s (Head f) k → ticket ≡ start segments place + k → HeadHome segments ticket f
  head_in place Opening k ticket f e x is =
      let at = h.places place Opening e in
      let same : place ≡ 2 * f = omega (arith, at, x.0) in
      record { segment = Opening; there = subst (λ i. slice_get segments i ≡ Some Opening) same e; goes_on = λ g bad. cc; is = moved segments place (2 * f) ticket k 0 same x.1 is }
  head_in place (Parse g columns) k ticket f e x is = absurd x
  head_in place (Build g columns rows shown) k ticket f e x is =
      let at = h.places place (Build g columns rows shown) e in
      let same : place ≡ 2 * f = omega (arith, at, x.0) in
      record { segment = Build g columns rows shown; there = subst (λ i. slice_get segments i ≡ Some (Build g columns rows shown)) same e; goes_on = λ g bad. cc; is = moved segments place (2 * f) ticket k 0 same x.1 is }
  head_in place (Last g) k ticket f e x is = absurd x

  pub head_home : (ticket f : ℕ) → job_at segments ticket ≡ Some (Head f) → HeadHome segments ticket f
  head_home ticket f e = let at = find segments ticket (Head f) e in head_in at.place at.segment at.k ticket f at.there at.stands at.is

  end_in : (place : ℕ) (s : Segment) (k ticket f : ℕ) → slice_get segments place ≡ Some s → StandsIn s (End f) k → ticket ≡ start segments place + k → EndHome segments ticket f
  end_in place Opening k ticket f e x is = absurd x
  end_in place (Parse g columns) k ticket f e x is = absurd x
  end_in place (Build g columns rows shown) k ticket f e x is = absurd x
  end_in place (Last g) k ticket f e x is =
      let at = h.places place (Last g) e in
      record {
        place = place;
        there = e ∙ ap (λ i. Some (Last i)) (sym x.0);
        either = ⊎_elim (λ (y : place ≡ 2 * g + 1). inl (let z : place ≡ 2 * f + 1 = omega (arith, y, x.0) in z)) (λ (y : place ≡ 2 * g + 2). inr (let z : place ≡ 2 * f + 2 = omega (arith, y, x.0) in z)) at;
        is = let i = x.1 in omega (arith, i, is);
      }

  pub end_home : (ticket f : ℕ) → job_at segments ticket ≡ Some (End f) → EndHome segments ticket f
  end_home ticket f e = let at = find segments ticket (End f) e in end_in at.place at.segment at.k ticket f at.there at.stands at.is

  -- what stands at a place before the last one
  pub some_at : (xs : List Segment) (k : ℕ) → k < length xs → (s : Segment) × (slice_get xs k ≡ Some s)
  some_at [] k less = absurd (omega arith)
  some_at (x ∷ xs) zero less = (x, refl)
  some_at (x ∷ xs) (suc k) less = some_at xs k (omega arith)

  opening_as : (s : Segment) → slice_get segments 0 ≡ Some s → slice_get segments 0 ≡ Some Opening
  opening_as Opening e = e
  opening_as (Parse g columns) e = let at = h.places 0 (Parse g columns) e in absurd (omega (arith, at))
  opening_as (Build g columns rows shown) e = let at = h.places 0 (Build g columns rows shown) e in absurd (omega (arith, at))
  opening_as (Last g) e = ⊎_elim (λ (y : 0 ≡ 2 * g + 1). absurd (omega (arith, y))) (λ (y : 0 ≡ 2 * g + 2). absurd (omega (arith, y))) (h.places 0 (Last g) e)

  pub opening_there : 0 < length segments → slice_get segments 0 ≡ Some Opening
  opening_there less = let s = some_at segments 0 less in opening_as s.0 s.1

  parse_as : (f : ℕ) (s : Segment) → 2 * f + 2 < length segments → slice_get segments (2 * f + 1) ≡ Some s → (columns : ℕ) × IsParse segments f columns
  parse_as f Opening less e = let at = h.places (2 * f + 1) Opening e in absurd (omega (arith, at))
  parse_as f (Parse g columns) less e = let at = h.places (2 * f + 1) (Parse g columns) e in (columns, e ∙ ap (λ i. Some (Parse i columns)) (let z : g ≡ f = omega (arith, at) in z))
  parse_as f (Build g columns rows shown) less e = let at = h.places (2 * f + 1) (Build g columns rows shown) e in absurd (omega (arith, at))
  parse_as f (Last g) less e = let l = h.last (2 * f + 1) g e in absurd (omega (arith, l, less))

  pub parse_there : (f : ℕ) → 2 * f + 2 < length segments → (columns : ℕ) × IsParse segments f columns
  parse_there f less = let s = some_at segments (2 * f + 1) (omega arith) in parse_as f s.0 less s.1

  build_as : (f : ℕ) (s : Segment) → 2 * f + 3 < length segments → slice_get segments (2 * f + 2) ≡ Some s → (columns : ℕ) × (rows : ℕ) × (shown : Option Shown) × IsBuild segments f columns rows shown
  build_as f Opening less e = let at = h.places (2 * f + 2) Opening e in absurd (omega (arith, at))
  build_as f (Parse g columns) less e = let at = h.places (2 * f + 2) (Parse g columns) e in absurd (omega (arith, at))
  build_as f (Build g columns rows shown) less e =
      let at = h.places (2 * f + 2) (Build g columns rows shown) e in (columns, rows, shown, e ∙ ap (λ i. Some (Build i columns rows shown)) (let z : g ≡ f = omega (arith, at) in z))
  build_as f (Last g) less e = let l = h.last (2 * f + 2) g e in absurd (omega (arith, l, less))

  pub build_there : (f : ℕ) → 2 * f + 3 < length segments → (columns : ℕ) × (rows : ℕ) × (shown : Option Shown) × IsBuild segments f columns rows shown
  build_there f less = let s = some_at segments (2 * f + 2) (omega arith) in build_as f s.0 less s.1

  pub head_below : (f place n ticket : ℕ) → 2 * f < place → place < length segments → ticket ≡ start segments place + n → IsBelow segments ticket (Head f)
  head_below zero place n ticket less inside is = earlier_segment segments 0 place Opening (Head 0) 0 n ticket (opening_there (omega (arith, inside))) (refl, refl) (omega (arith, less)) is
  head_below (suc f) place n ticket less inside is =
      let b = build_there f (omega (arith, less, inside)) in
      earlier_segment segments (2 * f + 2) place (Build f b.0 b.1 b.2) (Head (suc f)) 0 n ticket b.3 (omega arith, refl) (omega (arith, less)) is

  pub close_below : (f place n ticket : ℕ) → 2 * f + 1 < place → place < length segments → ticket ≡ start segments place + n → IsBelow segments ticket (Close f)
  close_below f place n ticket less inside is =
      let p = parse_there f (omega (arith, less, inside)) in
      earlier_segment segments (2 * f + 1) place (Parse f p.0) (Close f) p.0 n ticket p.1 (refl, refl) less is

  pub write_below : (f place n ticket : ℕ) → 2 * f + 2 < place → place < length segments → ticket ≡ start segments place + n → IsBelow segments ticket (Write f)
  write_below f place n ticket less inside is =
      let b = build_there f (omega (arith, less, inside)) in
      earlier_segment segments (2 * f + 2) place (Build f b.0 b.1 b.2) (Write f) (1 + b.1 * (b.0 + 1)) n ticket b.3 (refl, refl) less is
