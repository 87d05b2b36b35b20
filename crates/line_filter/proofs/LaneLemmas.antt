-- Lanes, one line more at a time.
use Rattle.std.proofs.Common.{◌≡◌, ℕ, ◌+◌, ◌<◌, List, [], ◌∷◌, sym, length-set, length, set, refl, ◌∙◌, ap, arith, below_more, slice_index}
use Rattle.std.proofs.lemmas.Grind.{get_or-set_at}
use Rattle.std.proofs.lemmas.List.{get_or-set_other}
use Rattle.line_filter.specs.declared.lanes.Lanes.{Lanes}
use Rattle.line_filter.specs.declared.near.Near.{Near}
use Rattle.line_filter.specs.declared.far.Wide.{Wide}
use Rattle.line_filter.specs.Lines.{Line}
use Rattle.line_filter.specs.Code.{line_of, wide_line_of, near_at, near_between, far_between}

-- eight rows with the samples of a line at column n
abbrev pub with_line_at : Lanes → ℕ → Near → Lanes
with_line_at x n r = record {
  r0 = set x.r0 n r.p3;
  r1 = set x.r1 n r.p2;
  r2 = set x.r2 n r.p1;
  r3 = set x.r3 n r.p0;
  r4 = set x.r4 n r.q0;
  r5 = set x.r5 n r.q1;
  r6 = set x.r6 n r.q2;
  r7 = set x.r7 n r.q3;
}

-- each row has eight samples
pub record AreFull (x : Lanes) : Type 0 where
  pub r0 : ◌≡◌ {A = ℕ} (length x.r0) 8
  pub r1 : ◌≡◌ {A = ℕ} (length x.r1) 8
  pub r2 : ◌≡◌ {A = ℕ} (length x.r2) 8
  pub r3 : ◌≡◌ {A = ℕ} (length x.r3) 8
  pub r4 : ◌≡◌ {A = ℕ} (length x.r4) 8
  pub r5 : ◌≡◌ {A = ℕ} (length x.r5) 8
  pub r6 : ◌≡◌ {A = ℕ} (length x.r6) 8
  pub r7 : ◌≡◌ {A = ℕ} (length x.r7) 8

pub full_more : (x : Lanes) (n : ℕ) (r : Near) → AreFull x → AreFull (with_line_at x n r)
full_more x n r so = record {
  r0 = rw length-set so.r0;
  r1 = rw length-set so.r1;
  r2 = rw length-set so.r2;
  r3 = rw length-set so.r3;
  r4 = rw length-set so.r4;
  r5 = rw length-set so.r5;
  r6 = rw length-set so.r6;
  r7 = rw length-set so.r7;
}

other : (u : List ℕ) (n x j : ℕ) → j < n → slice_index (set u n x) j ≡ slice_index u j
other u n x j low = get_or-set_other u n j x 0 (λ same. omega arith)

here : (u : List ℕ) (n x : ℕ) → length u ≡ 8 → n < 8 → slice_index (set u n x) n ≡ x
here u n x long low = get_or-set_at u n n x 0 refl (omega (arith, long))

near_before : (x : Lanes) (n : ℕ) (r : Near) (j : ℕ) → j < n → near_at (with_line_at x n r) j ≡ near_at x j
unfolding near_at
near_before x n r j low = rw (
  other x.r0 n r.p3 j low,
  other x.r1 n r.p2 j low,
  other x.r2 n r.p1 j low,
  other x.r3 n r.p0 j low,
  other x.r4 n r.q0 j low,
  other x.r5 n r.q1 j low,
  other x.r6 n r.q2 j low,
  other x.r7 n r.q3 j low,
) refl

near_here : (x : Lanes) (n : ℕ) (r : Near) → AreFull x → n < 8 → near_at (with_line_at x n r) n ≡ r
unfolding near_at
near_here x n r so low = rw (
  here x.r0 n r.p3 so.r0 low,
  here x.r1 n r.p2 so.r1 low,
  here x.r2 n r.p1 so.r2 low,
  here x.r3 n r.p0 so.r3 low,
  here x.r4 n r.q0 so.r4 low,
  here x.r5 n r.q1 so.r5 low,
  here x.r6 n r.q2 so.r6 low,
  here x.r7 n r.q3 so.r7 low,
) refl

-- the first n columns are these lines
abbrev pub AreLines : Lanes → (ℕ → Line) → ℕ → Type 0
AreLines x f n = (j : ℕ) → j < n → line_of (near_at x j) ≡ f j

pub line_more : (f : ℕ → Line) (x : Lanes) (n : ℕ) (r : Near) → AreFull x → n < 8 → line_of r ≡ f n → AreLines x f n
    → AreLines (with_line_at x n r) f (n + 1)
line_more f x n r full low is so =
    below_more (λ j. line_of (near_at (with_line_at x n r) j) ≡ f j) n
    (λ j h. ap line_of (near_before x n r j h) ∙ so j h)
    (ap line_of (near_here x n r full low) ∙ is)

-- the samples of a line above its edge, the farthest first, and those below it
abbrev pub upper_of : Wide → Near
upper_of w = record { p3 = w.far.p7; p2 = w.far.p6; p1 = w.far.p5; p0 = w.far.p4; q0 = w.near.p3; q1 = w.near.p2; q2 = w.near.p1; q3 = w.near.p0 }

abbrev pub lower_of : Wide → Near
lower_of w = record { p3 = w.near.q0; p2 = w.near.q1; p1 = w.near.q2; p0 = w.near.q3; q0 = w.far.q4; q1 = w.far.q5; q2 = w.far.q6; q3 = w.far.q7 }

abbrev joined : Near → Near → Line
joined u v = record {
  p = u.q3 ∷ u.q2 ∷ u.q1 ∷ u.q0 ∷ u.p0 ∷ u.p1 ∷ u.p2 ∷ u.p3 ∷ [];
  q = v.p3 ∷ v.p2 ∷ v.p1 ∷ v.p0 ∷ v.q0 ∷ v.q1 ∷ v.q2 ∷ v.q3 ∷ [];
}

abbrev pub wide_at : Lanes → Lanes → ℕ → Line
wide_at a b j = wide_line_of (near_between a b j) (far_between a b j)

wide_is : (a b : Lanes) (j : ℕ) → wide_at a b j ≡ joined (near_at a j) (near_at b j)
unfolding near_at near_between far_between
wide_is a b j = refl

abbrev pub AreWideLines : Lanes → Lanes → (ℕ → Line) → ℕ → Type 0
AreWideLines a b f n = (j : ℕ) → j < n → wide_at a b j ≡ f j

pub wide_line_more : (f : ℕ → Line) (a b : Lanes) (n : ℕ) (w : Wide) → AreFull a → AreFull b → n < 8 → wide_line_of w.near w.far ≡ f n
    → AreWideLines a b f n → AreWideLines (with_line_at a n (upper_of w)) (with_line_at b n (lower_of w)) f (n + 1)
wide_line_more f a b n w full_a full_b low is so =
    below_more (λ j. wide_at (with_line_at a n (upper_of w)) (with_line_at b n (lower_of w)) j ≡ f j) n
    (λ j h. wide_is (with_line_at a n (upper_of w)) (with_line_at b n (lower_of w)) j
    ∙ (ap (λ (z : Near). joined z (near_at (with_line_at b n (lower_of w)) j)) (near_before a n (upper_of w) j h)
    ∙ (ap (joined (near_at a j)) (near_before b n (lower_of w) j h) ∙ (sym (wide_is a b j) ∙ so j h))))
    (wide_is (with_line_at a n (upper_of w)) (with_line_at b n (lower_of w)) n
    ∙ (ap (λ (z : Near). joined z (near_at (with_line_at b n (lower_of w)) n)) (near_here a n (upper_of w) full_a low)
    ∙ (ap (joined (upper_of w)) (near_here b n (lower_of w) full_b low) ∙ is)))
