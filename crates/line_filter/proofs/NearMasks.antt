-- Which filters eight lines take.
use Rattle.std.proofs.Common.{◌≡◌, ◌<◌, ℕ, Bool, true, false, ◌&&◌, refl, cond, ap, sym, ◌∙◌}
use Rattle.std.specs.Prelude.{not, if◌then◌else◌}
use Rattle.line_filter.specs.declared.edge.Limits.{Limits}
use Rattle.line_filter.specs.declared.edge.FilterWidth.TheVariants.{Sixteen}
use Rattle.line_filter.specs.declared.far.Far.{Far}
use Rattle.line_filter.specs.declared.far.Wide.{Wide}
use Rattle.line_filter.specs.declared.lanes.Lanes.{Lanes}
use Rattle.line_filter.specs.declared.near.Near.{Near}
use Rattle.line_filter.specs.Lines.{Line, filter_mask, flat_mask, flat_mask2, narrow_filter, wide_filter, filtered_near, filtered_line}
use Rattle.line_filter.specs.Code.{far_between, is_narrowed, is_near_alone, is_smoothed, line_between, line_of, narrowed, near_at, near_between, smoothed, smoothed_far, wide_line_of}
use Rattle.line_filter.proofs.FarLines.{calm_same, flat_same}

by_narrow : {A : Type 0} (calm flat : Bool) (x n s : A) → (calm && flat) ≡ false → cond calm n x ≡ cond (not calm) x (cond flat s n)
by_narrow false flat x n s none = refl
by_narrow true false x n s none = refl
by_narrow true true x n s none = let no : ⊥ = cc in absurd no

by_smooth : {A : Type 0} (calm flat : Bool) (x n s : A) → (calm && not flat) ≡ false → cond calm s x ≡ cond (not calm) x (cond flat s n)
by_smooth false flat x n s none = refl
by_smooth true true x n s none = refl
by_smooth true false x n s none = let no : ⊥ = cc in absurd no

never : (calm flat : Bool) → (calm && (flat && false)) ≡ false
never false flat = refl
never true false = refl
never true true = refl

and_true : (b : Bool) → (b && true) ≡ b
and_true false = refl
and_true true = refl

-- of width 4 all lines are narrow; of width 8 those that aren't flat, and the others are smooth
pub narrow_of_four : (l : Limits) (x : Line) → narrowed l x ≡ filtered_near l false x
unfolding filtered_near
narrow_of_four l x = by_narrow (filter_mask l x) (flat_mask l x && false) x (narrow_filter l x) (wide_filter 3 x) (never (filter_mask l x) (flat_mask l x))

pub narrow_of_eight : (l : Limits) (x : Line) → is_smoothed l x ≡ false → narrowed l x ≡ filtered_near l true x
unfolding filtered_near
narrow_of_eight l x none = rw (and_true (flat_mask l x)) (by_narrow (filter_mask l x) (flat_mask l x) x (narrow_filter l x) (wide_filter 3 x) none)

pub smooth_of_eight : (l : Limits) (x : Line) → is_narrowed l x ≡ false → smoothed l x ≡ filtered_near l true x
unfolding filtered_near
smooth_of_eight l x none = rw (and_true (flat_mask l x)) (by_smooth (filter_mask l x) (flat_mask l x) x (narrow_filter l x) (wide_filter 3 x) none)

-- the masks of a column
pub narrow_at : (l : Limits) (a : Lanes) (j : ℕ) (x : Near) (calm flat : Bool) → x ≡ near_at a j → calm ≡ filter_mask l (line_of x) → flat ≡ flat_mask l (line_of x)
    → (calm && not flat) ≡ is_narrowed l (line_of (near_at a j))
narrow_at l a j x calm flat near calms flats = rw (calms, flats) (ap (λ (z : Near). is_narrowed l (line_of z)) near)

pub smooth_at : (l : Limits) (a : Lanes) (j : ℕ) (x : Near) (calm flat : Bool) → x ≡ near_at a j → calm ≡ filter_mask l (line_of x) → flat ≡ flat_mask l (line_of x)
    → (calm && flat) ≡ is_smoothed l (line_of (near_at a j))
smooth_at l a j x calm flat near calms flats = rw (calms, flats) (ap (λ (z : Near). is_smoothed l (line_of z)) near)

-- eight lines that became what f makes of each, where f and h agree on them
pub taken : (f h : Line → Line) (a x b y : Lanes) → a ≡ x → b ≡ y → ((j : ℕ) → j < 8 → line_of (near_at x j) ≡ f (line_of (near_at b j)))
    → ((j : ℕ) → j < 8 → f (line_of (near_at b j)) ≡ h (line_of (near_at b j))) → (j : ℕ) → j < 8 → line_of (near_at a j) ≡ h (line_of (near_at y j))
taken f h a x b y here there made same j low =
    ap (λ (z : Lanes). line_of (near_at z j)) here ∙ (made j low ∙ (same j low ∙ ap (λ (z : Lanes). h (line_of (near_at z j))) there))

pub near_alone_at : (l : Limits) (a b : Lanes) (j : ℕ) (x : Near) (y : Far) (calm flat flat2 : Bool) → x ≡ near_between a b j → y ≡ far_between a b j → calm ≡ filter_mask l (line_of x)
    → flat ≡ flat_mask l (line_of x) → flat2 ≡ flat_mask2 l (wide_line_of x y) → (calm && not (flat && flat2)) ≡ is_near_alone l (line_between a b j)
near_alone_at l a b j x y calm flat flat2 near far calms flats also =
    let first : calm ≡ filter_mask l (wide_line_of x y) = calms ∙ sym (calm_same l x y) in
    let second : flat ≡ flat_mask l (wide_line_of x y) = flats ∙ sym (flat_same l x y) in
    rw (first, second, also) (ap (is_near_alone l) (rw (near, far) refl))

by_far : {A : Type 0} (calm flat : Bool) (x w n : A) → (calm && not flat) ≡ false → (calm ≡ false → n ≡ x) → cond calm w x ≡ cond (calm && flat) w n
by_far false flat x w n none same = sym (same refl)
by_far true true x w n none same = refl
by_far true false x w n none same = let no : ⊥ = cc in absurd no

-- lines that the widest filter changes, if any does
pub smooth_of_sixteen : (l : Limits) (x : Line) → is_near_alone l x ≡ false → smoothed_far l x ≡ filtered_line l Sixteen x
unfolding filtered_line filtered_near
smooth_of_sixteen l x none = by_far (filter_mask l x) (flat_mask l x && flat_mask2 l x) x (wide_filter 7 x) _ none (λ off. rw off refl)

pub taken_far : (f h : Line → Line) (a b x y c d u v : Lanes) → a ≡ x → b ≡ y → c ≡ u → d ≡ v
    → ((j : ℕ) → j < 8 → line_between x y j ≡ f (line_between c d j)) → ((j : ℕ) → j < 8 → f (line_between c d j) ≡ h (line_between c d j))
    → (j : ℕ) → j < 8 → line_between a b j ≡ h (line_between u v j)
taken_far f h a b x y c d u v one two three four made same j low = rw (one, two) (made j low ∙ (same j low ∙ rw (three, four) refl))

smooth_or_same : (x : Near) (y : Far) (t : Bool) (s r : Wide) (w : Line) → wide_line_of s.near s.far ≡ w → r ≡ (if t then s else record { near = x; far = y })
    → wide_line_of r.near r.far ≡ cond t w (wide_line_of x y)
smooth_or_same x y true s r w smooth at = rw at smooth
smooth_or_same x y false s r w smooth at = rw at refl

pub smoothed_is : (l : Limits) (x : Near) (y : Far) (t : Bool) (s r : Wide) → t ≡ filter_mask l (line_of x) → wide_line_of s.near s.far ≡ wide_filter 7 (wide_line_of x y)
    → r ≡ (if t then s else record { near = x; far = y }) → wide_line_of r.near r.far ≡ smoothed_far l (wide_line_of x y)
smoothed_is l x y t s r is smooth at =
    smooth_or_same x y t s r (wide_filter 7 (wide_line_of x y)) smooth at ∙ ap (λ b. cond b (wide_filter 7 (wide_line_of x y)) (wide_line_of x y)) (is ∙ sym (calm_same l x y))

near_or_same : (x : Near) (t : Bool) (s r : Near) (w : Line) → line_of s ≡ w → r ≡ (if t then s else x) → line_of r ≡ cond t w (line_of x)
near_or_same x true s r w made at = rw at made
near_or_same x false s r w made at = rw at refl

-- a line that becomes w where t holds
pub near_is : (x : Near) (t u : Bool) (s r : Near) (w : Line) → t ≡ u → line_of s ≡ w → r ≡ (if t then s else x) → line_of r ≡ (if u then w else line_of x)
near_is x t u s r w is made at = near_or_same x t s r w made at ∙ ap (λ b. cond b w (line_of x)) is
