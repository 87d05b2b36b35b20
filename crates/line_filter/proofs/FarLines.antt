-- The filters that look at four samples on each side, on a line of eight on each side.
use Rattle.std.proofs.Common.{◌≡◌, Bool, true, false, ◌&&◌, [], ◌∷◌, ◌++◌, refl, sym, ap, ◌∙◌}
use Rattle.std.specs.Prelude.{not, if◌then◌else◌}
use Rattle.line_filter.specs.declared.edge.Limits.{Limits}
use Rattle.line_filter.specs.declared.edge.FilterWidth.TheVariants.{Sixteen}
use Rattle.line_filter.specs.declared.near.Near.{Near}
use Rattle.line_filter.specs.declared.far.Far.{Far}
use Rattle.line_filter.specs.declared.far.Wide.{Wide}
use Rattle.line_filter.specs.Lines.{Line, filter_mask, flat_mask, flat_mask2, hev_mask, change, narrow_filter, wide_filter, filtered_near, filtered_line}
use Rattle.line_filter.specs.Code.{line_of, wide_line_of}

abbrev pub extended : Line → Far → Line
extended z y = record { p = z.p ++ (y.p4 ∷ y.p5 ∷ y.p6 ∷ y.p7 ∷ []); q = z.q ++ (y.q4 ∷ y.q5 ∷ y.q6 ∷ y.q7 ∷ []) }

pushed : (calm flat : Bool) (a b c u v w : Line) (y : Far) → a ≡ extended u y → b ≡ extended v y → c ≡ extended w y
    → (if not calm then a else (if flat then b else c)) ≡ extended (if not calm then u else (if flat then v else w)) y
pushed false flat a b c u v w y ea eb ec = ea
pushed true true a b c u v w y ea eb ec = eb
pushed true false a b c u v w y ea eb ec = ec

pub calm_same : (l : Limits) (x : Near) (y : Far) → filter_mask l (wide_line_of x y) ≡ filter_mask l (line_of x)
unfolding filter_mask
calm_same l x y = refl

pub flat_same : (l : Limits) (x : Near) (y : Far) → flat_mask l (wide_line_of x y) ≡ flat_mask l (line_of x)
unfolding flat_mask
flat_same l x y = refl

smooth_same : (x : Near) (y : Far) → wide_filter 3 (wide_line_of x y) ≡ extended (wide_filter 3 (line_of x)) y
unfolding wide_filter
smooth_same x y = refl

narrow_same : (l : Limits) (x : Near) (y : Far) → narrow_filter l (wide_line_of x y) ≡ extended (narrow_filter l (line_of x)) y
unfolding narrow_filter hev_mask change
narrow_same l x y = refl

pub near_same : (l : Limits) (wide : Bool) (x : Near) (y : Far) → filtered_near l wide (wide_line_of x y) ≡ extended (filtered_near l wide (line_of x)) y
unfolding filtered_near
near_same l wide x y = rw (calm_same l x y, flat_same l x y)
    (pushed (filter_mask l (line_of x)) (flat_mask l (line_of x) && wide) _ _ _ _ _ _ y refl (smooth_same x y) (narrow_same l x y))

chosen : (l : Limits) (x : Near) (y : Far) (t : Bool) (n : Near) (s r : Wide)
    → line_of n ≡ filtered_near l true (line_of x) → wide_line_of s.near s.far ≡ wide_filter 7 (wide_line_of x y)
    → r ≡ (if t then s else record { near = n; far = y })
    → wide_line_of r.near r.far ≡ (if t then wide_filter 7 (wide_line_of x y) else filtered_near l true (wide_line_of x y))
chosen l x y true n s r near smooth at = rw at smooth
chosen l x y false n s r near smooth at = rw at (ap (λ (z : Line). extended z y) near ∙ sym (near_same l true x y))

pub far_is : (l : Limits) (x : Near) (y : Far) (t : Bool) (n : Near) (s r : Wide)
    → t ≡ (filter_mask l (line_of x) && (flat_mask l (line_of x) && flat_mask2 l (wide_line_of x y)))
    → line_of n ≡ filtered_near l true (line_of x) → wide_line_of s.near s.far ≡ wide_filter 7 (wide_line_of x y)
    → r ≡ (if t then s else record { near = n; far = y })
    → wide_line_of r.near r.far ≡ filtered_line l Sixteen (wide_line_of x y)
unfolding filtered_line
far_is l x y t n s r is near smooth at = rw (calm_same l x y, flat_same l x y, sym is) (chosen l x y t n s r near smooth at)
