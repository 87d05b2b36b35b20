-- How large the values of a flow become at most: each is bounded by weights of the magnitudes of the first values.
use Rattle.std.proofs.Common.{◌≡◌, ℕ, zero, suc, max, ◌+◌, ◌*◌, ◌/◌, ◌<◌, ◌≤◌, ◌^◌, ℤ, pos, negsuc, neg_ℤ, ◌+ℤ◌, ◌-ℤ◌, ◌*ℤ◌, unsigned_abs, Bool, true, ◌&&◌, inl, inr, List, [], ◌∷◌, map, take, length, set, get_or, refl, sym, ◌∙◌, ap, arith, Ok, nat_lt}
use Rattle.std.specs.Int.{int_shr}
use Rattle.std.specs.List.{range_with_len}
use Rattle.std.proofs.lemmas.Int.{unsigned_abs-mul}
use Rattle.std.proofs.lemmas.List.{get_or-map, get_or_past, length-map, length-set, get_or-set_other}
use Rattle.std.proofs.lemmas.Grind.{get_or-set_at}
use Rattle.std.proofs.lemmas.Bool.{and_parts, cases_eq, cases_lt, lt-ltb}
use Rattle.std.proofs.Math.Nat.{mul-le-mul, mul-add, add-mul, mul_assoc, mul_comm}
use Rattle.std.proofs.Math.Pow.{shr_mono}
use borrow.Author.Tests.{ltb-true}
use Rattle.vp9_tables.specs.declared.flow_row.FlowRow.{FlowRow}
use Rattle.vp9_tables.specs.declared.flow_row.FlowRow.TheVariants.{Perm, Rot, Sum, Neg, Wide}
use Rattle.vp9_tables.specs.TransformTables.{cosine_of}
use Rattle.std.proofs.lemmas.List.FromFn.{length-range_with_len}
use Rattle.inverse_transforms.proofs.SameFlows.{range_at}
use Rattle.inverse_transforms.specs.declared.values.Two.{Two}
use Rattle.inverse_transforms.specs.declared.values.Four.{Four}
use Rattle.inverse_transforms.specs.Angles.{sine_of}
use Rattle.inverse_transforms.specs.Ranges.{fits, round14}
use Rattle.inverse_transforms.specs.Flow.{at, magnitude, turned_x, turned_y, rotated, sum_and_difference, rotated_wide, wide, two_fit, four_fit, permuted, flow_step, run_flow, and_then}

-- the sum of the products of weights and magnitudes
abbrev weighed : List ℕ → List ℤ → ℕ
weighed [] xs = 0
weighed (w ∷ ws) [] = 0
weighed (w ∷ ws) (x ∷ xs) = w * unsigned_abs x + weighed ws xs

abbrev together : List ℕ → List ℕ → List ℕ
together [] vs = vs
together (w ∷ ws) [] = w ∷ ws
together (w ∷ ws) (v ∷ vs) = (w + v) ∷ together ws vs

abbrev times : ℕ → List ℕ → List ℕ
times c ws = map (λ w. c * w) ws

-- divided by 2 ^ 14, rounded up
abbrev shared : List ℕ → List ℕ
shared ws = map (λ w. w / 2 ^ 14 + 1) ws

abbrev greatest : List ℕ → ℕ
greatest [] = 0
greatest (w ∷ ws) = max w (greatest ws)

weighed_together : (ws vs : List ℕ) (xs : List ℤ) → weighed (together ws vs) xs ≡ weighed ws xs + weighed vs xs
weighed_together [] vs xs = omega arith
weighed_together (w ∷ ws) [] [] = refl
weighed_together (w ∷ ws) [] (x ∷ xs) = omega arith
weighed_together (w ∷ ws) (v ∷ vs) [] = refl
weighed_together (w ∷ ws) (v ∷ vs) (x ∷ xs) =
    omega (arith, weighed_together ws vs xs, add-mul w v (unsigned_abs x))

weighed_times : (c : ℕ) (ws : List ℕ) (xs : List ℤ) → weighed (times c ws) xs ≡ c * weighed ws xs
weighed_times c [] xs = omega arith
weighed_times c (w ∷ ws) [] = omega arith
weighed_times c (w ∷ ws) (x ∷ xs) =
    omega (arith, weighed_times c ws xs, mul_assoc c w (unsigned_abs x), mul-add c (w * unsigned_abs x) (weighed ws xs))

weighed_shared : (ws : List ℕ) (xs : List ℤ) → weighed ws xs ≤ 2 ^ 14 * weighed (shared ws) xs
weighed_shared [] xs = omega arith
weighed_shared (w ∷ ws) [] = omega arith
weighed_shared (w ∷ ws) (x ∷ xs) =
    let up : w ≤ 2 ^ 14 * (w / 2 ^ 14 + 1) = omega arith in
    let here : w * unsigned_abs x ≤ (2 ^ 14 * (w / 2 ^ 14 + 1)) * unsigned_abs x = mul-le-mul up (omega arith) in
    omega (arith, here, weighed_shared ws xs, mul_assoc (2 ^ 14) (w / 2 ^ 14 + 1) (unsigned_abs x))

weighed_greatest : (ws : List ℕ) (xs : List ℤ) → weighed ws xs ≤ greatest ws * magnitude xs
weighed_greatest [] xs = omega arith
weighed_greatest (w ∷ ws) [] = omega arith
weighed_greatest (w ∷ ws) (x ∷ xs) =
    let here : w * unsigned_abs x ≤ max w (greatest ws) * unsigned_abs x = mul-le-mul (omega arith) (omega arith) in
    let rest : greatest ws * magnitude xs ≤ max w (greatest ws) * magnitude xs = mul-le-mul (omega arith) (omega arith) in
    omega (arith, here, rest, weighed_greatest ws xs, mul-add (max w (greatest ws)) (unsigned_abs x) (magnitude xs))

-- a bound of 2 ^ 14 times the magnitude of a value
pub record Bound : Type 0 where
  pub weights : List ℕ
  pub error : ℕ

abbrev nothing : Bound
nothing = record { weights = []; error = 0 }

abbrev bound : List Bound → ℕ → Bound
bound bs i = get_or bs i nothing

abbrev added_bound : Bound → Bound → Bound
added_bound b c = record { weights = together b.weights c.weights; error = b.error + c.error }

-- of values times b and c
abbrev product_bound : ℕ → Bound → ℕ → Bound → Bound
product_bound m b n c = record { weights = together (times m b.weights) (times n c.weights); error = m * b.error + n * c.error }

abbrev turned_x_bound : ℕ → Bound → Bound → Bound
turned_x_bound k b c = product_bound (unsigned_abs (cosine_of k)) b (unsigned_abs (sine_of k)) c

abbrev turned_y_bound : ℕ → Bound → Bound → Bound
turned_y_bound k b c = product_bound (unsigned_abs (sine_of k)) b (unsigned_abs (cosine_of k)) c

-- after the rounding by 14 bits
abbrev rounded_bound : Bound → Bound
rounded_bound b = record { weights = shared b.weights; error = b.error / 2 ^ 14 + 3 * 2 ^ 13 }

abbrev IsUnder : List ℤ → Bound → ℤ → Type 0
IsUnder xs b y = 2 ^ 14 * unsigned_abs y ≤ weighed b.weights xs + b.error

sum_at_most : (m n : ℕ) (x y : ℤ) → unsigned_abs x ≤ m → unsigned_abs y ≤ n → unsigned_abs (x +ℤ y) ≤ m + n
sum_at_most m n x y h k = grind arith

difference_at_most : (m n : ℕ) (x y : ℤ) → unsigned_abs x ≤ m → unsigned_abs y ≤ n → unsigned_abs (x -ℤ y) ≤ m + n
difference_at_most m n x y h k = grind arith

sum_under : (xs : List ℤ) (b c : Bound) (x y : ℤ) → IsUnder xs b x → IsUnder xs c y → IsUnder xs (added_bound b c) (x +ℤ y)
sum_under xs b c x y h k =
    omega (arith, h, k, sum_at_most (unsigned_abs x) (unsigned_abs y) x y (omega arith) (omega arith), weighed_together b.weights c.weights xs)

difference_under : (xs : List ℤ) (b c : Bound) (x y : ℤ) → IsUnder xs b x → IsUnder xs c y → IsUnder xs (added_bound b c) (x -ℤ y)
difference_under xs b c x y h k =
    omega (arith, h, k, difference_at_most (unsigned_abs x) (unsigned_abs y) x y (omega arith) (omega arith), weighed_together b.weights c.weights xs)

-- a product with a constant
product_under : (xs : List ℤ) (b : Bound) (x c : ℤ) → IsUnder xs b x →
    IsUnder xs (record { weights = times (unsigned_abs c) b.weights; error = unsigned_abs c * b.error }) (x *ℤ c)
product_under xs b x c h =
    let more : unsigned_abs c * (2 ^ 14 * unsigned_abs x) ≤ unsigned_abs c * (weighed b.weights xs + b.error) = mul-le-mul (omega arith) h in
    omega (
      arith,
      more,
      unsigned_abs-mul x c,
      weighed_times (unsigned_abs c) b.weights xs,
      mul-add (unsigned_abs c) (weighed b.weights xs) b.error,
      mul_assoc (unsigned_abs c) (2 ^ 14) (unsigned_abs x),
      mul_comm (unsigned_abs c) (unsigned_abs x),
      mul_comm (unsigned_abs c) (2 ^ 14),
      mul_assoc (2 ^ 14) (unsigned_abs c) (unsigned_abs x),
    )

turned_x_under : (xs : List ℤ) (k : ℕ) (b c : Bound) (x y : ℤ) → IsUnder xs b x → IsUnder xs c y → IsUnder xs (turned_x_bound k b c) (turned_x k x y)
unfolding turned_x
turned_x_under xs k b c x y h i =
    difference_under xs _ _ (x *ℤ cosine_of k) (y *ℤ sine_of k) (product_under xs b x (cosine_of k) h) (product_under xs c y (sine_of k) i)

turned_y_under : (xs : List ℤ) (k : ℕ) (b c : Bound) (x y : ℤ) → IsUnder xs b x → IsUnder xs c y → IsUnder xs (turned_y_bound k b c) (turned_y k x y)
unfolding turned_y
turned_y_under xs k b c x y h i =
    sum_under xs _ _ (x *ℤ sine_of k) (y *ℤ cosine_of k) (product_under xs b x (sine_of k) h) (product_under xs c y (cosine_of k) i)

shifted_at_most : (m : ℕ) (x : ℤ) → unsigned_abs x ≤ m → unsigned_abs (int_shr x 14) ≤ m / 2 ^ 14 + 1
shifted_at_most m (pos x) h = let less : x / 2 ^ 14 ≤ m / 2 ^ 14 = shr_mono 14 h in omega (arith, less)
shifted_at_most m (negsuc x) h =
    let below : x ≤ m = omega (arith, h) in
    let less : x / 2 ^ 14 ≤ m / 2 ^ 14 = shr_mono 14 below in omega (arith, less)

rounded_at_most : (x : ℤ) → unsigned_abs (round14 x) ≤ (unsigned_abs x + 8192) / 2 ^ 14 + 1
unfolding round14
rounded_at_most x = shifted_at_most (unsigned_abs x + 8192) (x +ℤ pos 8192) (sum_at_most (unsigned_abs x) 8192 x (pos 8192) (omega arith) (omega arith))

rounded_under : (xs : List ℤ) (b : Bound) (x : ℤ) → IsUnder xs b x → IsUnder xs (rounded_bound b) (round14 x)
rounded_under xs b x h = omega (arith, h, rounded_at_most x, weighed_shared b.weights xs)

-- whether all values under a bound are of 16 bits, where the magnitudes add up to n at most
abbrev is_low : ℕ → Bound → Bool
is_low n b = nat_lt (greatest b.weights * n + b.error) (2 ^ 29)

low_value : (n : ℕ) (xs : List ℤ) (b : Bound) (x : ℤ) → magnitude xs ≤ n → IsUnder xs b x → is_low n b ≡ true → unsigned_abs x < 2 ^ 15
low_value n xs b x few h low =
    let more : greatest b.weights * magnitude xs ≤ greatest b.weights * n = mul-le-mul (omega arith) few in
    omega (arith, h, more, weighed_greatest b.weights xs, ltb-true (greatest b.weights * n + b.error) (2 ^ 29) low)

fits_below : (limit m : ℕ) (x : ℤ) → unsigned_abs x < m → m ≤ limit → fits limit x ≡ true
fits_below limit m (pos x) h most = lt-ltb x limit (omega (arith, h))
fits_below limit m (negsuc x) h most = lt-ltb x limit (omega (arith, h))

-- bounds of the values of a list, place by place
record Below (xs : List ℤ) (bs : List Bound) (ys : List ℤ) : Type 0 where
  size : length ys ≡ length bs
  each : (i : ℕ) → IsUnder xs (bound bs i) (at ys i)

-- the bounds after a step
abbrev turned_bounds : List Bound → ℕ → ℕ → Bound → Bound → List Bound
turned_bounds bs a b x y = set (set bs a x) b y

abbrev wide_x_bound : List Bound → ℕ → ℕ → ℕ → ℕ → ℕ → ℕ → Bound
wide_x_bound bs a b k c d m = rounded_bound (added_bound (turned_x_bound k (bound bs a) (bound bs b)) (turned_x_bound m (bound bs c) (bound bs d)))

abbrev wide_y_bound : List Bound → ℕ → ℕ → ℕ → ℕ → ℕ → ℕ → Bound
wide_y_bound bs a b k c d m = rounded_bound (added_bound (turned_y_bound k (bound bs a) (bound bs b)) (turned_y_bound m (bound bs c) (bound bs d)))

abbrev grown : FlowRow → List Bound → List Bound
grown (Perm order) bs = map (λ i. bound bs i) (take (length bs) order)
grown (Rot a b k) bs =
    turned_bounds bs a b (rounded_bound (turned_x_bound k (bound bs a) (bound bs b))) (rounded_bound (turned_y_bound k (bound bs a) (bound bs b)))
grown (Sum a b) bs = let c = added_bound (bound bs a) (bound bs b) in turned_bounds bs a b c c
grown (Neg a) bs = set bs a (bound bs a)
grown (Wide a b k c d m) bs =
    let x = wide_x_bound bs a b k c d m in
    let y = wide_y_bound bs a b k c d m in
    turned_bounds (turned_bounds bs a b x y) c d x y

-- whether what a step stores is of 16 bits by the bounds before it
abbrev is_calm_step : ℕ → FlowRow → List Bound → Bool
is_calm_step n (Perm order) bs = true
is_calm_step n (Rot a b k) bs =
    is_low n (rounded_bound (turned_x_bound k (bound bs a) (bound bs b))) && is_low n (rounded_bound (turned_y_bound k (bound bs a) (bound bs b)))
is_calm_step n (Sum a b) bs = is_low n (added_bound (bound bs a) (bound bs b))
is_calm_step n (Neg a) bs = is_low n (bound bs a)
is_calm_step n (Wide a b k c d m) bs = is_low n (wide_x_bound bs a b k c d m) && is_low n (wide_y_bound bs a b k c d m)

abbrev pub is_calm : ℕ → List FlowRow → List Bound → Bool
is_calm n [] bs = true
is_calm n (row ∷ rows) bs = is_calm_step n row bs && is_calm n rows (grown row bs)

below_set : (xs : List ℤ) (bs : List Bound) (ys : List ℤ) (a : ℕ) (b : Bound) (y : ℤ) → Below xs bs ys → IsUnder xs b y →
    Below xs (set bs a b) (set ys a y)
below_set xs bs ys a b y below under = record {
  size = length-set ys a y ∙ (below.size ∙ sym (length-set bs a b));
  each = λ i. elim (cases_eq i a) [
    | inl same ↦ elim (cases_lt a (length bs)) [
      | inl low ↦ rw (get_or-set_at bs a i b nothing same low, get_or-set_at ys a i y (pos 0) same (omega (arith, below.size))) under
      | inr past ↦ rw (get_or_past (set ys a y) i (pos 0) (omega (arith, length-set ys a y, below.size))) (omega arith)
    ]
    | inr other ↦ rw (get_or-set_other bs a i b nothing other, get_or-set_other ys a i y (pos 0) other) (below.each i)
  ];
}

below_places : (xs : List ℤ) (bs : List Bound) (ys : List ℤ) (places : List ℕ) → Below xs bs ys →
    Below xs (map (λ i. bound bs i) places) (map (λ i. at ys i) places)
below_places xs bs ys places below = record {
  size = length-map places (λ i. at ys i) ∙ sym (length-map places (λ i. bound bs i));
  each = λ i. elim (cases_lt i (length places)) [
    | inl low ↦ rw (get_or-map (λ p. bound bs p) places i 0 nothing low, get_or-map (λ p. at ys p) places i 0 (pos 0) low) (below.each (get_or places i 0))
    | inr past ↦ rw (get_or_past (map (λ p. at ys p) places) i (pos 0) (omega (arith, length-map places (λ p. at ys p)))) (omega arith)
  ];
}

-- what a step makes of ys at every limit of 16 bits and more
record Calm (xs : List ℤ) (bs : List Bound) (row : FlowRow) (ys : List ℤ) : Type 0 where
  zs : List ℤ
  below : Below xs (grown row bs) zs
  gives : (limit : ℕ) → 2 ^ 15 ≤ limit → flow_step limit row ys ≡ Ok zs

two_calm : (limit n : ℕ) (xs : List ℤ) (b c : Bound) (v : Two) → magnitude xs ≤ n → IsUnder xs b v.first → IsUnder xs c v.second →
    is_low n b ≡ true → is_low n c ≡ true → 2 ^ 15 ≤ limit → two_fit limit v ≡ true
unfolding two_fit
two_calm limit n xs b c v few first second b_low c_low most =
    rw (
      fits_below limit (2 ^ 15) v.first (low_value n xs b v.first few first b_low) most,
      fits_below limit (2 ^ 15) v.second (low_value n xs c v.second few second c_low) most,
    ) refl

two_stored : (xs : List ℤ) (bs : List Bound) (ys : List ℤ) (a b : ℕ) (x y : Bound) (p q : ℤ) → Below xs bs ys → IsUnder xs x p → IsUnder xs y q →
    Below xs (turned_bounds bs a b x y) (set (set ys a p) b q)
two_stored xs bs ys a b x y p q below first second = below_set xs (set bs a x) (set ys a p) b y q (below_set xs bs ys a x p below first) second

rotated_first : (xs : List ℤ) (k : ℕ) (b c : Bound) (x y : ℤ) → IsUnder xs b x → IsUnder xs c y → IsUnder xs (rounded_bound (turned_x_bound k b c)) (rotated k x y).first
unfolding rotated
rotated_first xs k b c x y h i = rounded_under xs (turned_x_bound k b c) (turned_x k x y) (turned_x_under xs k b c x y h i)

rotated_second : (xs : List ℤ) (k : ℕ) (b c : Bound) (x y : ℤ) → IsUnder xs b x → IsUnder xs c y → IsUnder xs (rounded_bound (turned_y_bound k b c)) (rotated k x y).second
unfolding rotated
rotated_second xs k b c x y h i = rounded_under xs (turned_y_bound k b c) (turned_y k x y) (turned_y_under xs k b c x y h i)

added_first : (xs : List ℤ) (b c : Bound) (x y : ℤ) → IsUnder xs b x → IsUnder xs c y → IsUnder xs (added_bound b c) (sum_and_difference x y).first
unfolding sum_and_difference
added_first xs b c x y h i = sum_under xs b c x y h i

added_second : (xs : List ℤ) (b c : Bound) (x y : ℤ) → IsUnder xs b x → IsUnder xs c y → IsUnder xs (added_bound b c) (sum_and_difference x y).second
unfolding sum_and_difference
added_second xs b c x y h i = difference_under xs b c x y h i

negated_under : (xs : List ℤ) (b : Bound) (x : ℤ) → IsUnder xs b x → IsUnder xs b (neg_ℤ x)
negated_under xs b (pos zero) h = h
negated_under xs b (pos (suc x)) h = h
negated_under xs b (negsuc x) h = h

-- the sums that a wide step adds
part_low : (n m : ℕ) (xs : List ℤ) (b c : Bound) (x : ℤ) → magnitude xs ≤ n → 2 ^ 14 * unsigned_abs x ≤ m → m ≤ weighed (added_bound b c).weights xs + (added_bound b c).error →
    is_low n (rounded_bound (added_bound b c)) ≡ true → unsigned_abs x < 2 ^ 31
part_low n m xs b c x few h part low =
    let all = (added_bound b c).weights in
    let more : greatest (shared all) * magnitude xs ≤ greatest (shared all) * n = mul-le-mul (omega arith) few in
    omega (
      arith,
      h,
      part,
      more,
      weighed_shared all xs,
      weighed_greatest (shared all) xs,
      ltb-true (greatest (shared all) * n + ((b.error + c.error) / 2 ^ 14 + 3 * 2 ^ 13)) (2 ^ 29) low,
    )

first_wide : (limit n : ℕ) (xs : List ℤ) (b c : Bound) (x : ℤ) → magnitude xs ≤ n → IsUnder xs b x → is_low n (rounded_bound (added_bound b c)) ≡ true →
    2 ^ 15 ≤ limit → wide limit x ≡ true
first_wide limit n xs b c x few h low most =
    fits_below (limit * 65536) (2 ^ 31) x
    (part_low n (weighed b.weights xs + b.error) xs b c x few h (omega (arith, weighed_together b.weights c.weights xs)) low) (omega (arith, most))

second_wide : (limit n : ℕ) (xs : List ℤ) (b c : Bound) (x : ℤ) → magnitude xs ≤ n → IsUnder xs c x → is_low n (rounded_bound (added_bound b c)) ≡ true →
    2 ^ 15 ≤ limit → wide limit x ≡ true
second_wide limit n xs b c x few h low most =
    fits_below (limit * 65536) (2 ^ 31) x
    (part_low n (weighed c.weights xs + c.error) xs b c x few h (omega (arith, weighed_together b.weights c.weights xs)) low) (omega (arith, most))

-- what is known before a wide step
record BeforeWide (n : ℕ) (xs : List ℤ) (bs : List Bound) (ys : List ℤ) (a b k c d m : ℕ) : Type 0 where
  few : magnitude xs ≤ n
  below : Below xs bs ys
  low_x : is_low n (wide_x_bound bs a b k c d m) ≡ true
  low_y : is_low n (wide_y_bound bs a b k c d m) ≡ true

-- and of the four sums that it makes
record WideSums (xs : List ℤ) (bs : List Bound) (ys : List ℤ) (a b k c d m : ℕ) : Type 0 where
  first_x : IsUnder xs (turned_x_bound k (bound bs a) (bound bs b)) (turned_x k (at ys a) (at ys b))
  first_y : IsUnder xs (turned_y_bound k (bound bs a) (bound bs b)) (turned_y k (at ys a) (at ys b))
  second_x : IsUnder xs (turned_x_bound m (bound bs c) (bound bs d)) (turned_x m (at ys c) (at ys d))
  second_y : IsUnder xs (turned_y_bound m (bound bs c) (bound bs d)) (turned_y m (at ys c) (at ys d))

wide_sums : (xs : List ℤ) (bs : List Bound) (ys : List ℤ) (a b k c d m : ℕ) → Below xs bs ys → WideSums xs bs ys a b k c d m
wide_sums xs bs ys a b k c d m below = record {
  first_x = turned_x_under xs k (bound bs a) (bound bs b) (at ys a) (at ys b) (below.each a) (below.each b);
  first_y = turned_y_under xs k (bound bs a) (bound bs b) (at ys a) (at ys b) (below.each a) (below.each b);
  second_x = turned_x_under xs m (bound bs c) (bound bs d) (at ys c) (at ys d) (below.each c) (below.each d);
  second_y = turned_y_under xs m (bound bs c) (bound bs d) (at ys c) (at ys d) (below.each c) (below.each d);
}

four_in_range : (limit n : ℕ) (xs : List ℤ) (bs : List Bound) (ys : List ℤ) (a b k c d m : ℕ) → BeforeWide n xs bs ys a b k c d m → 2 ^ 15 ≤ limit →
    (wide limit (turned_x k (at ys a) (at ys b)) && (wide limit (turned_y k (at ys a) (at ys b))
    && (wide limit (turned_x m (at ys c) (at ys d)) && wide limit (turned_y m (at ys c) (at ys d))))) ≡ true
four_in_range limit n xs bs ys a b k c d m f most =
    let s = wide_sums xs bs ys a b k c d m f.below in
    rw (
      first_wide limit n xs _ _ (turned_x k (at ys a) (at ys b)) f.few s.first_x f.low_x most,
      first_wide limit n xs _ _ (turned_y k (at ys a) (at ys b)) f.few s.first_y f.low_y most,
      second_wide limit n xs _ _ (turned_x m (at ys c) (at ys d)) f.few s.second_x f.low_x most,
      second_wide limit n xs _ _ (turned_y m (at ys c) (at ys d)) f.few s.second_y f.low_y most,
    ) refl

-- the four values of a wide step
record FourUnder (xs : List ℤ) (x y : Bound) (v : Four) : Type 0 where
  first : IsUnder xs x v.first
  second : IsUnder xs y v.second
  third : IsUnder xs x v.third
  fourth : IsUnder xs y v.fourth

four_under : (limit : ℕ) (xs : List ℤ) (bs : List Bound) (ys : List ℤ) (a b k c d m : ℕ) → Below xs bs ys →
    FourUnder xs (wide_x_bound bs a b k c d m) (wide_y_bound bs a b k c d m) (rotated_wide limit k m (at ys a) (at ys b) (at ys c) (at ys d))
unfolding rotated_wide
four_under limit xs bs ys a b k c d m below =
    let s = wide_sums xs bs ys a b k c d m below in
    let x_bound = turned_x_bound k (bound bs a) (bound bs b) in
    let y_bound = turned_y_bound k (bound bs a) (bound bs b) in
    let other_x = turned_x_bound m (bound bs c) (bound bs d) in
    let other_y = turned_y_bound m (bound bs c) (bound bs d) in
    let x = turned_x k (at ys a) (at ys b) in
    let y = turned_y k (at ys a) (at ys b) in
    let z = turned_x m (at ys c) (at ys d) in
    let w = turned_y m (at ys c) (at ys d) in
    record {
      first = rounded_under xs (added_bound x_bound other_x) (x +ℤ z) (sum_under xs x_bound other_x x z s.first_x s.second_x);
      second = rounded_under xs (added_bound y_bound other_y) (y +ℤ w) (sum_under xs y_bound other_y y w s.first_y s.second_y);
      third = rounded_under xs (added_bound x_bound other_x) (x -ℤ z) (difference_under xs x_bound other_x x z s.first_x s.second_x);
      fourth = rounded_under xs (added_bound y_bound other_y) (y -ℤ w) (difference_under xs y_bound other_y y w s.first_y s.second_y);
    }

four_calm : (limit n : ℕ) (xs : List ℤ) (bs : List Bound) (ys : List ℤ) (a b k c d m : ℕ) → BeforeWide n xs bs ys a b k c d m → 2 ^ 15 ≤ limit →
    four_fit limit (rotated_wide limit k m (at ys a) (at ys b) (at ys c) (at ys d)) ≡ true
unfolding four_fit rotated_wide
four_calm limit n xs bs ys a b k c d m f most =
    let r = rotated_wide limit k m (at ys a) (at ys b) (at ys c) (at ys d) in
    let v = four_under limit xs bs ys a b k c d m f.below in
    let fit = λ (e : Bound) (y : ℤ) (h : IsUnder xs e y) (low : is_low n e ≡ true). fits_below limit (2 ^ 15) y (low_value n xs e y f.few h low) most in
    rw (
      four_in_range limit n xs bs ys a b k c d m f most,
      fit _ r.first v.first f.low_x,
      fit _ r.second v.second f.low_y,
      fit _ r.third v.third f.low_x,
      fit _ r.fourth v.fourth f.low_y,
    ) refl

calm_step : (n : ℕ) (xs : List ℤ) (row : FlowRow) (bs : List Bound) (ys : List ℤ) → magnitude xs ≤ n → Below xs bs ys → is_calm_step n row bs ≡ true →
    Calm xs bs row ys
unfolding flow_step rotated_wide
calm_step n xs (Perm order) bs ys few below h = record {
  zs = permuted order ys;
  below = rw below.size (below_places xs bs ys (take (length bs) order) below);
  gives = λ limit most. refl;
}
calm_step n xs (Rot a b k) bs ys few below h =
    let v = rotated k (at ys a) (at ys b) in
    let low = and_parts _ _ h in
    let first = rotated_first xs k (bound bs a) (bound bs b) (at ys a) (at ys b) (below.each a) (below.each b) in
    let second = rotated_second xs k (bound bs a) (bound bs b) (at ys a) (at ys b) (below.each a) (below.each b) in
    record {
      zs = set (set ys a v.first) b v.second;
      below = two_stored xs bs ys a b _ _ v.first v.second below first second;
      gives = λ limit most. rw (two_calm limit n xs _ _ v few first second low.0 low.1 most) refl;
    }
calm_step n xs (Sum a b) bs ys few below h =
    let v = sum_and_difference (at ys a) (at ys b) in
    let first = added_first xs (bound bs a) (bound bs b) (at ys a) (at ys b) (below.each a) (below.each b) in
    let second = added_second xs (bound bs a) (bound bs b) (at ys a) (at ys b) (below.each a) (below.each b) in
    record {
      zs = set (set ys a v.first) b v.second;
      below = two_stored xs bs ys a b _ _ v.first v.second below first second;
      gives = λ limit most. rw (two_calm limit n xs _ _ v few first second h h most) refl;
    }
calm_step n xs (Neg a) bs ys few below h =
    let v = negated_under xs (bound bs a) (at ys a) (below.each a) in
    record {
      zs = set ys a (neg_ℤ (at ys a));
      below = below_set xs bs ys a (bound bs a) (neg_ℤ (at ys a)) below v;
      gives = λ limit most. rw (fits_below limit (2 ^ 15) (neg_ℤ (at ys a)) (low_value n xs (bound bs a) (neg_ℤ (at ys a)) few v h) most) refl;
    }
calm_step n xs (Wide a b k c d m) bs ys few below h =
    let low = and_parts _ _ h in
    let f : BeforeWide n xs bs ys a b k c d m = record { few = few; below = below; low_x = low.0; low_y = low.1 } in
    let v = rotated_wide (2 ^ 15) k m (at ys a) (at ys b) (at ys c) (at ys d) in
    let under = four_under (2 ^ 15) xs bs ys a b k c d m below in
    let two = two_stored xs bs ys a b _ _ v.first v.second below under.first under.second in
    record {
      zs = set (set (set (set ys a v.first) b v.second) c v.third) d v.fourth;
      below = two_stored xs _ _ c d _ _ v.third v.fourth two under.third under.fourth;
      gives = λ limit most. rw (four_calm limit n xs bs ys a b k c d m f most) refl;
    }

-- what steps make of ys at every such limit
pub record CalmRun (rows : List FlowRow) (ys : List ℤ) : Type 0 where
  pub zs : List ℤ
  pub gives : (limit : ℕ) → 2 ^ 15 ≤ limit → run_flow limit rows ys ≡ Ok zs

calm_run : (n : ℕ) (xs : List ℤ) (rows : List FlowRow) (bs : List Bound) (ys : List ℤ) → magnitude xs ≤ n → Below xs bs ys → is_calm n rows bs ≡ true → CalmRun rows ys
calm_run n xs [] bs ys few below h = record { zs = ys; gives = λ limit most. refl }
calm_run n xs (row ∷ rows) bs ys few below h =
    let parts = and_parts (is_calm_step n row bs) (is_calm n rows (grown row bs)) h in
    let first = calm_step n xs row bs ys few below parts.0 in
    let rest = calm_run n xs rows (grown row bs) first.zs few first.below parts.1 in
    record { zs = rest.zs; gives = λ limit most. ap (λ r. and_then r (run_flow limit rows)) (first.gives limit most) ∙ rest.gives limit most }

-- at first each value has its own weight alone
abbrev alone : ℕ → List ℕ
alone zero = 2 ^ 14 ∷ []
alone (suc i) = 0 ∷ alone i

weighed_alone : (i : ℕ) (xs : List ℤ) → 2 ^ 14 * unsigned_abs (at xs i) ≤ weighed (alone i) xs
weighed_alone zero [] = omega arith
weighed_alone zero (x ∷ xs) = omega arith
weighed_alone (suc i) [] = omega arith
weighed_alone (suc i) (x ∷ xs) = omega (arith, weighed_alone i xs)

abbrev first_bound : ℕ → Bound
first_bound i = record { weights = alone i; error = 0 }

abbrev pub first_bounds : ℕ → List Bound
first_bounds size = map first_bound (range_with_len 0 size)

below_first : (size : ℕ) (xs : List ℤ) → length xs ≡ size → Below xs (first_bounds size) xs
below_first size xs is = record {
  size = is ∙ sym (length-map (range_with_len 0 size) first_bound ∙ length-range_with_len 0 size);
  each = λ i. elim (cases_lt i size) [
    | inl low ↦
        rw (get_or-map first_bound (range_with_len 0 size) i 0 nothing (omega (arith, length-range_with_len 0 size)), range_at size i low)
        (omega (arith, weighed_alone i xs))
    | inr past ↦ rw (get_or_past xs i (pos 0) (omega (arith, is))) (omega arith)
  ];
}

pub calm_flow : (n size : ℕ) (rows : List FlowRow) → is_calm n rows (first_bounds size) ≡ true → (xs : List ℤ) → length xs ≡ size → magnitude xs ≤ n →
    CalmRun rows xs
calm_flow n size rows h xs is few = calm_run n xs rows (first_bounds size) xs few (below_first size xs is) h
