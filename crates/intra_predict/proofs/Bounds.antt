-- Samples stay in the range of their depth.
use Rattle.std.proofs.Common.{◌≡◌, ◌<◌, ◌≤◌, ◌+◌, ◌*◌, ◌/◌, ◌-◌, inl, inr, ℕ, zero, suc, Bool, true, false, arith, List, [], ◌∷◌, get_or, take, map, sum, lit≤}
use Rattle.std.specs.List.{range_with_len}
use Rattle.std.specs.Prelude.{if◌then◌else◌}
use Rattle.std.proofs.lemmas.Nat.{div_below}
use Rattle.std.proofs.lemmas.Bool.{cases_lt}
use Rattle.std.proofs.lemmas.List.{get_or_past}
use Rattle.std.proofs.lemmas.List.Sums.{sum_by-cons}
use Rattle.std.proofs.lemmas.List.FromFn.{length-map-range_with_len, get_or-map-range_with_len}
use Rattle.vp9_types.specs.Maps.{Map, Holds, IsAtMost}
use Rattle.vp9_types.specs.declared.shape.Depth.{Depth}
use Rattle.vp9_types.specs.declared.shape.Depth.TheVariants.{Eight, Ten, Twelve}
use Rattle.vp9_types.specs.declared.block.IntraMode.{IntraMode}
use Rattle.vp9_types.specs.declared.block.IntraMode.TheVariants.{Dc, V, H, D45, D135, D117, D153, D207, D63, Tm}
use Rattle.intra_predict.specs.declared.place.IntraPlace.{IntraPlace}
use Rattle.intra_predict.specs.SampleSizes.{middle}
use Rattle.vp9_types.specs.Sizes.{greatest}
use Rattle.intra_predict.specs.BlockEdges.{EdgeSamples, has_above, has_left, edges_in}
use Rattle.intra_predict.specs.Laws.{IsUpTo}
use Rattle.intra_predict.specs.PredictedModes.{mean3, mean2_at, mean3_at, dc_mean, rounded_mean, d117, d135, d153, d207, predicted}

abbrev AllUpTo : ℕ → List ℕ → Type 0
AllUpTo most xs = (k : ℕ) → get_or xs k 0 ≤ most

small2 : (most : ℕ) (xs : List ℕ) → AllUpTo most xs → (k : ℕ) → mean2_at xs k ≤ most
small2 most xs small k = let a = small k in let b = small (k + 1) in omega arith

three : (most x y z : ℕ) → x ≤ most → y ≤ most → z ≤ most → mean3 x y z ≤ most
three most x y z a b c = omega arith

small3 : (most : ℕ) (xs : List ℕ) → AllUpTo most xs → (k : ℕ) → mean3_at xs k ≤ most
small3 most xs small k = three most _ _ _ (small k) (small (k + 1)) (small (k + 2))

with_corner : (most corner : ℕ) (xs : List ℕ) → corner ≤ most → AllUpTo most xs → AllUpTo most (corner ∷ xs)
with_corner most corner xs one small zero = one
with_corner most corner xs one small (suc k) = small k

small117 : (most : ℕ) (up down : List ℕ) → AllUpTo most up → AllUpTo most down → (i j : ℕ) → d117 up down i j ≤ most
unfolding d117
small117 most up down ups downs zero j = small2 most up ups j
small117 most up down ups downs (suc zero) zero = three most _ _ _ (downs 1) (ups 0) (ups 1)
small117 most up down ups downs (suc zero) (suc j) = small3 most up ups j
small117 most up down ups downs (suc (suc i)) zero = small3 most down downs i
small117 most up down ups downs (suc (suc i)) (suc j) = small117 most up down ups downs i j

small135 : (most : ℕ) (up down : List ℕ) → AllUpTo most up → AllUpTo most down → (i j : ℕ) → d135 up down i j ≤ most
unfolding d135
small135 most up down ups downs zero zero = three most _ _ _ (downs 1) (ups 0) (ups 1)
small135 most up down ups downs zero (suc j) = small3 most up ups j
small135 most up down ups downs (suc i) zero = small3 most down downs i
small135 most up down ups downs (suc i) (suc j) = small135 most up down ups downs i j

small153 : (most : ℕ) (up down : List ℕ) → AllUpTo most up → AllUpTo most down → (i j : ℕ) → d153 up down i j ≤ most
unfolding d153
small153 most up down ups downs i zero = small2 most down downs i
small153 most up down ups downs zero (suc zero) = three most _ _ _ (downs 1) (ups 0) (ups 1)
small153 most up down ups downs (suc i) (suc zero) = small3 most down downs i
small153 most up down ups downs zero (suc (suc j)) = small3 most up ups j
small153 most up down ups downs (suc i) (suc (suc j)) = small153 most up down ups downs i j

either : (most : ℕ) (b : Bool) (x y : ℕ) → x ≤ most → y ≤ most → (if b then x else y) ≤ most
either most true x y a b = a
either most false x y a b = b

small207 : (most size : ℕ) (left : List ℕ) → AllUpTo most left → (i j : ℕ) → d207 size left i j ≤ most
unfolding d207
small207 most size left small i zero = either most _ _ _ (small2 most left small i) (small (size - 1))
small207 most size left small i (suc zero) = either most _ _ _ (small3 most left small i)
    (either most _ _ _ (three most _ _ _ (small i) (small (i + 1)) (small (i + 1))) (small (size - 1)))
small207 most size left small i (suc (suc j)) = either most _ _ _ (small207 most size left small (i + 1) j) (small (size - 1))

small_sum : (most n : ℕ) (xs : List ℕ) → AllUpTo most xs → sum (take n xs) ≤ n * most
small_sum most zero xs small = omega arith
small_sum most (suc n) [] small = omega arith
small_sum most (suc n) (x ∷ xs) small =
    let first : x ≤ most = small 0 in
    let split : sum (take (suc n) (x ∷ xs)) ≡ x + sum (take n xs) = sum_by-cons (λ n. n) x (take n xs) in
    let others : sum (take n xs) ≤ n * most = small_sum most n xs (λ k. small (suc k)) in
    omega arith

small_mean : (most n total : ℕ) → 0 < n → total ≤ n * most → rounded_mean n total ≤ most
small_mean most n total some few =
    let below : (total + n / 2) / n < most + 1 = div_below (total + n / 2) n (most + 1) some (omega arith) in omega arith

middle_small : (depth : Depth) → middle depth + 1 ≤ greatest depth
middle_small Eight = lit≤ tt
middle_small Ten = lit≤ tt
middle_small Twelve = lit≤ tt

small_dc : (size : ℕ) (depth : Depth) (e : EdgeSamples) → 0 < size → IsUpTo (greatest depth) e → dc_mean size depth e ≤ greatest depth
small_dc size depth e some small =
    let most : ℕ = greatest depth in
    let above = small_sum most size e.above small.above in
    let left = small_sum most size e.left small.left in
    let middling = middle_small depth in
    either most e.has_above _ _
    (either most e.has_left _ _ (small_mean most (2 * size) _ (omega arith) (omega arith)) (small_mean most size _ some above))
    (either most e.has_left _ _ (small_mean most size _ some left) (omega arith))

pub predicted_small : (mode : IntraMode) (size : ℕ) (depth : Depth) (e : EdgeSamples) → 0 < size → IsUpTo (greatest depth) e
    → IsAtMost (greatest depth) (predicted mode size depth e)
unfolding predicted
predicted_small Dc size depth e some small i j = small_dc size depth e some small
predicted_small V size depth e some small i j = small.above j
predicted_small H size depth e some small i j = small.left i
predicted_small D45 size depth e some small i j =
    either (greatest depth) _ _ _ (small3 (greatest depth) e.above small.above (i + j)) (small.above (2 * size - 1))
predicted_small D135 size depth e some small i j = small135 (greatest depth) _ _
    (with_corner (greatest depth) e.corner e.above small.corner small.above) (with_corner (greatest depth) e.corner e.left small.corner small.left) i j
predicted_small D117 size depth e some small i j = small117 (greatest depth) _ _
    (with_corner (greatest depth) e.corner e.above small.corner small.above) (with_corner (greatest depth) e.corner e.left small.corner small.left) i j
predicted_small D153 size depth e some small i j = small153 (greatest depth) _ _
    (with_corner (greatest depth) e.corner e.above small.corner small.above) (with_corner (greatest depth) e.corner e.left small.corner small.left) i j
predicted_small D207 size depth e some small i j = small207 (greatest depth) size e.left small.left i j
predicted_small D63 size depth e some small i j =
    either (greatest depth) _ _ _ (small2 (greatest depth) e.above small.above (i / 2 + j)) (small3 (greatest depth) e.above small.above (i / 2 + j))
predicted_small Tm size depth e some small i j = omega arith

-- of a block that holds them
pub held_small : (mode : IntraMode) (size : ℕ) (depth : Depth) (e : EdgeSamples) (block : List ℕ) → 0 < size → IsUpTo (greatest depth) e
    → Holds block size (predicted mode size depth e)
    → (i j : ℕ) → i < size → j < size → get_or block (i * size + j) 0 ≤ greatest depth
held_small mode size depth e block some small holds i j below low = rw (holds i j below low) (predicted_small mode size depth e some small i j)

small_list : (most n : ℕ) (f : ℕ → ℕ) → ((k : ℕ) → f k ≤ most) → AllUpTo most (map f (range_with_len 0 n))
small_list most n f small k = elim (cases_lt k n) [
  | inl low ↦ let here : 0 + k ≡ k = omega arith in rw (get_or-map-range_with_len f 0 n k k 0 low here) (small k)
  | inr past ↦ rw (get_or_past (map f (range_with_len 0 n)) k 0 (omega (arith, length-map-range_with_len f 0 n))) (omega arith)
]

pub edges_small : (width height size : ℕ) (p : IntraPlace) (depth : Depth) (m : Map) → IsAtMost (greatest depth) m
    → IsUpTo (greatest depth) (edges_in width height depth size p m)
unfolding edges_in
edges_small width height size p depth m small =
    let most : ℕ = greatest depth in
    let middling = middle_small depth in
    let low : middle depth - 1 ≤ most = omega arith in
    record {
      above = small_list most (2 * size) _ (λ k. either most (has_above p) _ _ (small _ _) low);
      left = small_list most size _ (λ k. either most (has_left p) _ _ (small _ _) middling);
      corner = either most (has_above p) _ _ (either most (has_left p) _ _ (small _ _) middling) low;
    }
