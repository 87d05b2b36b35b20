-- A transform of a list is a flow: steps applied one after another, each of which stores its values if they fit
-- (8.7.1 of the standard).
use Rattle.std.specs.Prelude.{◌≡◌, ℕ, ◌+◌, ◌*◌, ◌^◌, ◌≤◌, ℤ, unsigned_abs, pos, neg_ℤ, ◌+ℤ◌, ◌-ℤ◌, ◌*ℤ◌, Bool, true, ◌&&◌, List, [], ◌∷◌, map, take, length, replicate, slice_index_or, slice_set, Result, Ok, Err, if◌then◌else◌, nat_lt, nat_le}
use Rattle.std.specs.List.{list_all}
use Rattle.vp9_types.specs.declared.rule.Rule.{Rule}
use Rattle.vp9_types.specs.declared.rule.Rule.TheVariants.{TransformRange}
use Rattle.vp9_tables.specs.declared.flow_row.FlowRow.{FlowRow}
use Rattle.vp9_tables.specs.declared.flow_row.FlowRow.TheVariants.{Perm, Rot, Sum, Neg, Wide}
use Rattle.vp9_tables.specs.TransformTables.{cosine_of, is_step}
use Rattle.inverse_transforms.specs.declared.values.Two.{Two}
use Rattle.inverse_transforms.specs.declared.values.Four.{Four}
use Rattle.inverse_transforms.specs.Angles.{sine_of}
use Rattle.inverse_transforms.specs.Ranges.{fits, round14}

abbrev pub at : List ℤ → ℕ → ℤ
at xs i = slice_index_or xs i (pos 0)

-- the point (x, y) turned by the angle k, times 2 ^ 14: its first and its second coordinate
unfoldable pub turned_x : ℕ → ℤ → ℤ → ℤ
turned_x k x y = (x *ℤ cosine_of k) -ℤ (y *ℤ sine_of k)

unfoldable pub turned_y : ℕ → ℤ → ℤ → ℤ
turned_y k x y = (x *ℤ sine_of k) +ℤ (y *ℤ cosine_of k)

-- limit * 65536 is the limit of signed numbers of 24 + depth bits
abbrev pub wide : ℕ → ℤ → Bool
wide limit x = fits (limit * 65536) x

unfoldable pub rotated : ℕ → ℤ → ℤ → Two
rotated k x y = record { first = round14 (turned_x k x y); second = round14 (turned_y k x y) }

unfoldable pub sum_and_difference : ℤ → ℤ → Two
sum_and_difference x y = record { first = x +ℤ y; second = x -ℤ y }

unfoldable pub rotated_wide : ℕ → ℕ → ℕ → ℤ → ℤ → ℤ → ℤ → Four
rotated_wide limit k m a b c d = record {
  in_range = wide limit (turned_x k a b) && (wide limit (turned_y k a b) && (wide limit (turned_x m c d) && wide limit (turned_y m c d)));
  first = round14 (turned_x k a b +ℤ turned_x m c d);
  second = round14 (turned_y k a b +ℤ turned_y m c d);
  third = round14 (turned_x k a b -ℤ turned_x m c d);
  fourth = round14 (turned_y k a b -ℤ turned_y m c d);
}

unfoldable pub two_fit : ℕ → Two → Bool
two_fit limit v = fits limit v.first && fits limit v.second

unfoldable pub four_fit : ℕ → Four → Bool
four_fit limit v = v.in_range && (fits limit v.first && (fits limit v.second && (fits limit v.third && fits limit v.fourth)))

abbrev pub store_one : ℕ → List ℤ → ℕ → ℤ → Result (List ℤ) Rule
store_one limit xs a v = if fits limit v then Ok (slice_set xs a v) else Err TransformRange

abbrev pub store_two : ℕ → List ℤ → ℕ → ℕ → Two → Result (List ℤ) Rule
store_two limit xs a b v =
    if two_fit limit v then Ok (slice_set (slice_set xs a v.first) b v.second) else Err TransformRange

abbrev pub store_four : ℕ → List ℤ → ℕ → ℕ → ℕ → ℕ → Four → Result (List ℤ) Rule
store_four limit xs a b c d v =
    if four_fit limit v then Ok (slice_set (slice_set (slice_set (slice_set xs a v.first) b v.second) c v.third) d v.fourth)
    else Err TransformRange

-- at each place what stood at the place that the order gives for it
abbrev pub permuted : List ℕ → List ℤ → List ℤ
permuted order xs = map (λ i. at xs i) (take (length xs) order)

-- One step. Of the standard's operations (8.7.1.1) `Rot a b k` is the butterfly rotation B(a, b, k, 0), and `Sum a b` the Hadamard
-- rotation H(a, b, 0). `Wide a b k c d m` is of the ADST alone, two steps in one: SB(a, b, k, 0) and SB(c, d, m, 0), whose values S aren't
-- rounded, and then SH(a, c) and SH(b, d). `Neg a` is T[a] = -T[a] at the end of an ADST. `Perm` is a permutation of the array before or
-- after a transform, or the exchanges that the standard's flipped rotations, B(a, b, k, 1), are left with; it stores no new value
unfoldable pub flow_step : ℕ → FlowRow → List ℤ → Result (List ℤ) Rule
flow_step limit (Perm order) xs = Ok (permuted order xs)
flow_step limit (Rot a b k) xs = store_two limit xs a b (rotated k (at xs a) (at xs b))
flow_step limit (Sum a b) xs = store_two limit xs a b (sum_and_difference (at xs a) (at xs b))
flow_step limit (Neg a) xs = store_one limit xs a (neg_ℤ (at xs a))
flow_step limit (Wide a b k c d m) xs = store_four limit xs a b c d (rotated_wide limit k m (at xs a) (at xs b) (at xs c) (at xs d))

abbrev pub and_then : Result (List ℤ) Rule → (List ℤ → Result (List ℤ) Rule) → Result (List ℤ) Rule
and_then (Ok xs) f = f xs
and_then (Err rule) f = Err rule

-- the steps in order, up to the first value that doesn't fit
abbrev pub run_flow : ℕ → List FlowRow → List ℤ → Result (List ℤ) Rule
run_flow limit [] xs = Ok xs
run_flow limit (row ∷ rows) xs = and_then (flow_step limit row xs) (run_flow limit rows)

-- the call answers what is computed, and leaves its list
abbrev pub Gives : Result (List ℤ) Rule → Result (Unit {0}) Rule → List ℤ → Type 0
Gives computed (Ok _) new = computed ≡ Ok new
Gives computed (Err rule) new = computed ≡ Err rule

-- the sum of the magnitudes
abbrev pub magnitude : List ℤ → ℕ
magnitude [] = 0
magnitude (x ∷ xs) = unsigned_abs x + magnitude xs

-- a transform, by its limit, that keeps n values whose magnitudes add up to this at most within 16 bits, and so is the same at
-- every limit of 16 bits and more
unfoldable pub IsCalm : ℕ → ℕ → (ℕ → List ℤ → Result (List ℤ) Rule) → Type 0
IsCalm n most f =
    (xs : List ℤ) → length xs ≡ n → magnitude xs ≤ most → (ys : List ℤ) × ((limit : ℕ) → 2 ^ 15 ≤ limit → f limit xs ≡ Ok ys)

-- there are n entries at least, and the first n are places below n
abbrev pub is_reorder : ℕ → FlowRow → Bool
is_reorder n (Perm order) = nat_le n (length order) && list_all (λ place. nat_lt place n) (take n order)
is_reorder n (Rot a b k) = true
is_reorder n (Sum a b) = true
is_reorder n (Neg a) = true
is_reorder n (Wide a b k c d m) = true

-- a step on n values
abbrev pub is_within : ℕ → FlowRow → Bool
is_within n row = is_step n row && is_reorder n row

-- n zeros
abbrev pub zeros : ℕ → List ℤ
zeros n = replicate n (pos 0)
