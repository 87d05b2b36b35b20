-- The DCTs of 4, 8 and 16 as formulas. Where all values fit they are what the flows give.
use Rattle.std.specs.Prelude.{ℕ, ℤ, true, List, [], ◌∷◌}
use Rattle.inverse_transforms.specs.declared.values.Four.{Four}
use Rattle.inverse_transforms.specs.Flow.{at, rotated, sum_and_difference}

unfoldable pub dct_quad : ℤ → ℤ → ℤ → ℤ → Four
dct_quad x0 x1 x2 x3 = record {
  in_range = true;
  first = (sum_and_difference (rotated 16 x0 x2).second (rotated 24 x1 x3).second).first;
  second = (sum_and_difference (rotated 16 x0 x2).first (rotated 24 x1 x3).first).first;
  third = (sum_and_difference (rotated 16 x0 x2).first (rotated 24 x1 x3).first).second;
  fourth = (sum_and_difference (rotated 16 x0 x2).second (rotated 24 x1 x3).second).second;
}

-- what the values in the odd places of 8 make, by the angles 28, 12 and 16, and likewise each half of those in the odd places of 16
unfoldable pub odd_quad : ℕ → ℕ → ℕ → ℤ → ℤ → ℤ → ℤ → Four
odd_quad k m n a b c d = record {
  in_range = true;
  first = (sum_and_difference (rotated k a d).second (rotated m c b).second).first;
  second = (rotated n (sum_and_difference (rotated k a d).second (rotated m c b).second).second
      (sum_and_difference (rotated k a d).first (rotated m c b).first).second).second;
  third = (rotated n (sum_and_difference (rotated k a d).second (rotated m c b).second).second
      (sum_and_difference (rotated k a d).first (rotated m c b).first).second).first;
  fourth = (sum_and_difference (rotated k a d).first (rotated m c b).first).first;
}

-- what both halves of the values in the odd places of 16 make together
unfoldable pub odd_of_quads : Four → Four → List ℤ
odd_of_quads v w =
    (sum_and_difference v.first w.first).first ∷ (sum_and_difference v.second w.second).first
    ∷ (rotated 16 (sum_and_difference v.second w.second).second (sum_and_difference v.third w.third).second).second
    ∷ (rotated 16 (sum_and_difference v.first w.first).second (sum_and_difference v.fourth w.fourth).second).second
    ∷ (rotated 16 (sum_and_difference v.first w.first).second (sum_and_difference v.fourth w.fourth).second).first
    ∷ (rotated 16 (sum_and_difference v.second w.second).second (sum_and_difference v.third w.third).second).first
    ∷ (sum_and_difference v.third w.third).first ∷ (sum_and_difference v.fourth w.fourth).first ∷ []

unfoldable pub odd_eight : List ℤ → List ℤ
odd_eight xs = odd_of_quads (odd_quad 30 14 24 (at xs 1) (at xs 7) (at xs 9) (at xs 15)) (odd_quad 6 22 56 (at xs 13) (at xs 11) (at xs 5) (at xs 3))
