-- Means along an edge that has the left samples from below upwards, the corner, and the samples above.
use Rattle.std.proofs.Common.{◌≡◌, ◌≤◌, ◌+◌, ◌*◌, ◌/◌, ◌-◌, ℕ, refl, ◌∙◌, arith, List, get_or, ap}
use Rattle.intra_predict.specs.PredictedModes.{mean2, mean3, mean2_at, mean3_at, corner_mean}

pub record Joined (size : ℕ) (edge up down : List ℕ) : Type 0 where
  pub downs : (k : ℕ) → k ≤ size → get_or edge (size - k) 0 ≡ get_or down k 0
  pub ups : (k : ℕ) → k ≤ size → get_or edge (size + k) 0 ≡ get_or up k 0

up_at : (size : ℕ) (edge up down : List ℕ) → Joined size edge up down → (k p : ℕ) → p ≡ size + k → k ≤ size
    → get_or edge p 0 ≡ get_or up k 0
up_at size edge up down is k p at low = rw at (is.ups k low)

down_at : (size : ℕ) (edge up down : List ℕ) → Joined size edge up down → (k p : ℕ) → p + k ≡ size
    → get_or edge p 0 ≡ get_or down k 0
down_at size edge up down is k p at =
    let from : p ≡ size - k = omega arith in rw from (is.downs k (omega arith))

three : (a b c x y z : ℕ) → a ≡ x → b ≡ y → c ≡ z → mean3 a b c ≡ mean3 x y z
three a b c x y z p q r = rw (p, q, r) refl

backwards : (x y z : ℕ) → mean3 x y z ≡ mean3 z y x
backwards x y z = ap (λ n. (n + 2) / 4) (turned x y z)
  where
    turned : (x y z : ℕ) → x + 2 * y + z ≡ z + 2 * y + x
    turned x y z = omega arith

two : (a b x y : ℕ) → a ≡ x → b ≡ y → mean2 a b ≡ mean2 x y
two a b x y p q = rw (p, q) refl

pub corner_is : (size : ℕ) (edge up down : List ℕ) → Joined size edge up down → (p : ℕ) → p + 1 ≡ size
    → mean3_at edge p ≡ corner_mean up down
corner_is size edge up down is p at = three _ _ _ _ _ _
    (down_at size edge up down is 1 p at) (up_at size edge up down is 0 (p + 1) (omega arith) (omega arith))
    (up_at size edge up down is 1 (p + 2) (omega arith) (omega arith))

pub up_is : (size : ℕ) (edge up down : List ℕ) → Joined size edge up down → (k p : ℕ) → p ≡ size + k → k + 2 ≤ size
    → mean3_at edge p ≡ mean3_at up k
up_is size edge up down is k p at low = three _ _ _ _ _ _
    (up_at size edge up down is k p at (omega arith)) (up_at size edge up down is (k + 1) (p + 1) (omega arith) (omega arith))
    (up_at size edge up down is (k + 2) (p + 2) (omega arith) (omega arith))

pub down_is : (size : ℕ) (edge up down : List ℕ) → Joined size edge up down → (k p : ℕ) → p + k + 2 ≡ size
    → mean3_at edge p ≡ mean3_at down k
down_is size edge up down is k p at = three _ _ _ _ _ _
    (down_at size edge up down is (k + 2) p (omega arith)) (down_at size edge up down is (k + 1) (p + 1) (omega arith))
    (down_at size edge up down is k (p + 2) (omega arith))
    ∙ backwards _ _ _

pub up_is_2 : (size : ℕ) (edge up down : List ℕ) → Joined size edge up down → (k p : ℕ) → p ≡ size + k → k + 1 ≤ size
    → mean2_at edge p ≡ mean2_at up k
up_is_2 size edge up down is k p at low = two _ _ _ _
    (up_at size edge up down is k p at (omega arith)) (up_at size edge up down is (k + 1) (p + 1) (omega arith) (omega arith))

pub down_is_2 : (size : ℕ) (edge up down : List ℕ) → Joined size edge up down → (k p : ℕ) → p + k + 1 ≡ size
    → mean2_at edge p ≡ mean2_at down k
down_is_2 size edge up down is k p at = two _ _ _ _
    (down_at size edge up down is (k + 1) p (omega arith)) (down_at size edge up down is k (p + 1) (omega arith))
    ∙ turned _ _
  where
    turned : (x y : ℕ) → mean2 x y ≡ mean2 y x
    turned x y = omega arith
