-- Places in order.
use Rattle.std.proofs.Common.{◌≡◌, ◌≤◌, ◌+◌, ◌-◌, ◌*◌, ◌/◌, ℕ, ℤ, pos, negsuc, ◌+ℤ◌, ◌-ℤ◌, arith, subst, sym}
use Rattle.std.proofs.Math.Nat.{mul-le-mul_left}
use Rattle.inter_places.specs.Axes.{clamped, last_x, whole, place, fraction, offset}
use Rattle.inter_places.specs.declared.axis.Axis.{Axis}

clamped_more : (last : ℕ) (x : ℤ) (a d : ℕ) → clamped last ((x +ℤ pos a) -ℤ pos 3) ≤ clamped last ((x +ℤ pos (a + d)) -ℤ pos 3)
clamped_more last (pos x) a d = grind arith
clamped_more last (negsuc x) a d = grind arith

-- a later place lies no lower
pub clamped_order : (last : ℕ) (x : ℤ) (a b : ℕ) → a ≤ b → clamped last ((x +ℤ pos a) -ℤ pos 3) ≤ clamped last ((x +ℤ pos b) -ℤ pos 3)
clamped_order last x a b le = let is : b ≡ a + (b - a) = omega (arith, le) in
    subst (λ (n : ℕ). clamped last ((x +ℤ pos a) -ℤ pos 3) ≤ clamped last ((x +ℤ pos n) -ℤ pos 3)) (sym is) (clamped_more last x a (b - a))

sixteenths : (f s t : ℕ) → s ≤ t → (f + s) / 16 ≤ (f + t) / 16
sixteenths f s t le = omega (arith, le)

pub offset_order : (a : Axis) (i j : ℕ) → i ≤ j → offset a i / 16 ≤ offset a j / 16
offset_order a i j le = sixteenths (fraction a) (a.step * i) (a.step * j) (mul-le-mul_left a.step le)

pub place_order : (a : Axis) (i j k l : ℕ) → i ≤ j → k ≤ l → place a i k ≤ place a j l
unfolding place
place_order a i j k l le low = clamped_order (last_x a) (whole a) (offset a i / 16 + k) (offset a j / 16 + l) (omega (arith, offset_order a i j le))
