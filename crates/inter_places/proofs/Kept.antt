-- Numbers that go from one call to the next.
use Rattle.std.proofs.Common.{◌≡◌, ℕ, ◌+◌, ◌≤◌, ◌^◌, ℤ, pos, negsuc, ◌+ℤ◌, ◌*ℤ◌, Bool, unsigned_abs, to_z, of_z, arith, ◌∙◌, ap}
use Rattle.std.proofs.lemmas.Int.{to_z-of_z, unsigned_abs-mul}
use mir.Syntax.{w32}
use Rattle.inter_places.specs.PlaneVectors.{in_sixteenths}

pub kept : (z : ℤ) → unsigned_abs z ≤ 2 ^ 24 → to_z w32 (of_z w32 z) ≡ z
kept (pos x) small = to_z-of_z w32 (pos x) (record { sfits = omega arith })
kept (negsuc x) small = to_z-of_z w32 (negsuc x) (record { sfits = omega arith })

sum_small : (x y : ℤ) (a b : ℕ) → unsigned_abs x ≤ a → unsigned_abs y ≤ b → unsigned_abs (x +ℤ y) ≤ a + b
sum_small (pos x) (pos y) a b small few = omega arith
sum_small (pos x) (negsuc y) a b small few = grind (arith, small, few)
sum_small (negsuc x) (pos y) a b small few = grind (arith, small, few)
sum_small (negsuc x) (negsuc y) a b small few = grind (arith, small, few)

abbrev pub again : ℤ → ℤ
again z = to_z w32 (of_z w32 z)

-- the end of a block's reach, by what each step says of it
pub end_is : (ss : Bool) (places edge reach : ℤ) → unsigned_abs places ≤ 8192 → unsigned_abs edge ≤ 2 ^ 21 → unsigned_abs reach ≤ 2 ^ 11 →
    edge ≡ in_sixteenths ss (again (pos 64 *ℤ again places)) → again (again edge +ℤ again reach) ≡ in_sixteenths ss (pos 64 *ℤ places) +ℤ reach
end_is ss places edge reach few near short is =
    let times : unsigned_abs (pos 64 *ℤ places) ≤ 2 ^ 24 = omega (arith, unsigned_abs-mul (pos 64) places) in
    let edge_is = rw (kept places (omega (arith, few)), kept (pos 64 *ℤ places) times) at is in
    rw (kept edge (omega (arith, near)), kept reach (omega (arith, short)))
    (kept (edge +ℤ reach) (omega (arith, sum_small edge reach (2 ^ 21) (2 ^ 11) near short)) ∙ ap (λ (z : ℤ). z +ℤ reach) edge_is)
