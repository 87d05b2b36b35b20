-- A delta scaled.
use Rattle.std.proofs.Common.{◌≡◌, ℕ, ◌*◌, ◌≤◌, ℤ, pos, negsuc, ◌*ℤ◌, unsigned_abs, arith, to_z, of_z}
use Rattle.std.proofs.Math.Nat.{mul-le-mul}
use Rattle.std.proofs.lemmas.Int.{to_z-of_z, unsigned_abs-mul, fits_signed_mul}
use mir.Syntax.{w32}

kept : (x : ℤ) (most : ℕ) → unsigned_abs x ≤ most → most ≤ 65536 → to_z w32 (of_z w32 x) ≡ x
kept (pos n) most low small = to_z-of_z w32 (pos n) (record { sfits = omega arith })
kept (negsuc n) most low small = to_z-of_z w32 (negsuc n) (record { sfits = omega arith })

pub value : (x c : ℤ) → unsigned_abs x ≤ 65536 → unsigned_abs c ≤ 128 → to_z w32 (of_z w32 (to_z w32 (of_z w32 x) *ℤ to_z w32 (of_z w32 c))) ≡ x *ℤ c
value x c low small =
    rw (kept x 65536 low (omega arith), kept c 128 small (omega arith))
    (to_z-of_z w32 (x *ℤ c) (fits_signed_mul w32 x c 65536 128 low small (omega arith)))

pub size : (x c : ℤ) → unsigned_abs x ≤ 65536 → unsigned_abs c ≤ 128
    → unsigned_abs (to_z w32 (of_z w32 (to_z w32 (of_z w32 x) *ℤ to_z w32 (of_z w32 c)))) ≤ 8388608
size x c low small =
    let both : unsigned_abs x * unsigned_abs c ≤ 65536 * 128 = mul-le-mul low small in
    rw (value x c low small) (omega (arith, unsigned_abs-mul x c))
