-- Scales of references in range.
use Rattle.std.proofs.Common.{ℕ, ◌*◌, ◌/◌, ◌≤◌, arith}
use Rattle.std.proofs.Math.Nat.{div-le_of_le-mul, le-div_iff_mul-le}
use Rattle.inter_places.specs.Scaling.{IsInScale}

pub scale_most : (reference own : ℕ) → IsInScale reference own → reference * 16384 / own ≤ 32768
scale_most reference own fits = div-le_of_le-mul own (omega (arith, fits.large))

pub scale_least : (reference own : ℕ) → IsInScale reference own → 1024 ≤ reference * 16384 / own
scale_least reference own fits = (le-div_iff_mul-le {k = own} {x = 1024} {y = reference * 16384} fits.some).1 (omega (arith, fits.small))
