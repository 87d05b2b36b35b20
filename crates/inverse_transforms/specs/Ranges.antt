-- What fits, and rounding (8.7.1 of the standard).
use Rattle.std.specs.Prelude.{ℕ, ◌+◌, ◌^◌, ◌≤◌, ℤ, pos, negsuc, ◌+ℤ◌, Bool, nat_lt, unsigned_abs}
use Rattle.std.specs.Int.{int_shr}
use Rattle.vp9_types.specs.declared.shape.Depth.{Depth}
use Rattle.vp9_types.specs.Shapes.{depth_bits}

-- at least -limit and below limit
abbrev pub fits : ℕ → ℤ → Bool
fits limit (pos x) = nat_lt x limit
fits limit (negsuc x) = nat_lt x limit

-- of signed numbers of 8 + depth bits
abbrev pub limit_of : Depth → ℕ
limit_of depth = 2 ^ (7 + depth_bits depth)

-- Round2(x, 14)
unfoldable pub round14 : ℤ → ℤ
round14 x = int_shr (x +ℤ pos 8192) 14

-- more than any stored value: what sums and products of it fit in is so known
abbrev pub IsSmall : ℤ → Type 0
IsSmall x = unsigned_abs x ≤ 2 ^ 24

-- of signed numbers of 16 bits; sums of two products of such values and of cosines are within 32 bits
abbrev pub IsNarrow : ℤ → Type 0
IsNarrow x = unsigned_abs x ≤ 2 ^ 15
