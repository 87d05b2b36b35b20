-- The samples of a depth.
use Rattle.std.specs.Prelude.{ℕ, ◌-◌, ◌^◌}
use Rattle.vp9_types.specs.declared.shape.Depth.{Depth}
use Rattle.vp9_types.specs.Shapes.{depth_bits}

-- 1 << (BitDepth - 1)
abbrev pub middle : Depth → ℕ
middle depth = 2 ^ (depth_bits depth - 1)
