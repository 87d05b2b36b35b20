-- The greatest samples of the depths.
use Rattle.std.proofs.Common.{◌≡◌, ◌≤◌, refl, arith}
use Rattle.vp9_types.specs.Sizes.{greatest}
use Rattle.vp9_types.specs.declared.shape.Depth.{Depth}
use Rattle.vp9_types.specs.declared.shape.Depth.TheVariants.{Eight, Ten, Twelve}

pub of_bytes : (depth : Depth) → depth ≡ Eight → greatest depth ≡ 255
of_bytes depth is = rw is refl

pub of_any : (depth : Depth) → greatest depth ≤ 4095
of_any Eight = omega arith
of_any Ten = omega arith
of_any Twelve = omega arith
