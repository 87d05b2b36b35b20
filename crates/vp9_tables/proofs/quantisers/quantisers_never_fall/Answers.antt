use Rattle.std.proofs.Common.{refl, ◌≡◌, ◌+◌, ◌*◌, true}
use Rattle.std.specs.Prelude.{slice_range}
use Rattle.vp9_types.specs.declared.shape.Depth.{Depth}
use Rattle.vp9_types.specs.declared.shape.Depth.TheVariants.{Eight, Ten, Twelve}
use Rattle.vp9_tables.specs.Numbers.{depth_number}
use Rattle.vp9_tables.specs.declared.data.quantisers.TheConstants.{AC_Q, DC_Q}
use Rattle.vp9_tables.proofs.Orders.{rises, never_falls}
use Rattle.vp9_tables.proofs.quantisers.quantisers_never_fall.Goals as goal

dc_rises : (depth : Depth) → rises 0 (slice_range DC_Q (256 * depth_number depth) (256 * depth_number depth + 256)) ≡ true
dc_rises Eight = refl
dc_rises Ten = refl
dc_rises Twelve = refl

ac_rises : (depth : Depth) → rises 0 (slice_range AC_Q (256 * depth_number depth) (256 * depth_number depth + 256)) ≡ true
ac_rises Eight = refl
ac_rises Ten = refl
ac_rises Twelve = refl

pub returns-clause-dc : goal.returns-clause-dc
returns-clause-dc c = λ depth. never_falls 0 _ (dc_rises depth)

pub returns-clause-ac : goal.returns-clause-ac
returns-clause-ac c = λ depth. never_falls 0 _ (ac_rises depth)
