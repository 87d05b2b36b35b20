use Rattle.std.proofs.Common.{◌≡◌, rules}
use Rattle.vp9_tables.specs.BlockTables.{width_of, height_of}
use Rattle.block_geometry.specs.TransformBlocks.{plane_side}
use Rattle.block_geometry.proofs.FewBlocks.{wide, high, small_side}
use Rattle.block_geometry.proofs.transform_blocks.transform_grid.Goals as goal

pub returns-clause-small : goal.returns-clause-small
returns-clause-small c =
    let b = c.args.block in
    let tall : c.plane_side.result ≡ plane_side b.ss_y (height_of b.size) = search rules in
    let long : c.plane_side-2.result ≡ plane_side b.ss_x (width_of b.size) = search rules in record {
      some = c.tx_step-step.ensures.least;
      rows = rw c.tx_step-step.ensures.is (small_side b.tx _ _ (rw tall (high b.ss_y b.size)) (rw c.tx_step-step.ensures.is at c.starts_inside.ensures.few));
      columns = rw c.tx_step-step.ensures.is (small_side b.tx _ _ (rw long (wide b.ss_x b.size)) (rw c.tx_step-step.ensures.is at c.starts_inside-2.ensures.few));
    }
