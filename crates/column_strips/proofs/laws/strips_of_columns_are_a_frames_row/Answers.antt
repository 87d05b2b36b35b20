use Rattle.std.proofs.Common.{refl}
use Rattle.block_rebuild.specs.Strips.{with_blocks}
use Rattle.column_strips.proofs.RowOfStrips.{row_is}
use Rattle.column_strips.proofs.laws.strips_of_columns_are_a_frames_row.Goals as goal

pub returns-clause-row : goal.returns-clause-row
returns-clause-row g c = row_is

pub returns-clause-frame : goal.returns-clause-frame
unfolding with_blocks
returns-clause-frame g c = λ put blocks. refl
