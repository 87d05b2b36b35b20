use Rattle.std.proofs.Common.{rules}
use Rattle.line_filter.proofs.SquareLemmas.{row_set}
use Rattle.line_filter.proofs.kept.put_row.Goals as goal

pub returns : goal.returns
returns c = record { map = rw c.copy_from_slice.ensures.after (row_set c.args.i c.args.block.now c.args.row.now c.requires.low c.requires.long (search rules)) }
