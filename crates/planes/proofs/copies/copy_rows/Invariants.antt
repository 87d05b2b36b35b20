use Rattle.std.proofs.Common.{◌≡◌, map}
use Rattle.vp9_types.specs.Maps.{rows_of, with_block}
use Rattle.planes.proofs.copies.copy_rows.Given as goal

abbrev pub invariant-loop-i : goal.invariant-loop-i
invariant-loop-i g l = rows_of l.width (map g.P.Sample.value l.samples)
    ≡ with_block (rows_of l.width (map g.P.Sample.value l.initial.samples)) l.to.first_row l.to.first_column l.i l.to.columns (rows_of l.stride (map g.P.Sample.value l.block))
