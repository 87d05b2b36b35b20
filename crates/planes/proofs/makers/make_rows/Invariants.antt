use Rattle.std.proofs.Common.{◌≡◌, ◌+◌, ◌*◌, map}
use Rattle.vp9_types.specs.Maps.{rows_of, with_block}
use Rattle.planes.proofs.makers.make_rows.Given as goal

abbrev pub invariant-loop-i : goal.invariant-loop-i
invariant-loop-i g l = record {
  place : l.place ≡ (l.row + l.i) * l.width + l.column;
  map : rows_of l.width (map g.P.Sample.value l.samples)
      ≡ with_block (rows_of l.width (map g.P.Sample.value l.initial.samples)) l.row l.column l.i g.row.N (g.M.RowMaker.made l.maker);
}
