use Rattle.std.proofs.Common.{rules, ◌≡◌, length}
use Rattle.loop_filter.proofs.Within.{cell_of}
use Rattle.loop_filter.proofs.cells.filter_pass.Goals as goal

pub filter_cell-requires-clause-cell : goal.filter_cell-requires-clause-cell
filter_cell-requires-clause-cell g c = let a = c.args in
    let long : length a.list.now.cells ≡ 64 = search rules in
    cell_of a.f.now.setting a.way.plane a.samples.now.area c.loop-k.samples.area a.list.now c.loop-k.k _ c.loop-k.invariant.area long c.requires.cells c.loop-k-test.true
