use Rattle.std.proofs.Common.{◌≡◌, ◌+◌, ◌-◌, ◌*◌, ◌≤◌, ◌∙◌, sym, refl, arith, min, length}
use Rattle.planes.specs.Planes.{lower_end, plane_map, right_end}
use Rattle.planes.proofs.RowLemmas.{next, no_rows}
use Rattle.block_rebuild.specs.InterBlocks.{samples_from}
use Rattle.block_rebuild.proofs.Sums.{added, long_part, part_residue, row_added, square_added}
use Rattle.block_rebuild.proofs.residue.add_inside.Goals as goal

pub loop-i-init : goal.loop-i-init
loop-i-init g c = let a = c.args in let m = plane_map a.samples.now in record {
  same = refl;
  so_far = sym (no_rows m a.row a.column g.row.N (added c.greatest-most.result g.row.N (samples_from m a.row a.column) a.values.now));
}

pub add_short-requires-clause-inside : goal.add_short-requires-clause-inside
add_short-requires-clause-inside g c = let inside = c.requires.inside in rw c.loop-i.invariant.same (record {
  above = omega (arith, inside.above);
  below = omega (arith, c.requires.below, c.loop-i-test.true);
  left = inside.left;
  right = inside.right;
})

pub add_short-requires-clause-long : goal.add_short-requires-clause-long
add_short-requires-clause-long g c = let N = g.row.N in
    let fits : c.loop-i.i * N + N ≤ length c.args.values.now = omega (arith, next N c.loop-i.i N c.loop-i-test.true, c.requires.long) in
    long_part c.args.values.now (c.loop-i.i * N) N fits

pub add_short-requires-clause-residue : goal.add_short-requires-clause-residue
add_short-requires-clause-residue g c = let N = g.row.N in
    let fits : c.loop-i.i * N + N ≤ length c.args.values.now = omega (arith, next N c.loop-i.i N c.loop-i-test.true, c.requires.long) in
    rw (long_part c.args.values.now (c.loop-i.i * N) N fits) at (part_residue c.args.values.now (c.loop-i.i * N) N fits c.requires.small)

pub loop-i-preserved : goal.loop-i-preserved
loop-i-preserved g c = let a = c.args in let N = g.row.N in
    let fits : c.loop-i.i * N + N ≤ length a.values.now = omega (arith, next N c.loop-i.i N c.loop-i-test.true, c.requires.long) in record {
      same = c.add_short.ensures.area ∙ c.loop-i.invariant.same;
      so_far = row_added (plane_map a.samples.now) (plane_map c.loop-i.samples) (plane_map c.add_short.new.samples) a.row a.column c.loop-i.i N N c.greatest-most.result
          a.values.now _ refl fits c.loop-i.invariant.so_far (rw (long_part a.values.now (c.loop-i.i * N) N fits) c.add_short.ensures.map);
    }

pub returns-clause-map : goal.returns-clause-map
returns-clause-map g c = let a = c.args in let area = a.samples.now.area in let N = g.row.N in
    let done : c.loop-i.i ≡ N = omega (arith, c.loop-i-test.false, c.loop-i.auto.i-end) in
    let rows : c.loop-i.i ≡ min N (lower_end area - a.row) = omega (arith, done, c.requires.below) in
    let columns : N ≡ min N (right_end area - a.column) = omega (arith, c.requires.inside.right) in
    square_added (plane_map a.samples.now) (plane_map c.loop-i.samples) a.row a.column c.loop-i.i N N N (right_end area) (lower_end area) a.depth c.greatest-most.result a.values.now
    c.loop-i.invariant.so_far refl c.greatest-most.ensures.value rows columns
