use Rattle.std.proofs.Common.{◌≡◌, ◌<◌, ◌*◌, ◌∙◌, refl, arith, length}
use Rattle.block_geometry.specs.TransformBlocks.{grid_blocks, place_at}
use Rattle.block_geometry.proofs.Rasters.{length_grid}
use Rattle.vp9_tables.specs.Scans.{area}
use Rattle.block_rebuild.specs.Residues.{first_residues}
use Rattle.block_rebuild.proofs.Puts.{put_one_more, small_at}
use Rattle.block_rebuild.proofs.in_plane.put_residues.Goals as goal

pub loop-k-init : goal.loop-k-init
unfolding first_residues
loop-k-init g c = record { same = refl; range = c.requires.range; so_far = refl }

pub get-residue-requires-clause-held : goal.get-residue-requires-clause-held
get-residue-requires-clause-held g c =
    let low : c.loop-k.k < c.args.grid.now.rows * c.args.grid.now.columns = omega (arith, c.loop-k-test.true, c.count-k-end.ensures.count, c.loop-k.auto.k-end) in
    rw c.area_of-area.ensures.value (c.requires.held c.loop-k.k (rw (length_grid c.args.grid.now) low))

pub put_residue-requires-clause-inside : goal.put_residue-requires-clause-inside
put_residue-requires-clause-inside g c =
    let low : c.loop-k.k < c.args.grid.now.rows * c.args.grid.now.columns = omega (arith, c.loop-k-test.true, c.count-k-end.ensures.count, c.loop-k.auto.k-end) in
    let here = rw c.place.ensures.place at (c.requires.inside c.loop-k.k (place_at 0 0) (rw (length_grid c.args.grid.now) low)) in
    rw (c.loop-k.invariant.same, c.block_at-block.ensures) here

pub put_residue-requires-clause-range : goal.put_residue-requires-clause-range
put_residue-requires-clause-range g c = c.loop-k.invariant.range

pub put_residue-requires-clause-small : goal.put_residue-requires-clause-small
put_residue-requires-clause-small g c =
    let low : c.loop-k.k < c.args.grid.now.rows * c.args.grid.now.columns = omega (arith, c.loop-k-test.true, c.count-k-end.ensures.count, c.loop-k.auto.k-end) in
    rw (c.get-residue.ensures.value, c.area_of-area.ensures.value)
    (small_at (g.R.TransformResidues.residue c.args.residues.now c.args.b.now.plane (area c.args.b.now.tx)) (grid_blocks c.args.grid.now) c.loop-k.k
    (rw (length_grid c.args.grid.now) low) c.requires.small)

pub loop-k-preserved : goal.loop-k-preserved
loop-k-preserved g c = record {
  same = c.put_residue.ensures.area ∙ c.loop-k.invariant.same;
  range = c.put_residue.ensures.range;
  so_far = put_one_more c.args.samples.now.area c.loop-k.samples.area c.args.b.now (grid_blocks c.args.grid.now) (g.R.TransformResidues.residue c.args.residues.now c.args.b.now.plane (area c.args.b.now.tx)) c.loop-k.k
      _ _ _ _ _ c.place.ensures.place (rw c.area_of-area.ensures.value at c.get-residue.ensures.value) c.loop-k.invariant.so_far c.loop-k.invariant.same
      (rw c.block_at-block.ensures at c.put_residue.ensures.map);
}

pub returns-clause-map : goal.returns-clause-map
returns-clause-map g c =
    let done : c.loop-k.k ≡ length (grid_blocks c.args.grid.now) = rw (length_grid c.args.grid.now) (omega (arith, c.loop-k-test.false, c.loop-k.auto.k-end, c.count-k-end.ensures.count)) in
    rw done at c.loop-k.invariant.so_far
