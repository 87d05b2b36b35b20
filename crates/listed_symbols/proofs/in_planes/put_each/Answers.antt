use Rattle.std.proofs.Common.{◌<◌, ◌≤◌, ◌*◌, ◌∙◌, [], refl, sym, arith, length}
use Rattle.block_geometry.specs.TransformBlocks.{grid_blocks}
use Rattle.block_geometry.proofs.Rasters.{length_grid}
use Rattle.residue_syntax.proofs.PlaneReads.{all_fit, room_for}
use Rattle.listed_symbols.proofs.Planes.{can_more, each_ends, each_more, each_unsayable, each_without_place, none_can}
use Rattle.listed_symbols.proofs.in_planes.put_each.Goals as goal

pub loop-k-init : goal.loop-k-init
loop-k-init c = record {
  counts = rw c.requires.none refl;
  values = rw c.requires.none refl;
  made = rw c.requires.none refl;
  can = λ contexts. none_can contexts c.args.b.now (grid_blocks c.args.grid.now) c.args.levels.now c.requires.none;
}

pub returns-then-k-count-clause-made : goal.returns-then-k-count-clause-made
returns-then-k-count-clause-made c =
    let none : length (grid_blocks c.args.grid.now) ≤ c.loop-k.k = rw (length_grid c.args.grid.now) (omega (arith, c.if-k-count.true, c.count-count.ensures.count)) in
    sym c.loop-k.invariant.made ∙ each_without_place c.args.b.now (grid_blocks c.args.grid.now) c.args.listed.now c.loop-k.levels c.loop-k.k (record { ref_ptr = (0, 0); now = [] }) c.loop-k-test.true none

pub returns-then-not-can_levels-clause-made : goal.returns-then-not-can_levels-clause-made
returns-then-not-can_levels-clause-made c =
    let low : c.loop-k.k < length (grid_blocks c.args.grid.now) = rw (length_grid c.args.grid.now) (omega (arith, c.if-k-count.false, c.count-count.ensures.count)) in
    sym c.loop-k.invariant.made ∙ each_unsayable c.args.b.now (grid_blocks c.args.grid.now) c.args.listed.now c.loop-k.levels c.loop-k.k (record { ref_ptr = (0, 0); now = [] }) c.loop-k-test.true low
    (rw c.area_of-area.ensures.value at (sym c.if-not-can_levels.ensures.is))

pub put_levels-requires-clause-room : goal.put_levels-requires-clause-room
put_levels-requires-clause-room c =
    let low : c.loop-k.k < c.args.grid.now.rows * c.args.grid.now.columns = omega (arith, c.if-k-count.false, c.count-count.ensures.count) in
    room_for c.loop-k.k (c.args.grid.now.rows * c.args.grid.now.columns) _ 4096 low
    (all_fit c.args.b.now.block.tx c.args.grid.now.step c.args.grid.now.rows c.args.grid.now.columns c.requires.step c.requires.small.rows c.requires.small.columns)

pub loop-k-preserved : goal.loop-k-preserved
loop-k-preserved c =
    let places = grid_blocks c.args.grid.now in
    let k = c.loop-k.k in
    let count : k < c.args.grid.now.rows * c.args.grid.now.columns = omega (arith, c.if-k-count.false, c.count-count.ensures.count) in
    let low : k < length places = rw (length_grid c.args.grid.now) count in
    let room = room_for k (c.args.grid.now.rows * c.args.grid.now.columns) _ 4096 count
    (all_fit c.args.b.now.block.tx c.args.grid.now.step c.args.grid.now.rows c.args.grid.now.columns c.requires.step c.requires.small.rows c.requires.small.columns) in
    let made = rw (sym c.place.ensures.place) at c.put_levels.ensures.made in record {
      counts = c.put_levels.ensures.counts;
      values = c.put_levels.ensures.values;
      made = rw made (sym (each_more c.args.b.now places c.args.listed.now c.loop-k.levels k (record { ref_ptr = (0, 0); now = [] }) c.loop-k-test.true low
          (rw c.area_of-area.ensures.value at (sym c.if-not-can_levels.ensures.is))) ∙ c.loop-k.invariant.made);
      can = λ contexts. rw made (can_more contexts c.args.b.now places _ c.loop-k.levels k (omega (arith, c.loop-k.invariant.counts, count, c.count-count.ensures.count, c.count-count.ensures.few)) (omega (arith, c.loop-k.invariant.values, room))
          (rw (sym c.place.ensures.place) at (c.put_levels.ensures.can contexts)) (c.loop-k.invariant.can contexts));
    }

pub returns-clause-made : goal.returns-clause-made
returns-clause-made c =
    sym c.loop-k.invariant.made ∙ each_ends c.args.b.now (grid_blocks c.args.grid.now) c.args.listed.now c.loop-k.levels c.loop-k.k c.loop-k-test.false
