use Rattle.std.proofs.Common.{◌≡◌, ◌<◌, ◌≤◌, arith, length, refl, pos, ℤ}
use Rattle.std.proofs.lemmas.List.{length-replicate}
use Rattle.std.proofs.lemmas.List.Elements.{All-replicate}
use Rattle.vp9_tables.specs.Scans.{area}
use Rattle.block_geometry.specs.TransformBlocks.{grid_blocks}
use Rattle.block_geometry.proofs.Rasters.{length_grid}
use Rattle.drawn_frames.proofs.LevelDraws.{drew_none, drew_more, drew_all, part_zeros, room_at}
use Rattle.drawn_frames.proofs.levels.draw_transform_blocks.Goals as goal

pub loop-k-init : goal.loop-k-init
loop-k-init c = record { drew = drew_none c.args.b.now (grid_blocks c.args.grid.now) c.args.levels.now c.args.draws.now.x c.requires.none }

pub slice_bounds-values-end : goal.slice_bounds-values-end
slice_bounds-values-end c =
    room_at c.args.b.now.block.tx c.args.grid.now c.loop-k.k c.count-k-end.result c.area_of-area.result c.requires.small c.requires.step c.count-k-end.ensures.count c.area_of-area.ensures.value c.loop-k-test.true

pub draw_levels_at-requires-clause-long : goal.draw_levels_at-requires-clause-long
draw_levels_at-requires-clause-long c =
    let room = room_at c.args.b.now.block.tx c.args.grid.now c.loop-k.k c.count-k-end.result c.area_of-area.result c.requires.small c.requires.step c.count-k-end.ensures.count c.area_of-area.ensures.value c.loop-k-test.true in
    rw (part_zeros c.args.b.now (grid_blocks c.args.grid.now) _ c.loop-k.k c.loop-k.levels _ _ c.area_of-area.ensures.value room c.loop-k.invariant.drew)
    (length-replicate {A = ℤ} (area c.args.b.now.block.tx) (pos 0))

pub draw_levels_at-requires-clause-zeros : goal.draw_levels_at-requires-clause-zeros
draw_levels_at-requires-clause-zeros c =
    let room = room_at c.args.b.now.block.tx c.args.grid.now c.loop-k.k c.count-k-end.result c.area_of-area.result c.requires.small c.requires.step c.count-k-end.ensures.count c.area_of-area.ensures.value c.loop-k-test.true in
    rw (part_zeros c.args.b.now (grid_blocks c.args.grid.now) _ c.loop-k.k c.loop-k.levels _ _ c.area_of-area.ensures.value room c.loop-k.invariant.drew)
    (All-replicate (λ v. v ≡ pos 0) (area c.args.b.now.block.tx) (pos 0) refl)

pub loop-k-preserved : goal.loop-k-preserved
loop-k-preserved c =
    let room = room_at c.args.b.now.block.tx c.args.grid.now c.loop-k.k c.count-k-end.result c.area_of-area.result c.requires.small c.requires.step c.count-k-end.ensures.count c.area_of-area.ensures.value c.loop-k-test.true in
    let low : c.loop-k.k < length (grid_blocks c.args.grid.now) = rw (length_grid c.args.grid.now) (omega (arith, c.loop-k-test.true, c.count-k-end.ensures.count)) in record {
      drew = drew_more c.args.b.now (grid_blocks c.args.grid.now) c.args.draws.now.x c.loop-k.k c.loop-k.levels _ _ _ _ _ _ c.area_of-area.ensures.value c.place.ensures.place
          low (omega (arith, c.loop-k-test.true, c.count-k-end.ensures.few)) room c.loop-k.invariant.drew c.draw_levels_at.ensures.drawn c.draw_levels_at.ensures.can;
    }

pub returns-clause-drawn : goal.returns-clause-drawn
returns-clause-drawn c =
    let all : length (grid_blocks c.args.grid.now) ≤ c.loop-k.k = rw (length_grid c.args.grid.now) (omega (arith, c.loop-k-test.false, c.count-k-end.ensures.count)) in
    drew_all c.args.b.now (grid_blocks c.args.grid.now) _ c.loop-k.k c.loop-k.levels _ all c.loop-k.invariant.drew

pub returns-clause-can : goal.returns-clause-can
returns-clause-can c = λ contexts k low.
    let few = rw (length_grid c.args.grid.now) at low in
    c.loop-k.invariant.drew.can contexts k (omega (arith, few, c.loop-k-test.false, c.count-k-end.ensures.count))
