use Rattle.std.proofs.Common.{arith, ◌<◌, ◌+◌, ◌*◌}
use Rattle.vp9_types.specs.Shapes.{mi_cols}
use Rattle.vp9_types.specs.declared.shape.Plane.TheVariants.{Y, U}
use Rattle.loop_filter.specs.FilterPlans.{list_of}
use Rattle.loop_filter.proofs.PlannedEdges.{one_place_more}
use Rattle.loop_filter.proofs.plans.plan_row.Goals as goal

pub plan_place-requires-clause-luma_room : goal.plan_place-requires-clause-luma_room
plan_place-requires-clause-luma_room g c = omega (arith, (c.loop-j.invariant.places Y).few, c.loop-j-test.true, c.requires.luma_room, c.min-count.ensures)

pub plan_place-requires-clause-chroma_room : goal.plan_place-requires-clause-chroma_room
plan_place-requires-clause-chroma_room g c = omega (arith, (c.loop-j.invariant.places U).few, c.loop-j-test.true, c.requires.chroma_room, c.min-count.ensures)

pub loop-j-preserved : goal.loop-j-preserved
loop-j-preserved g c = let a = c.args in
    let inside : 8 * a.sc + c.loop-j.j < mi_cols a.f.now.setting.shape = omega (arith, c.loop-j-test.true, c.min-count.ensures, c.place_cols.ensures) in record {
      places = λ plane. one_place_more a.f.now.setting (g.N.Neighbours.blocks a.blocks.now) plane a.row a.sc c.loop-j.j (list_of a.plans.now plane) (list_of c.loop-j.plans plane)
          (list_of c.plan_place.new.plans plane) (c.loop-j.invariant.places plane) (c.plan_place.ensures plane) inside;
    }
