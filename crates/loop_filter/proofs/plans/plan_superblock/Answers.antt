use Rattle.std.proofs.Common.{arith, ◌≡◌, ◌<◌, ◌+◌, ◌*◌, ◌-◌, min}
use Rattle.vp9_types.specs.Shapes.{mi_rows}
use Rattle.vp9_types.specs.declared.shape.Plane.TheVariants.{Y, U}
use Rattle.loop_filter.specs.FilterPlans.{list_of}
use Rattle.loop_filter.proofs.PlannedEdges.{one_row_more, all_planned}
use Rattle.loop_filter.proofs.plans.plan_superblock.Goals as goal

pub plan_row-requires-clause-luma_room : goal.plan_row-requires-clause-luma_room
plan_row-requires-clause-luma_room g c = omega (arith, (c.loop-i.invariant.rows Y).few, c.loop-i-test.true, c.min-count.ensures)

pub plan_row-requires-clause-chroma_room : goal.plan_row-requires-clause-chroma_room
plan_row-requires-clause-chroma_room g c = omega (arith, (c.loop-i.invariant.rows U).few, c.loop-i-test.true, c.min-count.ensures)

pub loop-i-preserved : goal.loop-i-preserved
loop-i-preserved g c = let a = c.args in
    let few : c.loop-i.i < 8 = omega (arith, c.loop-i-test.true, c.min-count.ensures) in
    let inside : 8 * a.sr + c.loop-i.i < mi_rows a.f.now.setting.shape = omega (arith, c.loop-i-test.true, c.min-count.ensures, c.place_rows.ensures) in record {
      rows = λ plane. one_row_more a.f.now.setting (g.N.Neighbours.blocks a.blocks.now) plane a.sr a.sc c.loop-i.i (list_of c.loop-i.plans plane)
          (list_of c.plan_row.new.plans plane) (c.loop-i.invariant.rows plane) (c.plan_row.ensures plane) few inside;
    }

pub returns : goal.returns
returns g c = let a = c.args in
    let all : c.loop-i.i ≡ min 8 (mi_rows a.f.now.setting.shape - 8 * a.sr) = omega (arith, c.loop-i-test.false, c.loop-i.auto.i-end, c.min-count.ensures, c.place_rows.ensures) in
    λ plane. all_planned a.f.now.setting (g.N.Neighbours.blocks a.blocks.now) plane a.sr a.sc c.loop-i.i (list_of c.loop-i.plans plane) (c.loop-i.invariant.rows plane) all
