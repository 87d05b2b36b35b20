use Rattle.std.proofs.Common.{◌≡◌, length, subst, rules}
use Rattle.vp9_types.specs.declared.shape.Plane.TheVariants.{Y, U, V}
use Rattle.vp9_types.specs.declared.shape.Shape.{Shape}
use Rattle.block_plan.specs.Code.{planned_with}
use Rattle.frame_headers.specs.HeaderState.{shape_of}
use Rattle.column_plan.specs.Code.{HoldsWhole}
use Rattle.column_plan.proofs.Held.{BlockStands, block_pushed, block_stands, counted_fits, plane_stands, plane_whole, stands_where}
use Rattle.column_plan.proofs.blocks.push_block.Goals as goal

pub returns-clause-pushed : goal.returns-clause-pushed
returns-clause-pushed c =
    let a = c.args in
    let luma = c.transform_blocks-luma in
    let chroma = c.transform_blocks-chroma in
    block_pushed c.push_held-3.result c.shape-shape.result (shape_of a.setting.now.header) a.block.now a.held.now a.residues.now c.push_held.new.residues c.push_held-2.new.residues c.push_held-3.new.residues
    luma.result.0 luma.result.1 chroma.result.0 chroma.result.1 c.shape-shape.ensures luma.ensures.count luma.ensures.area chroma.ensures.count chroma.ensures.area
    c.in_ok-push_held.ensures c.in_ok-push_held-2.ensures c.push_held-3.ensures

pub returns-clause-stands : goal.returns-clause-stands
returns-clause-stands c =
    let a = c.args in
    let s = c.shape-shape.result in
    let b = a.block.now in
    let r = a.held.now in
    let luma = c.transform_blocks-luma in
    let chroma = c.transform_blocks-chroma in
    let long_y : length r.y.values ≡ 4096 = search rules in
    let long_u : length r.u.values ≡ 4096 = search rules in
    let long_v : length r.v.values ≡ 4096 = search rules in
    let y = counted_fits s b Y luma.result.0 luma.result.1 (length r.y.values) luma.ensures.count luma.ensures.area luma.ensures.room long_y in
    let u = counted_fits s b U chroma.result.0 chroma.result.1 (length r.u.values) chroma.ensures.count chroma.ensures.area chroma.ensures.room long_u in
    let v = counted_fits s b V chroma.result.0 chroma.result.1 (length r.v.values) chroma.ensures.count chroma.ensures.area chroma.ensures.room long_v in
    stands_where c.push_held-3.result (subst (λ (t : Shape). BlockStands t b r) c.shape-shape.ensures (λ tile_from behind. block_stands s tile_from b r behind
    (λ more. plane_stands s b Y r.y more y) (λ more. plane_stands s b U r.u more u) (λ more. plane_stands s b V r.v more v)))

pub returns-clause-whole : goal.returns-clause-whole
returns-clause-whole c =
    let a = c.args in
    let s = c.shape-shape.result in
    let b = a.block.now in
    let r = a.held.now in
    let luma = c.transform_blocks-luma in
    let chroma = c.transform_blocks-chroma in
    let long_y : length r.y.values ≡ 4096 = search rules in
    let long_u : length r.u.values ≡ 4096 = search rules in
    let long_v : length r.v.values ≡ 4096 = search rules in
    let y = counted_fits s b Y luma.result.0 luma.result.1 (length r.y.values) luma.ensures.count luma.ensures.area luma.ensures.room long_y in
    let u = counted_fits s b U chroma.result.0 chroma.result.1 (length r.u.values) chroma.ensures.count chroma.ensures.area chroma.ensures.room long_u in
    let v = counted_fits s b V chroma.result.0 chroma.result.1 (length r.v.values) chroma.ensures.count chroma.ensures.area chroma.ensures.room long_v in
    let whole : HoldsWhole s (planned_with s 0 b b r) = record { y = plane_whole s b Y r.y y; u = plane_whole s b U r.u u; v = plane_whole s b V r.v v } in
    stands_where c.push_held-3.result (subst (λ (t : Shape). HoldsWhole t (planned_with t 0 b b r)) c.shape-shape.ensures whole)
