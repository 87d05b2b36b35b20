use Rattle.std.proofs.Common.{◌≡◌, ◌∙◌, arith}
use Rattle.vp9_types.specs.declared.shape.Plane.TheVariants.{Y}
use Rattle.planes.specs.Planes.{plane_map}
use Rattle.block_rebuild.specs.InterBlocks.{put_prediction}
use Rattle.block_rebuild.specs.Code.{rebuilding_of}
use Rattle.block_rebuild.proofs.Parts.{one_part_more}
use Rattle.block_rebuild.proofs.inter_in_plane.predict_luma.Goals as goal

pub loop-number-preserved : goal.loop-number-preserved
loop-number-preserved g c = let a = c.args in let b = a.b.now in record {
  same = c.put_luma_part.ensures.area ∙ c.loop-number.invariant.same;
  room = c.put_luma_part.ensures.room ∙ c.loop-number.invariant.room;
  rest = c.put_luma_part.ensures.rest ∙ c.loop-number.invariant.rest;
  range = c.put_luma_part.ensures.range;
  so_far = one_part_more (rebuilding_of g.S.Samples.map b.by.now) b.block.now b.modes.now Y c.loop-number.number (plane_map a.samples.now) (plane_map c.loop-number.samples) (plane_map c.put_luma_part.new.samples)
      c.loop-number.invariant.so_far c.put_luma_part.ensures.map;
}

pub returns-clause-map : goal.returns-clause-map
unfolding put_prediction
returns-clause-map g c =
    let done : c.loop-number.number ≡ c.part_count-count.result = omega (arith, c.loop-number-test.false, c.loop-number.auto.number-end) in
    rw (done ∙ c.part_count-count.ensures) at c.loop-number.invariant.so_far
