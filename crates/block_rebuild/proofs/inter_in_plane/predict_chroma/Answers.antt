use Rattle.std.proofs.Common.{◌≡◌, ◌∙◌, arith}
use Rattle.vp9_types.specs.declared.shape.Plane.TheVariants.{U, V}
use Rattle.planes.specs.Planes.{plane_map}
use Rattle.block_rebuild.specs.InterBlocks.{put_prediction}
use Rattle.block_rebuild.specs.Code.{rebuilding_of}
use Rattle.block_rebuild.proofs.Parts.{one_part_more}
use Rattle.block_rebuild.proofs.inter_in_plane.predict_chroma.Goals as goal

pub loop-number-preserved : goal.loop-number-preserved
loop-number-preserved g c = let a = c.args in let b = a.b.now in record {
  u_same = c.put_chroma_part.ensures.u_area ∙ c.loop-number.invariant.u_same;
  v_same = c.put_chroma_part.ensures.v_area ∙ c.loop-number.invariant.v_same;
  room = c.put_chroma_part.ensures.room ∙ c.loop-number.invariant.room;
  rest = c.put_chroma_part.ensures.rest ∙ c.loop-number.invariant.rest;
  u_range = c.put_chroma_part.ensures.u_range;
  v_range = c.put_chroma_part.ensures.v_range;
  u_so_far = one_part_more (rebuilding_of g.S.Samples.map b.by.now) b.block.now b.modes.now U c.loop-number.number (plane_map a.u.now) (plane_map c.loop-number.u) (plane_map c.put_chroma_part.new.u)
      c.loop-number.invariant.u_so_far c.put_chroma_part.ensures.u;
  v_so_far = one_part_more (rebuilding_of g.S.Samples.map b.by.now) b.block.now b.modes.now V c.loop-number.number (plane_map a.v.now) (plane_map c.loop-number.v) (plane_map c.put_chroma_part.new.v)
      c.loop-number.invariant.v_so_far c.put_chroma_part.ensures.v;
}

pub returns-clause-u : goal.returns-clause-u
unfolding put_prediction
returns-clause-u g c =
    let done : c.loop-number.number ≡ c.part_count-count.result = omega (arith, c.loop-number-test.false, c.loop-number.auto.number-end) in
    rw (done ∙ c.part_count-count.ensures) at c.loop-number.invariant.u_so_far

pub returns-clause-v : goal.returns-clause-v
unfolding put_prediction
returns-clause-v g c =
    let done : c.loop-number.number ≡ c.part_count-count.result = omega (arith, c.loop-number-test.false, c.loop-number.auto.number-end) in
    rw (done ∙ c.part_count-count.ensures) at c.loop-number.invariant.v_so_far
