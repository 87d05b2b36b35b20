use Rattle.std.proofs.Common.{◌≡◌, ℕ, ◌+◌, ◌++◌, ◌∷◌, [], ◌∙◌, refl, sym, ap, arith, rules, take, get_or, length}
use Rattle.std.proofs.Common.{false}
use Rattle.std.proofs.lemmas.List.{take_more, take_all}
use Rattle.vp9_types.specs.declared.block.BlockSize.TheVariants.{B4x4}
use Rattle.vp9_types.specs.declared.block.IntraMode.TheVariants.{Dc}
use Rattle.vp9_types.specs.declared.block.TxSize.TheVariants.{T4x4}
use Rattle.block_plan.specs.declared.block.BlockInfo.{BlockInfo}
use Rattle.block_plan.specs.declared.block.Prediction.TheVariants.{Intra}
use Rattle.vp9_types.specs.Maps.{Map, with_block}
use Rattle.block_geometry.specs.Parts.{part_inside}
use Rattle.block_geometry.specs.declared.transform_blocks.FramePlaces.{FramePlaces}
use Rattle.block_plan.specs.SegmentMaps.{id_map}
use Rattle.inter_modes.specs.LeftSegments.{segments_of}
use Rattle.inter_modes.proofs.SegmentMaps.{no_segments, segments_more, put_more}
use Rattle.inter_modes.proofs.segments.put_segments.Goals as goal

pub loop-block-init : goal.loop-block-init
loop-block-init c = record {
  rows = refl;
  cols = refl;
  map = no_segments (record { rows = c.args.map.now.rows; cols = c.args.map.now.cols }) (id_map c.args.map.now);
}

pub loop-block-preserved : goal.loop-block-preserved
loop-block-preserved c =
    let none : BlockInfo = record {
      row = 0;
      col = 0;
      size = B4x4;
      skip = false;
      segment = 0;
      segment_predicted = false;
      tx = T4x4;
      prediction = Intra (record { luma = []; chroma = Dc });
    } in
    let i = c.loop-block.block-index in
    let blocks = c.args.blocks.now in
    let b = get_or blocks i none in
    let low = c.loop-block-test.true in
    let so = c.loop-block.invariant in
    let mapped = c.requires i none low in
    let frame : FramePlaces = record { rows = c.args.map.now.rows; cols = c.args.map.now.cols } in
    let size : FramePlaces = record { rows = c.loop-block.map.rows; cols = c.loop-block.map.cols } in
    let same : ◌≡◌ {A = FramePlaces} size frame = λ j. record { rows = so.rows j; cols = so.cols j } in
    record {
      rows = c.set.ensures.rows ∙ so.rows;
      cols = c.set.ensures.cols ∙ so.cols;
      map = put_more frame size (take i blocks) b (id_map c.args.map.now) (id_map c.loop-block.map) (id_map c.set.new.self) mapped.row mapped.col same so.map c.set.ensures.map
          ∙ ap (λ l. segments_of frame l (id_map c.args.map.now)) (sym (take_more blocks i none low));
    }

pub returns-clause-map : goal.returns-clause-map
returns-clause-map c =
    let frame : FramePlaces = record { rows = c.args.map.now.rows; cols = c.args.map.now.cols } in
    let all : take c.loop-block.block-index c.args.blocks.now ≡ c.args.blocks.now = take_all c.loop-block.block-index c.args.blocks.now (omega arith) in
    c.loop-block.invariant.map ∙ ap (λ l. segments_of frame l (id_map c.args.map.now)) all
