use Rattle.std.proofs.Common.{◌∙◌, ap, sym, subst}
use Rattle.vp9_types.specs.declared.shape.Plane.TheVariants.{Y, U, V}
use Rattle.block_plan.specs.Code.{HoldsSmall}
use Rattle.block_plan.specs.Planned.{PlannedBlock}
use Rattle.planes.specs.Pictures.{samples_of}
use Rattle.block_rebuild.specs.RebuiltBlocks.{put_planned}
use Rattle.block_rebuild.specs.Code.{rebuilding_of}
use Rattle.block_rebuild.proofs.Areas.{whole_holds}
use Rattle.block_rebuild.proofs.Parts.{whole_pictures_serve}
use Rattle.block_rebuild.proofs.Puts.{in_buffer}
use Rattle.block_rebuild.proofs.blocks.put_block.Goals as goal

pub put_block_in_part-requires-clause-references : goal.put_block_in_part-requires-clause-references
put_block_in_part-requires-clause-references g c = let a = c.args in
    whole_pictures_serve g.S.Samples.holds g.S.Samples.width g.S.Samples.map a.by.now a.block.now a.block.now.prediction c.requires.references

pub put_block_in_part-requires-clause-part : goal.put_block_in_part-requires-clause-part
put_block_in_part-requires-clause-part g c = let a = c.args in record {
  y = whole_holds a.by.now.shape Y a.tile_from a.block.now a.planes.now.y.area c.requires.sizes.y;
  u = whole_holds a.by.now.shape U a.tile_from a.block.now a.planes.now.u.area c.requires.sizes.u;
  v = whole_holds a.by.now.shape V a.tile_from a.block.now a.planes.now.v.area c.requires.sizes.v;
}

pub put_block_in_part-requires-clause-held : goal.put_block_in_part-requires-clause-held
put_block_in_part-requires-clause-held g c = λ p k low. tt

pub put_block_in_part-requires-clause-small : goal.put_block_in_part-requires-clause-small
put_block_in_part-requires-clause-small g c = let a = c.args in
    subst (λ (b : PlannedBlock). HoldsSmall b) (sym (in_buffer a.by.now.shape a.tile_from a.block.now a.residues.now)) c.requires.small

pub returns-clause-map : goal.returns-clause-map
returns-clause-map g c = let a = c.args in
    c.put_block_in_part.ensures.map
    ∙ ap (λ (b : PlannedBlock). put_planned (rebuilding_of g.S.Samples.map a.by.now) b (samples_of a.planes.now)) (in_buffer a.by.now.shape a.tile_from a.block.now a.residues.now)
