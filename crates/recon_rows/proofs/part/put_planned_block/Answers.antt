use Rattle.std.proofs.Common.{◌∙◌, ap, sym, subst, length}
use Rattle.block_plan.specs.Code.{HoldsSmall}
use Rattle.block_plan.specs.Planned.{PlannedBlock}
use Rattle.planes.specs.Pictures.{samples_of}
use Rattle.block_rebuild.specs.RebuiltBlocks.{put_planned}
use Rattle.block_rebuild.specs.Code.{rebuilding_of}
use Rattle.recon_rows.proofs.Pieces.{all_held, last_fits, planned_is}
use Rattle.recon_rows.proofs.part.put_planned_block.Goals as goal

pub put_block_in_part-requires-clause-held : goal.put_block_in_part-requires-clause-held
put_block_in_part-requires-clause-held g c = let a = c.args in let part = a.part.now in let s = a.by.now.shape in
    all_held s a.tile_from a.block.now part.residues.now part.y part.u part.v c.requires.among.u c.requires.among.v
    (last_fits s a.block.now (length part.residues.now) part.y part.u part.v c.requires.among.u c.requires.among.v c.requires.fits) c.requires.whole

pub put_block_in_part-requires-clause-small : goal.put_block_in_part-requires-clause-small
put_block_in_part-requires-clause-small g c = let a = c.args in let part = a.part.now in let s = a.by.now.shape in
    subst (λ (b : PlannedBlock). HoldsSmall b) (sym (planned_is s a.tile_from a.block.now part.residues.now part.y part.u part.v c.requires.among.u c.requires.among.v
    (last_fits s a.block.now (length part.residues.now) part.y part.u part.v c.requires.among.u c.requires.among.v c.requires.fits))) c.requires.small

pub returns-clause-map : goal.returns-clause-map
returns-clause-map g c = let a = c.args in let part = a.part.now in let s = a.by.now.shape in
    c.put_block_in_part.ensures.map
    ∙ ap (λ (b : PlannedBlock). put_planned (rebuilding_of g.S.Samples.map a.by.now) b (samples_of a.planes.now))
    (planned_is s a.tile_from a.block.now part.residues.now part.y part.u part.v c.requires.among.u c.requires.among.v
    (last_fits s a.block.now (length part.residues.now) part.y part.u part.v c.requires.among.u c.requires.among.v c.requires.fits))
