use Rattle.vp9_types.specs.declared.shape.Plane.TheVariants.{U, V}
use Rattle.planes.specs.Pictures.{samples_of}
use Rattle.block_rebuild.specs.Code.{rebuilding_of}
use Rattle.block_rebuild.specs.Residues.{planned_by}
use Rattle.block_rebuild.proofs.Areas.{holds_own, intra_all, inter_all}
use Rattle.block_rebuild.proofs.blocks.put_block_in_part.Goals as goal

pub put_chroma-requires-clause-u : goal.put_chroma-requires-clause-u
put_chroma-requires-clause-u g c = let a = c.args in record {
  area = holds_own a.by.now.shape U a.tile_from a.block.now a.planes.now.u.area c.requires.placed.tile c.requires.part.u;
  range = c.requires.range.u;
}

pub put_chroma-requires-clause-v : goal.put_chroma-requires-clause-v
put_chroma-requires-clause-v g c = let a = c.args in record {
  area = holds_own a.by.now.shape V a.tile_from a.block.now a.planes.now.v.area c.requires.placed.tile c.requires.part.v;
  range = c.requires.range.v;
}

pub returns-in-Intra-clause-map : goal.returns-in-Intra-clause-map
returns-in-Intra-clause-map g c = let a = c.args in
    intra_all (rebuilding_of g.S.Samples.map a.by.now) (planned_by (g.R.TransformResidues.residue a.residues.now) a.by.now.shape a.tile_from a.block.now) a.block.now.prediction c.in-Intra.modes (samples_of a.planes.now) _ _ _
    c.in-Intra.is c.put_in_plane.ensures.map c.put_in_plane-in-Intra.ensures.map c.put_in_plane-in-Intra-2.ensures.map

pub returns-in-Inter-clause-map : goal.returns-in-Inter-clause-map
returns-in-Inter-clause-map g c = let a = c.args in
    inter_all (rebuilding_of g.S.Samples.map a.by.now) (planned_by (g.R.TransformResidues.residue a.residues.now) a.by.now.shape a.tile_from a.block.now) a.block.now.prediction c.in-Inter.modes (samples_of a.planes.now) _ _ _
    c.in-Inter.is c.put_luma.ensures.map c.put_chroma.ensures.u c.put_chroma.ensures.v
