use Rattle.band_cells.proofs.BandRow.{plane_held_at, plane_piece}
use Rattle.band_cells.proofs.band.Filled.rows.Goals as goal

pub rows-requires-clause-inside : goal.rows-requires-clause-inside
rows-requires-clause-inside g c = let f = c.args.self.now in
    plane_held_at (g.M.Meaning.pictures f.name.frame) f.name.index f.samples _ c.args.plane _ _ f.are_meant c.requires.rows c.plane.ensures

pub returns : goal.returns
returns g c = let f = c.args.self.now in
    plane_piece (g.M.Meaning.pictures f.name.frame) f.name.index f.samples _ c.args.plane _ _ _ _ f.are_meant c.requires.rows c.plane.ensures c.rows.ensures
