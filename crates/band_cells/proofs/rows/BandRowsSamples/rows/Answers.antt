use Rattle.band_cells.proofs.BandRow.{band_there, band_named, first_within, band_has_rows, band_piece}
use Rattle.band_cells.proofs.rows.BandRowsSamples.rows.Goals as goal

pub bounds-self-inside-band : goal.bounds-self-inside-band
bounds-self-inside-band g c = let a = c.args in let v = c.self.inside in
    let row = first_within g.M.Meaning.pictures a.self.now v.span a.plane a.y a.count c.requires.held c.requires.some c.self.view_is in
    band_there g.M.Meaning.pictures v.shape v.span a.plane a.y c.band_height-height.result _ v.bands.now c.self.invariant.0 c.self.invariant.1 row c.band_height-height.ensures.height

pub rows-requires-clause-rows : goal.rows-requires-clause-rows
rows-requires-clause-rows g c = let a = c.args in let v = c.self.inside in
    let row = first_within g.M.Meaning.pictures a.self.now v.span a.plane a.y a.count c.requires.held c.requires.some c.self.view_is in
    let named = band_named g.M.Meaning.pictures v.shape v.span a.plane a.y c.band_height-height.result _ v.bands.now c.index-self-band.result c.self.invariant.0 c.self.invariant.1 row c.band_height-height.ensures.height in
    band_has_rows g.M.Meaning.pictures a.self.now v.span a.plane a.y a.count c.band_height-height.result v.shape _ c.requires.held c.self.view_is c.self.invariant.0 c.band_height-height.ensures.height c.if-last-band.true named

pub returns-then-last-band : goal.returns-then-last-band
returns-then-last-band g c = let a = c.args in let v = c.self.inside in
    let row = first_within g.M.Meaning.pictures a.self.now v.span a.plane a.y a.count c.requires.held c.requires.some c.self.view_is in
    let named = band_named g.M.Meaning.pictures v.shape v.span a.plane a.y c.band_height-height.result _ v.bands.now c.index-self-band.result c.self.invariant.0 c.self.invariant.1 row c.band_height-height.ensures.height in
    band_piece g.M.Meaning.pictures v.span a.self.now a.plane a.y a.count _ _ _ _ c.rows.ensures named c.self.view_is
