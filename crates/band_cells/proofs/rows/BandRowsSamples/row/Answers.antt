use Rattle.std.proofs.Common.{sym, subst}
use Rattle.band_cells.proofs.BandRow.{band_there, band_named, band_has, band_row}
use Rattle.band_cells.specs.Code.{IsRowWithin}
use Rattle.band_cells.proofs.rows.BandRowsSamples.row.Goals as goal

pub bounds-self-inside-band : goal.bounds-self-inside-band
bounds-self-inside-band g c =
    let row = subst (λ s. IsRowWithin (g.M.Meaning.pictures s.frame).shape s c.args.plane c.args.y) (sym c.self.view_is) c.requires in
    band_there g.M.Meaning.pictures c.self.inside.shape c.self.inside.span c.args.plane c.args.y c.band_height.result _ c.self.inside.bands.now
    c.self.invariant.0 c.self.invariant.1 row c.band_height.ensures.height

pub row-requires : goal.row-requires
row-requires g c =
    let row = subst (λ s. IsRowWithin (g.M.Meaning.pictures s.frame).shape s c.args.plane c.args.y) (sym c.self.view_is) c.requires in
    let named = band_named g.M.Meaning.pictures c.self.inside.shape c.self.inside.span c.args.plane c.args.y c.band_height.result _ c.self.inside.bands.now c.index-self-band.result
    c.self.invariant.0 c.self.invariant.1 row c.band_height.ensures.height in
    band_has g.M.Meaning.pictures c.self.inside.shape c.self.inside.span c.args.plane c.args.y c.band_height.result _ c.self.invariant.0 row c.band_height.ensures.height named

pub returns : goal.returns
returns g c =
    let row = subst (λ s. IsRowWithin (g.M.Meaning.pictures s.frame).shape s c.args.plane c.args.y) (sym c.self.view_is) c.requires in
    let named = band_named g.M.Meaning.pictures c.self.inside.shape c.self.inside.span c.args.plane c.args.y c.band_height.result _ c.self.inside.bands.now c.index-self-band.result
    c.self.invariant.0 c.self.invariant.1 row c.band_height.ensures.height in
    band_row g.M.Meaning.pictures c.self.inside.span c.args.self.now c.args.plane c.args.y _ _ _ c.row.ensures named c.self.view_is
