use Rattle.std.proofs.Common.{◌∙◌, ap}
use Rattle.band_cells.proofs.BandRow.{plane_held, plane_row}
use Rattle.band_cells.proofs.band.Filled.row.Goals as goal

pub row-requires : goal.row-requires
row-requires g c = plane_held (g.M.Meaning.pictures c.args.self.now.name.frame) c.args.self.now.name.index c.args.self.now.samples _ c.args.plane _ _ c.args.self.now.are_meant c.requires c.plane-samples.ensures (ap (λ a. a.columns) c.area-columns.ensures.value)

pub returns : goal.returns
returns g c = c.row.ensures.value ∙ plane_row (g.M.Meaning.pictures c.args.self.now.name.frame) c.args.self.now.name.index c.args.self.now.samples _ c.args.plane _ _ c.args.self.now.are_meant c.requires c.plane-samples.ensures (ap (λ a. a.columns) c.area-columns.ensures.value)
