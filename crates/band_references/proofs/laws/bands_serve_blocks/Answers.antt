use Rattle.band_references.proofs.Served.{blocks_served}
use Rattle.band_references.proofs.laws.bands_serve_blocks.Goals as goal

pub returns : goal.returns
returns g c = λ by shapes blocks inside there. blocks_served g.S.Samples.holds g.S.Samples.width g.S.Samples.map by shapes blocks inside there
