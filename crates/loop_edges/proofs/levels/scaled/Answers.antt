use Rattle.loop_edges.proofs.Products.{value, size}
use Rattle.loop_edges.proofs.levels.scaled.Goals as goal

pub returns-clause-value : goal.returns-clause-value
returns-clause-value c = value c.args.delta c.args.scale c.requires.delta c.requires.scale

pub returns-clause-size : goal.returns-clause-size
returns-clause-size c = size c.args.delta c.args.scale c.requires.delta c.requires.scale
