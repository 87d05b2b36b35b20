use Rattle.line_filter.proofs.SquareLemmas.{bytes_set}
use Rattle.line_filter.proofs.kept.put_bytes.Goals as goal

pub returns : goal.returns
returns c = record { map = bytes_set c.args.i c.args.block.now c.args.row c.requires.low c.requires.long c.fits-row.0 c.requires.small }
