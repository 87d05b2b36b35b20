use Rattle.line_filter.proofs.SquareLemmas.{bytes_written}
use Rattle.line_filter.proofs.kept.write_bytes.Goals as goal

pub returns : goal.returns
returns c = bytes_written c.args.to.now c.args.row c.requires.long c.fits-row.0 c.requires.small
