use Rattle.vp9_tables.proofs.ScanLaws.{pairs_within, pair_count}
use Rattle.vp9_tables.proofs.scans.neighbours.Goals as goal

pub returns-clause-count : goal.returns-clause-count
returns-clause-count c = rw c.neighbours_table.ensures (pair_count c.args.size c.args.kind)

pub returns-clause-within : goal.returns-clause-within
returns-clause-within c = rw c.neighbours_table.ensures (pairs_within c.args.size c.args.kind)
