use Rattle.vp9_tables.proofs.ScanLaws.{scan_within, scan_count}
use Rattle.vp9_tables.proofs.scans.scan.Goals as goal

pub returns-clause-count : goal.returns-clause-count
returns-clause-count c = rw c.scan_table.ensures (scan_count c.args.size c.args.kind)

pub returns-clause-within : goal.returns-clause-within
returns-clause-within c = rw c.scan_table.ensures (scan_within c.args.size c.args.kind)
