use Rattle.vp9_tables.proofs.ScanLaws.{pair_rule}
use Rattle.vp9_tables.proofs.ScanLaws as scans
use Rattle.vp9_tables.proofs.scans.neighbours_are_above_and_left.Goals as goal

pub returns-clause-rule : goal.returns-clause-rule
returns-clause-rule c = pair_rule

pub returns-clause-earlier : goal.returns-clause-earlier
returns-clause-earlier c = scans.earlier
