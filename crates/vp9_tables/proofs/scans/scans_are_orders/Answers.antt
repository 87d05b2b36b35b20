use Rattle.vp9_tables.proofs.ScanLaws.{order}
use Rattle.vp9_tables.proofs.scans.scans_are_orders.Goals as goal

pub returns-clause-orders : goal.returns-clause-orders
returns-clause-orders c = order
