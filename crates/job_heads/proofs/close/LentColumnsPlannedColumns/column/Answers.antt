use Rattle.job_heads.proofs.TileColumns.{column_there}
use Rattle.job_heads.proofs.close.LentColumnsPlannedColumns.column.Goals as goal

pub returns : goal.returns
returns g c = column_there g.B.DecodeRun.format g.B.DecodeRun.film c.args.self.now.number c.args.self.now.frame.now c.args.k _ c.args.self.now.is_begun c.column.ensures
