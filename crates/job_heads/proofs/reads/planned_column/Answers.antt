use Rattle.job_heads.proofs.RowsRead.{none_broken}
use Rattle.job_heads.proofs.reads.planned_column.Goals as goal

pub unreachable-requires : goal.unreachable-requires
unreachable-requires g c =
    none_broken (g.C.PlannedColumns.frame c.args.planned.now) c.args.k c.in-Broken.field-0 c.in-Broken.field-1 c.column.result.now c.in-Err.why c.requires.sound c.requires.read c.column.ensures c.in-Err.is c.in-Broken.is
