use Rattle.std.proofs.Common.{refl}
use Rattle.frame_headers.specs.HeaderState.{shape_of}
use Rattle.column_plan.proofs.Held.{infos_are}
use Rattle.tile_syntax.proofs.planning.PlanReaderTileReader.read_partition.Goals as goal

pub returns-clause-reads : goal.returns-clause-reads
returns-clause-reads g c =
    let w = c.args.self.now in record {
      read = rw (infos_are (shape_of w.by.now.setting.header) w.plan.now.column.grid.from w.plan.now.column.grid.blocks w.plan.now.residues) (rw c.frame_is_intra-intra.ensures at c.read_partition.ensures);
      state = refl;
      room = refl;
      same = record { walk = refl; rule_of = refl; limit = refl };
    }
