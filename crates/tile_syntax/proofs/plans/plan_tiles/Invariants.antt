use Rattle.std.proofs.Common.{◌≡◌, ◌*◌, ◌^◌, List}
use Rattle.std.specs.Prelude.{not, nat_eq, Ok}
use Rattle.vp9_types.specs.declared.job.Span.{Span}
use Rattle.frame_headers.specs.Spans.{tile_spans}
use Rattle.frame_headers.specs.HeaderState.{shape_of}
use Rattle.prob_contexts.specs.declared.kind.CountedBool.{CountedBool}
use Rattle.frame_state.specs.Code.{counts_if, sources_of}
use Rattle.frame_state.specs.KeptColumns.{IsTileColumn}
use Rattle.frame_state.specs.ColumnPlans.{ColumnRead, tile_bytes}
use Rattle.tile_syntax.specs.Code.{HoldsColumn, IsKept}
use Rattle.tile_syntax.proofs.ColumnTiles.{IsLeft}
use Rattle.tile_syntax.proofs.plans.plan_tiles.Given as goal

abbrev pub invariant-loop-i : goal.invariant-loop-i
invariant-loop-i g l = record {
  column : IsTileColumn l.by.setting.header (l.i * 2 ^ l.by.setting.header.params.tiles.columns_log2) l.k l.plan.column;
  kept : IsKept l.by.setting.header l.plan;
  read : (spans : List Span) → tile_spans l.bytes l.by.setting.header l.compressed ≡ Ok spans
      → (read : ColumnRead) × (counted : List CountedBool) × IsLeft (sources_of l.by) (tile_bytes l.bytes spans) l.k l.i read counted
      × HoldsColumn (shape_of l.by.setting.header) l.plan read.column × (l.counts ≡ counts_if (not (nat_eq g.row.COUNTS 0)) counted);
}
