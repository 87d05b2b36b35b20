use Rattle.std.proofs.Common.{List, arith}
use Rattle.std.specs.Prelude.{Option}
use Rattle.vp9_types.specs.declared.job.BandSpan.{BandSpan}
use Rattle.band_needs.specs.declared.ranges.BandNeeds.{BandNeeds}
use Rattle.job_results.specs.RowReads.{spans_by}
use Rattle.job_heads.proofs.RowsRead.{all_rows, one_row, pushed_many}
use Rattle.job_heads.proofs.reads.column_reads.Goals as goal

pub loop-row-preserved : goal.loop-row-preserved
loop-row-preserved c =
    let at = c.loop-row in
    let spans : BandNeeds → List (Option BandSpan) = λ n. spans_by c.args.slots.now c.args.kind.now n in
    let many = pushed_many at.rows.items c.push_reserved.new.self.items c.spans_by.result c.push_reserved.ensures.items in record {
      many = omega (arith, many, at.invariant.many);
      room = omega (arith, at.invariant.room, c.push_reserved.ensures.capacity);
      are = one_row spans c.args.needs.now at.rows.items c.push_reserved.new.self.items at.row _ c.spans_by.result at.invariant.are c.loop-row-test.true c.push_reserved.ensures.items c.spans_by.ensures;
    }

pub returns : goal.returns
returns c =
    let spans : BandNeeds → List (Option BandSpan) = λ n. spans_by c.args.slots.now c.args.kind.now n in
    all_rows spans c.args.needs.now c.loop-row.rows.items c.loop-row.row c.loop-row.invariant.are c.loop-row-test.false
