use Rattle.std.proofs.Common.{◌∙◌, List, map, length, ap, sym, subst, arith}
use Rattle.std.specs.Prelude.{Ok}
use Rattle.band_needs.specs.declared.ranges.BandNeeds.{BandNeeds}
use Rattle.job_results.specs.frame_steps.StepResults.{IsColumn}
use Rattle.job_results.specs.RowReads.{spans_by}
use Rattle.job_heads.specs.Reads.{AreColumnReads, AreFirstReads}
use Rattle.job_heads.proofs.RowsRead.{none_read, one_read, pushed_many}
use Rattle.job_heads.proofs.reads.row_reads.Goals as goal

pub loop-k-init : goal.loop-k-init
loop-k-init g c = record {
  many = ap (λ xs. length xs) c.in_ok-columns.ensures.items;
  room = c.in_ok-columns.ensures.capacity;
  each = subst (AreFirstReads c.args.frame.now c.args.slots.now) (sym c.in_ok-columns.ensures.items) (none_read c.args.frame.now c.args.slots.now);
}

pub loop-k-preserved : goal.loop-k-preserved
loop-k-preserved g c =
    let at = c.loop-k in
    let b = c.args.frame.now in
    let numbers = c.args.slots.now in
    let rows = c.in_ok-column_reads.field-0 in
    let many = pushed_many at.columns.items c.push_reserved.new.self.items rows c.push_reserved.ensures.items in
    let own : AreColumnReads b numbers at.k rows.items = record {
      planned = c.in_ok-column.column.now;
      column = subst (λ f. IsColumn f at.k (Ok c.in_ok-column.column.now)) c.requires.frame c.in_ok-column.ensures;
      each = c.in_ok-column_reads.ensures ∙ ap (λ (needs : List BandNeeds). map (λ n. spans_by numbers b.setting.header.kind n) needs) c.deref.ensures.value;
    } in record {
      many = omega (arith, many, at.invariant.many);
      room = omega (arith, at.invariant.room, c.push_reserved.ensures.capacity);
      each = subst (AreFirstReads b numbers) (sym c.push_reserved.ensures.items)
          (one_read b numbers at.columns.items rows at.invariant.each (subst (λ n. AreColumnReads b numbers n rows.items) (sym at.invariant.many) own));
    }

pub returns : goal.returns
returns g c = record { many = omega (arith, c.loop-k.invariant.many, c.loop-k-test.false, c.loop-k.auto.k-end, c.columns-count.ensures); each = c.loop-k.invariant.each }
