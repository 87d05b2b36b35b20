use Rattle.std.proofs.Common.{arith}
use Rattle.job_order.proofs.Walk.{has_next, found, from_mark, mark_moves, goes_from}
use Rattle.job_order.proofs.order.job_from.Goals as goal

pub loop-mark-init : goal.loop-mark-init
loop-mark-init c =
    record { is = c.requires.mark; later = c.requires.later; so = from_mark c.args.segments.now c.args.mark.now c.args.ticket c.requires.mark c.requires.later }

pub job-requires-clause-next : goal.job-requires-clause-next
job-requires-clause-next c = has_next c.args.segments.now c.loop-mark.mark.segment c.requires.order c.loop-mark-test.true (omega arith)

pub returns-then-ticket-mark-clause-job : goal.returns-then-ticket-mark-clause-job
returns-then-ticket-mark-clause-job c =
    found c.args.segments.now c.loop-mark.mark.segment c.args.ticket _ c.job.result c.loop-mark-test.true c.loop-mark.invariant.so c.job.ensures

pub loop-mark-preserved : goal.loop-mark-preserved
loop-mark-preserved c =
    record {
      is = mark_moves c.args.segments.now c.loop-mark.mark c.jobs-jobs.result c.loop-mark-test.true c.loop-mark.invariant.is c.jobs-jobs.ensures;
      later = omega (arith, c.loop-mark.invariant.later);
      so = goes_from c.args.segments.now c.loop-mark.mark c.args.ticket c.jobs-jobs.result c.loop-mark-test.true c.loop-mark.invariant.so c.jobs-jobs.ensures c.if-ticket-mark.false;
    }
