use Rattle.job_results.proofs.KeptSpans.{spans_at}
use Rattle.job_results.proofs.reads.RowReads.of.Goals as goal

pub returns : goal.returns
returns c = spans_at c.args.self.now c.args.column c.args.row c.index-rows.result.now c.index.result.now c.requires c.index-rows.ensures c.index.ensures
