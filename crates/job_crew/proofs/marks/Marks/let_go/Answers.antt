use Rattle.std.proofs.Common.{arith}
use Rattle.job_crew.proofs.Marked.{pops, first_rest}
use Rattle.job_crew.proofs.marks.Marks.let_go.Goals as goal

pub returns-then-index-clause-same : goal.returns-then-index-clause-same
returns-then-index-clause-same c =
    pops c.args.self.now.base c.args.self.now.marks.items c.pop_front.new.self.items
    (first_rest c.args.self.now.marks.items c.pop_front.new.self.items c.index.result.now (let l = c.if-len-gt0.true in omega (arith, l, c.len.ensures)) c.index.ensures c.if-index.true c.pop_front.ensures.rest)
