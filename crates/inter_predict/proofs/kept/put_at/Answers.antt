use Rattle.inter_predict.proofs.Values.{put_here, put_before, put_after}
use Rattle.inter_predict.proofs.kept.put_at.Goals as goal

pub returns-clause-put : goal.returns-clause-put
returns-clause-put g c = put_here g.P.Sample.value c.args.samples.now c.args.at c.args.sample c.requires

pub returns-clause-before : goal.returns-clause-before
returns-clause-before g c = put_before g.P.Sample.value c.args.samples.now c.args.at c.args.sample

pub returns-clause-after : goal.returns-clause-after
returns-clause-after g c = put_after g.P.Sample.value c.args.samples.now c.args.at c.args.sample
