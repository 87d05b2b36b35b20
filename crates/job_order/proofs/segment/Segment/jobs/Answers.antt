use Rattle.job_order.proofs.Walk.{length_parse, length_build}
use Rattle.job_order.proofs.segment.Segment.jobs.Goals as goal

pub returns-in-Parse : goal.returns-in-Parse
returns-in-Parse c = length_parse c.args.self.now c.in-Parse.frame c.in-Parse.columns c.in-Parse.is

pub returns-in-Build : goal.returns-in-Build
returns-in-Build c = length_build c.args.self.now c.in-Build.frame c.in-Build.columns c.in-Build.rows c.in-Build.shown c.in-Build.is
