use Rattle.std.proofs.Common.{arith}
use Rattle.job_order.proofs.Walk.{length_parse, length_build}
use Rattle.job_order.proofs.segment.Segment.job.Goals as goal

pub parse_job-requires : goal.parse_job-requires
parse_job-requires c = let l = length_parse c.args.self.now c.in-Parse.frame c.in-Parse.columns c.in-Parse.is in omega (arith, l, c.requires.inside)

pub build_job-requires-clause-inside : goal.build_job-requires-clause-inside
build_job-requires-clause-inside c =
    let l = length_build c.args.self.now c.in-Build.frame c.in-Build.columns c.in-Build.rows c.in-Build.shown c.in-Build.is in omega (arith, l, c.requires.inside)
