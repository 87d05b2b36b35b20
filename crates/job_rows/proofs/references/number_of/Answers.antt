use Rattle.job_rows.proofs.NamedFrames.{none_named, number_is, number_there, zero_of}
use Rattle.job_rows.proofs.references.number_of.Goals as goal

pub unreachable-requires : goal.unreachable-requires
unreachable-requires g c = none_named g.B.DecodeRun.format g.B.DecodeRun.film c.args.frame c.args.reference.now (zero_of c.args.frame c.in_default.ensures) c.requires

pub unreachable-requires-in-None : goal.unreachable-requires-in-None
unreachable-requires-in-None g c =
    number_there g.B.DecodeRun.format g.B.DecodeRun.film c.args.frame c.in-Some.before c.args.reference.now c.closed.result.now c.number_in.result c.in-Some.ensures c.requires c.closed.ensures c.number_in.ensures c.in-None.is

pub returns : goal.returns
returns g c =
    number_is g.B.DecodeRun.format g.B.DecodeRun.film c.args.frame c.in-Some.before c.args.reference.now c.closed.result.now c.number_in.result _ c.in-Some.ensures c.requires c.closed.ensures c.number_in.ensures c.in-Some-number_in.is
