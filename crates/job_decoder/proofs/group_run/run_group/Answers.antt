use Rattle.std.proofs.Common.{◌∙◌, ap}
use Rattle.job_decoder.proofs.GroupEnds.{none_done}
use Rattle.job_decoder.proofs.GroupOver.{ran_so}
use Rattle.job_decoder.proofs.group_run.run_group.Goals as goal

pub returns-in_default-clause-run : goal.returns-in_default-clause-run
returns-in_default-clause-run g c =
    let b = g.B.DecodeRun in
    let k = g.K.Sink in
    let sink = c.new-output.result.sink in
    rw c.without_memory.ensures
    (none_done b.format b.film c.requires.ending b.first (k.taken c.args.sink) (k.taken sink) (k.faults c.args.sink) (k.faults sink) (ap k.taken c.new-output.ensures) (ap k.faults c.new-output.ensures))

pub returns-in-Err-clause-run : goal.returns-in-Err-clause-run
returns-in-Err-clause-run g c =
    let b = g.B.DecodeRun in
    let k = g.K.Sink in
    let sink = c.in-Err.output.sink in
    let refused = c.in-Err.ensures.refused in
    rw c.without_memory-in-Err.ensures
    (none_done b.format b.film c.requires.ending b.first (k.taken c.args.sink) (k.taken sink) (k.faults c.args.sink) (k.faults sink) (refused.0 ∙ c.requires.taken) (refused.1.1 ∙ c.requires.faults))

pub returns-clause-run : goal.returns-clause-run
returns-clause-run g c =
    let b = g.B.DecodeRun in
    let k = g.K.Sink in
    let sink = c.in-Ok-ran.field-0.output.sink in
    ran_so b.first b.format b.film (k.taken c.args.sink) b.taken c.in-Ok-ran.field-0.ending (k.taken sink) (k.can_put sink) (k.faults c.args.sink) b.faults (k.faults sink) b.grows (k.grows sink) c.outcome_of-outcome.result
    c.requires.ending c.requires.taken c.requires.faults c.in-Ok-ran.ensures.ended c.outcome_of-outcome.ensures
