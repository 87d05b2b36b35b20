use Rattle.job_crew.specs.Code.{IsSeatedStill}
use Rattle.job_crew.proofs.crew.Crew.work.Given as goal

abbrev pub invariant-loop : goal.invariant-loop
invariant-loop g l = IsSeatedStill l.fn.seat l.seat
