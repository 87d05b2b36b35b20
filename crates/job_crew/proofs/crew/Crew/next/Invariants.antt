use Rattle.std.specs.Prelude.{◌≡◌, false}
use Rattle.job_crew.specs.Code.{IsSeatedStill}
use Rattle.job_crew.proofs.crew.Crew.next.Given as goal

abbrev pub invariant-loop : goal.invariant-loop
invariant-loop g l = IsSeatedStill l.fn.seat l.seat × (l.pool.over ≡ false)
