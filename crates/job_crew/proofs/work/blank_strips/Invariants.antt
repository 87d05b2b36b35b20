use Rattle.std.proofs.Common.{◌≡◌, length}
use Rattle.job_crew.proofs.work.blank_strips.Given as goal

abbrev pub invariant-loop : goal.invariant-loop
invariant-loop g l = length l.strips.items ≡ l.counter
