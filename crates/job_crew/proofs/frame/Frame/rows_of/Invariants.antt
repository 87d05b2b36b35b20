use Rattle.std.proofs.Common.{◌≡◌, ◌∷◌, drop}
use Rattle.std.specs.Arc.{arc_value}
use Rattle.job_crew.specs.Code.{numbered}
use Rattle.job_crew.proofs.frame.Frame.rows_of.Given as goal

abbrev pub invariant-loop-at : goal.invariant-loop-at
invariant-loop-at g l =
    numbered (l.self.own ∷ l.self.before.items) (λ c. (arc_value c).frame) l.frame ≡ numbered (drop l.at l.self.before.items) (λ c. (arc_value c).frame) l.frame
