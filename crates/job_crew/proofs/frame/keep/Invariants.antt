use Rattle.std.proofs.Common.{◌≡◌, ◌∷◌, take}
use Rattle.std.specs.Arc.{arc_value}
use Rattle.job_crew.specs.Code.{mapped, kept}
use Rattle.job_crew.proofs.frame.keep.Given as goal

abbrev pub invariant-loop-at : goal.invariant-loop-at
invariant-loop-at g l =
    mapped l.cells.items (λ c. (arc_value c).frame) ≡ (arc_value l.last).frame ∷ kept l.live (mapped (take l.at l.before) (λ c. (arc_value c).frame))
