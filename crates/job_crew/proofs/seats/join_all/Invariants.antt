use Rattle.std.proofs.Common.{◌≡◌, true, [], length, All}
use Rattle.job_crew.specs.Code.{IsSeated}
use Rattle.job_crew.proofs.seats.join_all.Given as goal

abbrev pub invariant-loop-seat : goal.invariant-loop-seat
invariant-loop-seat g l =
    (l.first.board ≡ l.board.board) × (l.first.view.leads ≡ true) × (l.first.view.has ≡ []) × (l.first.view.out ≡ length l.seats.items)
    × All (λ s. IsSeated l.board s) l.seats.items

abbrev pub decreases-loop-seat : goal.decreases-loop-seat
decreases-loop-seat g l = goal.left-loop-seat g l
