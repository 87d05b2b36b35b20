use Rattle.std.proofs.Common.{◌≡◌, true, [], length, All}
use Rattle.job_crew.specs.Code.{IsSeated}
use Rattle.job_crew.proofs.seats.make_seats.Given as goal

abbrev pub invariant-loop : goal.invariant-loop
invariant-loop g l =
    (l.first.board ≡ l.board.board) × (l.first.view.leads ≡ true) × (l.first.view.has ≡ []) × (l.first.view.out ≡ length l.seats.items)
    × All (λ s. IsSeated l.board s) l.seats.items
