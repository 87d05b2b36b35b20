use Rattle.std.proofs.Common.{◌≡◌, true, [], length, All}
use Rattle.thread_tests.proofs.progress_board_tests.make_crew.Given as goal

abbrev pub invariant-loop : goal.invariant-loop
invariant-loop l =
    (l.first.board ≡ l.board.board) × (l.first.view.leads ≡ true) × (l.first.view.has ≡ []) × (l.first.view.out ≡ length l.crew.items)
    × All (λ w. (w.seat.board ≡ l.board.board) × (w.seat.view.has ≡ [])) l.crew.items
