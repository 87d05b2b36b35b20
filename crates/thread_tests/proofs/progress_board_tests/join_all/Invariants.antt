use Rattle.std.proofs.Common.{◌≡◌, true, [], length, All}
use Rattle.thread_tests.proofs.progress_board_tests.join_all.Given as goal

abbrev pub invariant-loop-worker : goal.invariant-loop-worker
invariant-loop-worker l =
    (l.first.board ≡ l.board.board) × (l.first.view.leads ≡ true) × (l.first.view.has ≡ []) × (l.first.view.out ≡ length l.crew.items)
    × All (λ w. (w.seat.board ≡ l.board.board) × (w.seat.view.has ≡ [])) l.crew.items

abbrev pub decreases-loop-worker : goal.decreases-loop-worker
decreases-loop-worker l = goal.left-loop-worker l
