use Rattle.std.proofs.Common.{◌≡◌}
use Rattle.thread_tests.proofs.progress_board_tests.draw_all.Given as goal

abbrev pub invariant-loop-place : goal.invariant-loop-place
invariant-loop-place l = (l.seat.board ≡ l.board.board) × (l.seat.view.has ≡ l.fn.seat.view.has)
