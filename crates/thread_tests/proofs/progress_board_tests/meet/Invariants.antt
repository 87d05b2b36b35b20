use Rattle.std.proofs.Common.{◌≡◌}
use Rattle.thread_tests.proofs.progress_board_tests.meet.Given as goal

abbrev pub invariant-loop : goal.invariant-loop
invariant-loop l = (l.seat.board ≡ l.board.board) × (l.seat.view.has ≡ l.fn.seat.view.has)
