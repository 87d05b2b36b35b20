use Rattle.std.proofs.Common.{ap, sym, ◌∙◌, arith}
use Rattle.progress_board.proofs.SeatMoves.{split_keeps}
use Rattle.progress_board.proofs.board.Board.split.Goals as goal

pub split_seat-token-requires : goal.split_seat-token-requires
split_seat-token-requires g c = (
  ap (λ p. p.board) c.seat.view_is ∙ (c.requires.board ∙ sym (ap (λ p. p.board) c.self.view_is)),
  omega (arith, c.self.invariant.0),
  split_keeps _ _ _ _ (ap (λ p. p.view.leads) c.seat.view_is ∙ c.requires.leads) c.seat.invariant.0,
)
