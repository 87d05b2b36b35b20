use Rattle.std.proofs.Common.{ap, sym, ◌∙◌, arith}
use Rattle.progress_board.proofs.Keeps.{draw_allows}
use Rattle.progress_board.proofs.board.Board.draw.Goals as goal

pub fetch_add-requires : goal.fetch_add-requires
fetch_add-requires g c =
    (ap (λ p. p.board) c.seat.view_is ∙ (c.requires ∙ sym (ap (λ p. p.board) c.self.view_is)), omega (arith, c.self.invariant.0), draw_allows _ _ _ _ _ c.seat.invariant.0)
