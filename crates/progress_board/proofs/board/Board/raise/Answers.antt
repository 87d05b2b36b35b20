use Rattle.std.proofs.Common.{◌<◌, ap, sym, ◌∙◌, arith}
use Rattle.progress_board.proofs.Keeps.{raise_allows}
use Rattle.progress_board.proofs.board.Board.raise.Goals as goal

pub fetch_add-requires : goal.fetch_add-requires
fetch_add-requires g c =
    let lanes = ap (λ p. p.lanes) c.self.view_is in
    let less : c.from.result < c.self.inside.table.shared.key = omega (arith, lanes, c.requires.lane, c.from.ensures) in
    (ap (λ p. p.board) c.seat.view_is ∙ (c.requires.board ∙ sym (ap (λ p. p.board) c.self.view_is)), omega (arith, c.self.invariant.0, less), raise_allows _ _ _ _ _ _ c.seat.invariant.0 less)
