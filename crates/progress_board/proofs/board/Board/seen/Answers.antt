use Rattle.std.proofs.Common.{◌<◌, ap, sym, ◌∙◌, arith}
use Rattle.progress_board.proofs.Keeps.{look_allows}
use Rattle.progress_board.proofs.board.Board.seen.Goals as goal

pub load-requires : goal.load-requires
load-requires g c =
    let lanes = ap (λ p. p.lanes) c.self.view_is in
    let less : c.from.result < c.self.inside.table.shared.key = omega (arith, lanes, c.requires.lane, c.from.ensures) in
    (ap (λ p. p.board) c.seat.view_is ∙ (c.requires.board ∙ sym (ap (λ p. p.board) c.self.view_is)), omega (arith, c.self.invariant.0, less), look_allows _ _ _ _ _ _ c.seat.invariant.0 less)
