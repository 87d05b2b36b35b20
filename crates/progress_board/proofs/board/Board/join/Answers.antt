use Rattle.std.proofs.Common.{◌≡◌, [], ap, sym, ◌∙◌, arith}
use Rattle.progress_board.specs.Code.{hand}
use Rattle.progress_board.proofs.SeatMoves.{join_keeps}
use Rattle.progress_board.proofs.board.Board.join.Goals as goal

pub join_seat-requires : goal.join_seat-requires
join_seat-requires g c =
    let same = sym (ap (λ p. p.board) c.self.view_is) in
    let has : c.other.inside.token.me.0.has ≡ [] = ap (λ p. p.view.has) c.other.view_is ∙ c.requires.free in (
      ap (λ p. p.board) c.seat.view_is ∙ (c.requires.board.0 ∙ same),
      ap (λ p. p.board) c.other.view_is ∙ (c.requires.board.1 ∙ same),
      c.other.invariant.1 ∙ ap (λ l. hand l) has,
      omega (arith, c.self.invariant.0),
      join_keeps _ _ _ _ _ _ (ap (λ p. p.view.leads) c.seat.view_is ∙ c.requires.leads) c.seat.invariant.0 c.other.invariant.0,
    )
