use Rattle.std.proofs.Common.{◌≡◌, ◌+◌, ◌-◌, ◌<◌, Some, ⊎_elim, ap, sym, ◌∙◌, arith}
use Rattle.progress_board.proofs.SlotMoves.{take_allows, front_of}
use Rattle.progress_board.proofs.board.Board.take.Goals as goal

pub swap-found-requires : goal.swap-found-requires
swap-found-requires g c =
    let small : c.from-word.result < 2 = omega (arith, c.from-word.ensures, c.requires.slot) in (
      ap (λ p. p.board) c.seat.view_is ∙ (c.requires.board ∙ sym (ap (λ p. p.board) c.self.view_is)),
      omega (arith, c.self.invariant.0, small),
      take_allows _ _ _ _ _ _ c.seat.invariant.0 small,
    )

pub exchange-requires : goal.exchange-requires
exchange-requires g c =
    let table = ap (λ p. p.board) c.seat.view_is ∙ (c.requires.board ∙ sym (ap (λ p. p.board) c.self.view_is)) in
    let same : c.from-word.result + 1 - 1 ≡ c.from.result = omega (arith, c.from-word.ensures, c.from.ensures) in (
      c.swap-found.ensures.0 ∙ table,
      ⊎_elim
          (λ took. (Some took.2.0, front_of _ _ _ _ _ took.2.2 same))
          (λ out. absurd (omega (arith, out.0, c.if-found-eq0.true)))
          c.swap-found.ensures.2,
    )
