use Rattle.std.proofs.Common.{◌≡◌, ◌<◌, [], ◌∷◌, ap, sym, ◌∙◌, arith}
use Rattle.progress_board.proofs.SlotMoves.{filled, give_allows_as}
use Rattle.progress_board.proofs.board.Board.give.Goals as goal

pub swap-requires : goal.swap-requires
swap-requires g c =
    let v = c.seat.inside.token.me.0 in
    let slot = c.from-2.result in
    let small : slot < 2 = omega (arith, c.from-2.ensures, c.requires.slot) in
    let has : v.has ≡ slot ∷ [] = ap (λ p. p.view.has) c.seat.view_is ∙ (c.requires.taken ∙ ap (λ k. k ∷ []) (sym c.from-2.ensures)) in (
      c.exchange-old.ensures.0 ∙ (ap (λ p. p.board) c.seat.view_is ∙ (c.requires.board ∙ sym (ap (λ p. p.board) c.self.view_is))),
      omega (arith, c.self.invariant.0, small),
      give_allows_as _ _ _ _ _ _ v c.args.value (filled _ _ _ v.has _ slot _ c.exchange-old.ensures.3 c.seat.invariant.1 has (c.from.ensures ∙ sym c.from-2.ensures))
          c.seat.invariant.0 small has (c.requires.value ∙ sym c.from-2.ensures),
    )
