use Rattle.std.proofs.Common.{ap, sym, ◌∙◌, arith}
use lib.ListN.{get_elem?}
use Rattle.progress_board.proofs.SeatMoves.{closes, found_names, the_value_names}
use Rattle.progress_board.proofs.board.Board.close.Goals as goal

pub unreachable-requires : goal.unreachable-requires
unreachable-requires g c =
    let v = ap (λ p. p.view) c.seat.view_is in
    let home = closes g.T.InSlot.names _ _ 0 _ _ _ (ap (λ p. p.leads) v ∙ c.requires.leads) (ap (λ p. p.out) v ∙ c.requires.joined) (ap (λ p. p.has) v ∙ c.requires.home) (omega arith) c.close_with-closed.ensures.values.2 in
    let found = found_names _ 0 _ _ c.take-source.ensures.value home in
    c.in_default.not-Some found.0 found.1

pub unreachable-requires-in_default-outlet : goal.unreachable-requires-in_default-outlet
unreachable-requires-in_default-outlet g c =
    let v = ap (λ p. p.view) c.seat.view_is in
    let home = closes g.T.InSlot.names _ _ 1 _ _ _ (ap (λ p. p.leads) v ∙ c.requires.leads) (ap (λ p. p.out) v ∙ c.requires.joined) (ap (λ p. p.has) v ∙ c.requires.home) (omega arith) c.close_with-closed.ensures.values.2 in
    let found = found_names _ 1 _ _ (sym (ap (λ l. get_elem? l 1) c.take-source.ensures.others.0) ∙ c.take-outlet.ensures.value) home in
    c.in_default-outlet.not-Some found.0 found.1

pub returns : goal.returns
returns g c =
    let v = ap (λ p. p.view) c.seat.view_is in
    let leads = ap (λ p. p.leads) v ∙ c.requires.leads in
    let out = ap (λ p. p.out) v ∙ c.requires.joined in
    let has = ap (λ p. p.has) v ∙ c.requires.home in
    let final = c.close_with-closed.ensures.values.2 in
    let source = found_names _ 0 _ _ c.take-source.ensures.value (closes g.T.InSlot.names _ _ 0 _ _ _ leads out has (omega arith) final) in
    let outlet = found_names _ 1 _ _ (sym (ap (λ l. get_elem? l 1) c.take-source.ensures.others.0) ∙ c.take-outlet.ensures.value) (closes g.T.InSlot.names _ _ 1 _ _ _ leads out has (omega arith) final) in
    (the_value_names _ 0 _ _ c.in-Some.is source, the_value_names _ 1 _ _ c.in-Some-outlet.is outlet)
