use Rattle.std.proofs.Common.{◌∙◌, ◌+◌, ℕ, ap, subst, sym}
use Rattle.inter_predict.proofs.rows.piece_of.Goals as goal

pub rows-requires-clause-held : goal.rows-requires-clause-held
rows-requires-clause-held g c = λ r low. let a = c.args in let p = a.place.now in
    subst (λ (y : ℕ). g.S.Samples.holds a.view.now p.plane y) (c.if-is_among.ensures.places r low ∙ ap (λ (y : ℕ). y + r) (sym c.straight.ensures.value)) (c.requires.held r low)
