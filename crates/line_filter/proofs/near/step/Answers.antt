use Rattle.std.proofs.Common.{◌≡◌, ℤ, ◌+ℤ◌, arith, ap, ◌∙◌}
use Rattle.std.specs.Int.{int_shr}
use Rattle.std.proofs.lemmas.Int.{ints}
use Rattle.line_filter.specs.Lines as L
use Rattle.line_filter.specs.Lines.{outer, change, moved_sample, hev_mask}
use Rattle.line_filter.proofs.near.step.Goals as goal

pub returns-clause-value : goal.returns-clause-value
returns-clause-value c = let a = c.args in
    let e : ◌≡◌ {A = ℤ} c.clip.result (L.filter4_clamp a.half (a.f +ℤ a.more)) = c.clip.ensures.value ∙ ap (L.filter4_clamp a.half) (omega (arith, ints, c.requires)) in
    let g : ◌≡◌ {A = ℤ} c.eighth.result (int_shr (L.filter4_clamp a.half (a.f +ℤ a.more)) 3) = c.eighth.ensures.value ∙ ap (λ z. int_shr z 3) (omega (arith, ints, e)) in
    omega (arith, ints, g)
