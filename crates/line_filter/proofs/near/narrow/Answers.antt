use Rattle.std.proofs.Common.{ℤ, arith, ap, ◌∙◌}
use Rattle.std.specs.Prelude.{not, if◌then◌else◌}
use Rattle.std.specs.Int.{int_shr}
use Rattle.std.proofs.lemmas.Int.{ints}
use Rattle.line_filter.specs.Lines as L
use Rattle.line_filter.specs.Lines.{outer, change, moved_sample, hev_mask}
use Rattle.line_filter.proofs.Narrow.{narrow_is}
use Rattle.line_filter.proofs.near.narrow.Goals as goal

pub returns : goal.returns
returns c = let x = c.args.x in let l = c.args.l in
    let h = c.is_high_variance-high.result in let a = c.step-a.result in let b = c.step-b.result in let g = c.halved-g.result in
    narrow_is l x h c.change-f.result a b g c.moved_unless.result c.moved_sample.result c.moved_sample-2.result c.moved_unless-2.result
    c.is_high_variance-high.ensures c.change-f.ensures.value
    (c.step-a.ensures.value ∙ ap (λ (z : ℤ). int_shr (L.filter4_clamp l.half z) 3) (omega (arith, ints)))
    (c.step-b.ensures.value ∙ ap (λ (z : ℤ). int_shr (L.filter4_clamp l.half z) 3) (omega (arith, ints)))
    (c.halved-g.ensures.value ∙ ap (λ (z : ℤ). int_shr z 1) (omega (arith, ints, c.step-a.ensures.size)))
    (c.moved_unless.ensures ∙ ap (λ (z : ℤ). if not h then moved_sample l.half x.p1 z else x.p1) (omega (arith, ints)))
    (c.moved_sample.ensures ∙ ap (moved_sample l.half x.p0) (omega (arith, ints)))
    (c.moved_sample-2.ensures ∙ ap (moved_sample l.half x.q0) (omega (arith, ints, c.step-a.ensures.size)))
    (c.moved_unless-2.ensures ∙ ap (λ (z : ℤ). if not h then moved_sample l.half x.q1 z else x.q1) (omega (arith, ints, c.halved-g.ensures.size, c.step-a.ensures.size)))
