use Rattle.std.proofs.Common.{◌≡◌, ℤ, arith, ap, ◌∙◌}
use Rattle.std.proofs.lemmas.Int.{ints}
use Rattle.line_filter.specs.Lines as L
use Rattle.line_filter.specs.Lines.{outer, change, moved_sample, hev_mask}
use Rattle.line_filter.specs.Code.{line_of}
use Rattle.line_filter.proofs.near.change.Goals as goal

pub returns-clause-value : goal.returns-clause-value
unfolding L.change
returns-clause-value c = let a = c.args in let o = c.outer-outer in
    let e : ◌≡◌ {A = ℤ} c.clip.result (L.change a.high a.half (line_of a.x)) = c.clip.ensures.value ∙ ap (L.filter4_clamp a.half) (omega (arith, ints, o.ensures.value, o.ensures.size, c.requires.small.q0, c.requires.small.p0)) in
    omega (arith, ints, e)
