use Rattle.std.proofs.Common.{◌≡◌, ℤ, pos, ◌+ℤ◌, ◌-ℤ◌, arith, ap, ◌∙◌, unsigned_abs, to_z, of_z}
use Rattle.std.proofs.lemmas.Int.{ints}
use mir.Syntax.{w16}
use Rattle.line_filter.specs.Lines as L
use Rattle.line_filter.specs.Lines.{outer, change, moved_sample, hev_mask}
use Rattle.line_filter.proofs.near.moved_sample.Goals as goal

pub returns : goal.returns
returns c = let a = c.args in
    let e : ◌≡◌ {A = ℤ} c.clip.result (L.filter4_clamp a.half (pos a.sample -ℤ pos a.half +ℤ a.by)) = c.clip.ensures.value ∙ ap (L.filter4_clamp a.half) (omega (arith, ints, c.requires)) in
    let s : ◌≡◌ {A = ℤ} (to_z w16 (of_z w16 (to_z w16 (of_z w16 c.clip.result) +ℤ to_z w16 a.half))) (L.filter4_clamp a.half (pos a.sample -ℤ pos a.half +ℤ a.by) +ℤ pos a.half)
    = omega (arith, ints, e, c.clip.ensures.low, c.clip.ensures.high, c.requires.half) in
    ap unsigned_abs s
