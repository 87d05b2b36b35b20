use Rattle.std.proofs.Common.{arith, subst, ap, ◌∙◌, ◌≤◌, unsigned_abs, slice_index}
use Rattle.inverse_transforms.specs.Straight.{odd_quad}
use Rattle.inverse_transforms.proofs.StraightEight.{IsAngle, turned_kept, difference_kept, odd_made}
use Rattle.inverse_transforms.proofs.quads.odd_quad.Goals as goal

pub rotated-middle-requires-clause-x : goal.rotated-middle-requires-clause-x
rotated-middle-requires-clause-x c =
    let k = c.by.result in
    let m = c.by-2.result in
    let k_angle : IsAngle k.angle = (subst (λ z. unsigned_abs z ≤ 16384) k.cosine_value k.cosine_size, subst (λ z. unsigned_abs z ≤ 16384) k.sine_value k.sine_size) in
    let m_angle : IsAngle m.angle = (subst (λ z. unsigned_abs z ≤ 16384) m.cosine_value m.cosine_size, subst (λ z. unsigned_abs z ≤ 16384) m.sine_value m.sine_size) in
    let outer = turned_kept k.angle c.args.a c.args.d c.rotated-outer.result k_angle
    (omega (arith, c.requires.few)) (omega (arith, c.requires.few)) c.rotated-outer.ensures.value in
    let inner = turned_kept m.angle c.args.c c.args.b c.rotated-inner.result m_angle
    (omega (arith, c.requires.few)) (omega (arith, c.requires.few)) c.rotated-inner.ensures.value in
    difference_kept c.rotated-outer.result.second c.rotated-inner.result.second c.sum_and_difference-last.result
    (omega (arith, c.requires.few, outer.1, inner.1)) c.sum_and_difference-last.ensures

pub rotated-middle-requires-clause-y : goal.rotated-middle-requires-clause-y
rotated-middle-requires-clause-y c =
    let k = c.by.result in
    let m = c.by-2.result in
    let k_angle : IsAngle k.angle = (subst (λ z. unsigned_abs z ≤ 16384) k.cosine_value k.cosine_size, subst (λ z. unsigned_abs z ≤ 16384) k.sine_value k.sine_size) in
    let m_angle : IsAngle m.angle = (subst (λ z. unsigned_abs z ≤ 16384) m.cosine_value m.cosine_size, subst (λ z. unsigned_abs z ≤ 16384) m.sine_value m.sine_size) in
    let outer = turned_kept k.angle c.args.a c.args.d c.rotated-outer.result k_angle
    (omega (arith, c.requires.few)) (omega (arith, c.requires.few)) c.rotated-outer.ensures.value in
    let inner = turned_kept m.angle c.args.c c.args.b c.rotated-inner.result m_angle
    (omega (arith, c.requires.few)) (omega (arith, c.requires.few)) c.rotated-inner.ensures.value in
    difference_kept c.rotated-outer.result.first c.rotated-inner.result.first c.sum_and_difference-first.result
    (omega (arith, c.requires.few, outer.0, inner.0)) c.sum_and_difference-first.ensures

pub returns : goal.returns
returns c =
    let k = c.by.result in
    let m = c.by-2.result in
    let n = c.by-3.result in
    let k_angle : IsAngle k.angle = (subst (λ z. unsigned_abs z ≤ 16384) k.cosine_value k.cosine_size, subst (λ z. unsigned_abs z ≤ 16384) k.sine_value k.sine_size) in
    let m_angle : IsAngle m.angle = (subst (λ z. unsigned_abs z ≤ 16384) m.cosine_value m.cosine_size, subst (λ z. unsigned_abs z ≤ 16384) m.sine_value m.sine_size) in
    let n_angle : IsAngle n.angle = (subst (λ z. unsigned_abs z ≤ 16384) n.cosine_value n.cosine_size, subst (λ z. unsigned_abs z ≤ 16384) n.sine_value n.sine_size) in
    let first = slice_index c.args.angles 0 in
    let second = slice_index c.args.angles 1 in
    odd_made k.angle m.angle n.angle c.args.a c.args.b c.args.c c.args.d c.rotated-outer.result c.rotated-inner.result
    c.sum_and_difference-last.result c.sum_and_difference-first.result c.rotated-middle.result k_angle m_angle n_angle c.requires.few
    c.rotated-outer.ensures.value c.rotated-inner.ensures.value c.sum_and_difference-last.ensures c.sum_and_difference-first.ensures c.rotated-middle.ensures.value
    ∙ (ap (λ z. odd_quad z m.angle n.angle c.args.a c.args.b c.args.c c.args.d) c.by.ensures
    ∙ (ap (λ z. odd_quad first z n.angle c.args.a c.args.b c.args.c c.args.d) c.by-2.ensures
    ∙ ap (λ z. odd_quad first second z c.args.a c.args.b c.args.c c.args.d) c.by-3.ensures))
