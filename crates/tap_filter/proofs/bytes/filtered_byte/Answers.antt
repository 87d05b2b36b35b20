use Rattle.std.proofs.Common.{◌≡◌, ◌+◌, ◌*◌, ◌≤◌, pos, get_or, arith, ◌∙◌, suc}
use Rattle.tap_filter.proofs.ByteLemmas.{byte_small, byte_value, sum_fits, product_fits, product_kept, weighted_kept, sum_step}
use Rattle.tap_filter.proofs.bytes.filtered_byte.Goals as goal

pub overflow_mul-sum : goal.overflow_mul-sum
overflow_mul-sum c = let a = c.args in let k = c.loop-k.k in let t = get_or a.taps.now k (pos 0) in let s = get_or a.samples.now (a.place + k * a.step) 0 in
    rw (c.from.ensures, product_kept t s (c.requires.taps.small k) (byte_small (c.type_inv.samples (a.place + k * a.step))))
    (product_fits t s (c.requires.taps.small k) (byte_small (c.type_inv.samples (a.place + k * a.step))))

pub overflow_add-sum : goal.overflow_add-sum
overflow_add-sum c = let a = c.args in let k = c.loop-k.k in let t = get_or a.taps.now k (pos 0) in let s = get_or a.samples.now (a.place + k * a.step) 0 in
    let low : suc k ≤ 8 = omega (arith, c.loop-k-test.true) in
    rw (
      c.from.ensures,
      product_kept t s (c.requires.taps.small k) (byte_small (c.type_inv.samples (a.place + k * a.step))),
      weighted_kept t s (c.requires.taps.small k) (byte_small (c.type_inv.samples (a.place + k * a.step))),
      c.loop-k.invariant,
    )
    (sum_fits a.taps.now (λ k. get_or a.samples.now (a.place + k * a.step) 0) (suc k) c.requires.taps (λ j. byte_small (c.type_inv.samples (a.place + j * a.step))) low)

pub loop-k-preserved : goal.loop-k-preserved
loop-k-preserved c = let a = c.args in
    sum_step a.taps.now (λ k. get_or a.samples.now (a.place + k * a.step) 0) c.loop-k.k _ c.from.result c.loop-k.invariant c.from.ensures c.requires.taps
    (λ j. byte_small (c.type_inv.samples (a.place + j * a.step))) c.loop-k-test.true

pub returns : goal.returns
returns c = let a = c.args in
    let done : c.loop-k.k ≡ 8 = omega arith in
    c.byte_of.ensures ∙ rw (c.loop-k.invariant, done) (byte_value a.taps.now (λ k. get_or a.samples.now (a.place + k * a.step) 0))
