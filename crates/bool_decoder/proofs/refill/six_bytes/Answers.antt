use Rattle.std.proofs.Common.{arith, ◌≡◌, ◌<◌, ℕ, List, ◌+◌, ◌-◌, ◌*◌, ◌^◌, drop, ap, ◌∙◌}
use Rattle.std.proofs.lemmas.List.{drop-drop}
use Rattle.bool_decoder.specs.Ahead.{front_bytes}
use Rattle.bool_decoder.proofs.Supply.{six_small, six_fits, six_step, six_of_eight}
use Rattle.bool_decoder.proofs.refill.six_bytes.Goals as goal

ended : (i number whole : ℕ) (rest : List ℕ) → i ≡ 6 → number * 2 ^ (8 * (6 - i)) + front_bytes (6 - i) rest ≡ whole → number ≡ whole
unfolding front_bytes
ended i number whole rest six h = let e = rw six at h in omega arith

pub returns-in-Some-clause-number : goal.returns-in-Some-clause-number
returns-in-Some-clause-number c =
    six_of_eight c.args.bytes.now c.from_be_bytes.result c.in-Some.ensures.cases.enough c.type_inv.bytes
    (rw c.in-Some.ensures.cases.same at c.from_be_bytes.ensures)

pub overflow_mul-number : goal.overflow_mul-number
overflow_mul-number c = let e = six_fits c.loop.counter c.loop.number 0 c.loop-test.true c.loop.invariant.small (omega arith) in omega arith

pub overflow_add-number : goal.overflow_add-number
overflow_add-number c =
    let low : c.from.result < 256 = omega arith in
    let e = six_fits c.loop.counter c.loop.number c.from.result c.loop-test.true c.loop.invariant.small low in
    omega arith

pub loop-preserved : goal.loop-preserved
loop-preserved c =
    record {
      small = six_small c.loop.counter c.loop.number c.from.result c.loop.invariant.small (omega arith);
      whole =
          rw (c.from.ensures, c.first_byte-byte.ensures.byte, c.first_byte-byte.ensures.rest)
          (six_step c.loop.counter c.loop.number _ c.loop.rest.now c.loop-test.true c.loop.invariant.whole);
      behind = c.first_byte-byte.ensures.rest ∙ ap (λ bs. drop 1 bs) c.loop.invariant.behind ∙ drop-drop 1 c.loop.counter c.args.bytes.now;
    }

pub returns-clause-number : goal.returns-clause-number
returns-clause-number c =
    let six : c.loop.counter ≡ 6 = omega arith in
    ended c.loop.counter c.loop.number _ c.loop.rest.now six c.loop.invariant.whole

pub returns-clause-rest : goal.returns-clause-rest
returns-clause-rest c =
    let six : c.loop.counter ≡ 6 = omega arith in
    c.loop.invariant.behind ∙ ap (λ i. drop i c.args.bytes.now) six
