use Rattle.std.proofs.Common.{◌≡◌, ◌+◌, ◌-◌, ◌/◌, ◌^◌, ◌<◌, arith}
use Rattle.std.proofs.lemmas.Nat.{shr_below}
use Rattle.bool_encoder.proofs.Numbers.{spilled_number, one_shifted}
use Rattle.bool_encoder.proofs.bytes.spill.Goals as goal

pub overflow_cast-low : goal.overflow_cast-low
overflow_cast-low c =
    let e : 8 + (c.args.held - 8) ≡ c.args.held = omega arith in
    let small : c.args.low / 2 ^ (c.args.held - 8) < 2 ^ 8 = shr_below c.args.low 8 (c.args.held - 8) (rw e c.requires.low) in
    omega (arith, small)

pub returns-clause-number : goal.returns-clause-number
returns-clause-number c =
    let one = one_shifted (c.args.held - 8) (omega arith) in
    rw (one, c.in_ok-push.ensures.items) (spilled_number c.args.bytes.now.items c.args.low c.args.held c.requires.least)
