use Rattle.std.proofs.Common.{◌*◌, ◌^◌, length, arith, ap}
use Rattle.bool_encoder.specs.Code.{be_number}
use Rattle.bool_encoder.proofs.Numbers.{one_shifted, carry_fits, held_wide}
use Rattle.bool_encoder.proofs.bytes.added.Goals as goal

pub carry-requires : goal.carry-requires
carry-requires c =
    let one = one_shifted c.args.held (omega arith) in
    carry_fits (be_number c.args.bytes.now) c.args.low c.args.split c.args.held (8 * length c.args.bytes.now) c.requires.fits (omega arith)

pub returns-clause-low : goal.returns-clause-low
returns-clause-low c =
    let one = one_shifted c.args.held (omega arith) in
    let wide = held_wide c.args.held c.requires.least in
    omega arith

pub returns-clause-number : goal.returns-clause-number
returns-clause-number c =
    let one = one_shifted c.args.held (omega arith) in
    let more = ap (λ n. n * 2 ^ c.args.held) c.carry.ensures in
    omega (arith, more)
