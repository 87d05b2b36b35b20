use Rattle.std.proofs.Common.{arith, ◌≡◌, ◌≤◌, ℕ, ◌-◌, sym}
use Rattle.std.specs.Int.{leading_zeros, w32}
use Rattle.bool_decoder.specs.Coder.{doublings}
use Rattle.bool_decoder.proofs.Doublings.{doublings-counted, doublings-enough, doublings-fit}
use Rattle.bool_encoder.proofs.split.doublings.Goals as goal

counted : (r : ℕ) → 1 ≤ r → r ≤ 255 → doublings r ≡ leading_zeros w32 r - 24
counted r some fits = let e = doublings-counted r some fits in omega arith

pub overflow_sub-result : goal.overflow_sub-result
overflow_sub-result c =
    let e = doublings-counted c.args.range c.requires.some c.requires.fits in
    omega arith

pub returns-clause-is : goal.returns-clause-is
returns-clause-is c = sym (counted c.args.range c.requires.some c.requires.fits)

pub returns-clause-enough : goal.returns-clause-enough
returns-clause-enough c =
    rw (sym (counted c.args.range c.requires.some c.requires.fits)) (doublings-enough c.args.range c.requires.some)

pub returns-clause-within : goal.returns-clause-within
returns-clause-within c =
    rw (sym (counted c.args.range c.requires.some c.requires.fits)) (doublings-fit c.args.range c.requires.fits)
