use Rattle.std.proofs.Common.{◌≡◌, ◌≤◌, ◌<◌, ℕ, ◌*◌, ◌%◌, ◌^◌, sym, arith}
use Rattle.std.proofs.Math.Nat.{mod-eq_of_lt}
use Rattle.bool_decoder.specs.Held.{window_of}
use Rattle.bool_decoder.proofs.Moves.{doubled_holds, doubled_below, doubled_fits, doubled_clean}
use Rattle.bool_decoder.proofs.decoder.BoolDecoder.doubled.Goals as goal

-- the shifts lose nothing
window_whole : (window range k : ℕ) → window < range * 2 ^ 56 → range * 2 ^ k ≤ 255 → window * 2 ^ k % 2 ^ 64 ≡ window * 2 ^ k
window_whole window range k below narrow = mod-eq_of_lt (doubled_fits window range k below narrow)

range_whole : (range k : ℕ) → range * 2 ^ k ≤ 255 → range * 2 ^ k % 2 ^ 32 ≡ range * 2 ^ k
range_whole range k narrow = mod-eq_of_lt (let e : range * 2 ^ k < 2 ^ 32 = omega arith in e)

pub invariant_of-result-clause-below : goal.invariant_of-result-clause-below
invariant_of-result-clause-below c =
    rw (
      window_whole c.args.window c.args.range c.doublings-shift.result c.requires.below c.doublings-shift.ensures.within,
      range_whole c.args.range c.doublings-shift.result c.doublings-shift.ensures.within,
    )
    (doubled_below c.args.window c.args.range c.doublings-shift.result c.requires.below)

pub invariant_of-result-clause-clean : goal.invariant_of-result-clause-clean
invariant_of-result-clause-clean c =
    rw (window_whole c.args.window c.args.range c.doublings-shift.result c.requires.below c.doublings-shift.ensures.within)
    (doubled_clean c.args.window c.doublings-shift.result c.args.count (omega arith) c.requires.fits c.requires.clean)

pub returns : goal.returns
unfolding window_of
returns c =
    rw (
      window_whole c.args.window c.args.range c.doublings-shift.result c.requires.below c.doublings-shift.ensures.within,
      range_whole c.args.range c.doublings-shift.result c.doublings-shift.ensures.within,
      sym c.doublings-shift.ensures.is,
    )
    (doubled_holds c.args.window c.args.range c.doublings-shift.result c.args.count c.args.rest.now (omega arith) c.requires.fits
    (omega arith) (doubled_fits c.args.window c.args.range c.doublings-shift.result c.requires.below c.doublings-shift.ensures.within))
