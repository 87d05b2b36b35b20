use Rattle.std.proofs.Common.{◌≡◌, ap, arith, negsuc, of_z, pos, ◌+ℤ◌, rules, to_z, unsigned_abs}
use Rattle.std.specs.Int.{int_max, int_min, int_shr}
use Rattle.tap_filter.proofs.ByteLemmas.{clip_most, moved_is}
use Rattle.tap_filter.proofs.bytes.byte_of.Goals as goal
use mir.Syntax.{w16}

pub overflow_cast-result : goal.overflow_cast-result
overflow_cast-result c =
    let low : c.max.result ≡ int_max (int_shr c.args.sum 7) (negsuc 127) = search rules in
    let byte : c.min.result ≡ int_min c.max.result (pos 127) = search rules in
    let kept : to_z w16 (of_z w16 c.min.result) ≡ c.min.result = search rules in
    rw (moved_is (int_shr c.args.sum 7) c.max.result c.min.result low byte kept) (tt, record { fits = omega (arith, clip_most (int_shr c.args.sum 7 +ℤ pos 128)) })

pub returns : goal.returns
returns c =
    let low : c.max.result ≡ int_max (int_shr c.args.sum 7) (negsuc 127) = search rules in
    let byte : c.min.result ≡ int_min c.max.result (pos 127) = search rules in
    let kept : to_z w16 (of_z w16 c.min.result) ≡ c.min.result = search rules in
    ap unsigned_abs (moved_is (int_shr c.args.sum 7) c.max.result c.min.result low byte kept)
