use Rattle.std.proofs.Common.{◌≡◌, ◌-◌, ◌%◌, arith}
use Rattle.bool_decoder.specs.Held.{window_of}
use Rattle.bool_decoder.proofs.decoder.BoolDecoder.refilled.Goals as goal

pub returns-clause-same : goal.returns-clause-same
unfolding window_of
returns-clause-same c =
    let place : (64 - c.filled-window.result.1) % 8 ≡ (64 - c.args.self.count) % 8 = omega arith in
    rw (place, c.filled-window.ensures.ahead)
