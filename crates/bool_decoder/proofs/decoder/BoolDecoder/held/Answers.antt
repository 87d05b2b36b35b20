use Rattle.std.proofs.Common.{arith}
use Rattle.bool_decoder.specs.Held.{window_of}
use Rattle.bool_decoder.proofs.Holds.{holds}
use Rattle.bool_decoder.proofs.decoder.BoolDecoder.held.Goals as goal

pub returns : goal.returns
unfolding window_of
returns c = λ coder stands.
    holds coder c.args.self.now.window c.args.self.now.range c.args.self.now.count c.args.self.now.rest.now
    c.args.self.now.counted.0 c.args.self.now.counted.1 (omega arith) stands
