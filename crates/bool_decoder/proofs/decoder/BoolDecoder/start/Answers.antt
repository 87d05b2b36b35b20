use Rattle.std.proofs.Common.{sym, ◌∙◌, arith}
use Rattle.bool_decoder.proofs.Starts.{started_empty, started_marker, started_ok}
use Rattle.bool_decoder.proofs.Steps.{border_is}
use Rattle.bool_decoder.proofs.decoder.BoolDecoder.start.Goals as goal

pub returns-then-is_empty : goal.returns-then-is_empty
returns-then-is_empty c = started_empty c.args.bytes.now (sym c.is_empty.ensures ∙ c.if-is_empty.true)

pub returns-then-from-window : goal.returns-then-from-window
returns-then-from-window c =
    let border = border_is c.from.result c.split_of-split.result c.from.ensures (omega arith) in
    started_marker c.filled-window.result.0 c.filled-window.result.1 c.split_of-split.result c.args.bytes.now c.filled-window.result.2.now
    (sym c.is_empty.ensures ∙ c.if-is_empty.false) c.filled-window.ensures.count (omega arith) c.filled-window.ensures.ahead
    c.split_of-split.ensures.is (rw border at c.if-from-window.true)

pub returns : goal.returns
returns c =
    let border = border_is c.from.result c.split_of-split.result c.from.ensures (omega arith) in
    started_ok c.filled-window.result.0 c.filled-window.result.1 c.split_of-split.result c.args.bytes.now c.filled-window.result.2.now _
    (sym c.is_empty.ensures ∙ c.if-is_empty.false) c.filled-window.ensures.count (omega arith) c.filled-window.ensures.ahead
    c.split_of-split.ensures.is (rw border at c.if-from-window.false) c.doubled.ensures
