use Rattle.std.proofs.Common.{map}
use Rattle.job_decoder.proofs.Reaching.{starved_at_once}
use Rattle.job_decoder.proofs.group.decode_group.Goals as goal

pub returns-then-not-are_numbered-clause-reached : goal.returns-then-not-are_numbered-clause-reached
returns-then-not-are_numbered-clause-reached g c =
    let k = g.K.Sink in
    let next = c.args.next in
    let frames = map (λ frame. frame.now) next.frames.items in
    rw c.without_memory.ensures (starved_at_once next.format next.rate c.args.past frames (k.taken c.args.sink) (k.faults c.args.sink) c.requires.past)
