use Rattle.std.proofs.Common.{◌≡◌}
use Rattle.frame_output.specs.Formats.{frame_head}
use Rattle.frame_output.specs.Texts.{frame_text}
use Rattle.frame_output.proofs.Fronts.{puts_last}
use Rattle.frame_output.proofs.formats.render_behind_head.Goals as goal

pub returns-clause-bytes : goal.returns-clause-bytes
returns-clause-bytes g c = let a = c.args in
    let taken = g.K.Sink.taken in
    let head = frame_head a.how.now.rate a.how.now.first a.shape.now in
    let head_is : c.as_slice.result.now ≡ head = rw (c.as_slice.ensures.value) c.frame_head.ensures in
    puts_last (taken a.sink.now) (taken c.put_all.new.sink) (taken c.render.new.sink) head (frame_text a.shape.now (g.S.Samples.map a.samples.now)) c.render.result
    (rw head_is at c.in_ok-put_all.ensures.bytes) c.render.ensures.bytes
