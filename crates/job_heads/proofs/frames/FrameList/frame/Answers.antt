use Rattle.std.proofs.Common.{ap, map, ◌∙◌}
use Rattle.job_heads.proofs.Lists.{frame_is, frame_none}
use Rattle.job_heads.proofs.frames.FrameList.frame.Goals as goal

pub returns-in-Some : goal.returns-in-Some
returns-in-Some g c =
    let self = c.args.self.now in
    let lookup = c.in-Some.ensures.lookup in
    frame_is (λ bytes. bytes.now) g.B.DecodeRun.film c.deref.result.now self.first g.B.DecodeRun.first c.args.number c.in-Some.bytes.now self.first_is c.requires
    (ap (map (λ bytes. bytes.now)) c.deref.ensures.value ∙ self.frames_are) lookup.3.0 lookup.1

pub returns-in-None : goal.returns-in-None
returns-in-None g c =
    let self = c.args.self.now in
    frame_none (λ bytes. bytes.now) g.B.DecodeRun.film c.deref.result.now self.first g.B.DecodeRun.first c.args.number self.first_is c.requires
    (ap (map (λ bytes. bytes.now)) c.deref.ensures.value ∙ self.frames_are) c.in-None.ensures.lookup.3
