use Rattle.frame_groups.proofs.GroupLemmas.{on_any_err, some_in_all}
use Rattle.frame_groups.proofs.group.FrameGroup.frames.Goals as goal

pub returns-in_err-add_frames-clause-some : goal.returns-in_err-add_frames-clause-some
returns-in_err-add_frames-clause-some c =
    on_any_err c.from_residual.result (some_in_all c.args.self.now.payloads.items c.deref-payload-items.result.now c.loop-payload.payload-index c.payload-item.result
    c.deref-payload-items.ensures.value c.loop-payload-test.true c.payload-item.is c.in_err-add_frames.ensures.some)
