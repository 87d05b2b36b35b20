use Rattle.std.proofs.Common.{subst}
use Rattle.std.specs.Prelude.{Ok}
use Rattle.file_frames.specs.Code.{IsNext, ahead}
use Rattle.job_heads.proofs.Lists.{all_found, none_found, one_kept}
use Rattle.job_heads.proofs.frames.find_frames.Goals as goal

pub frames-init : goal.frames-init
frames-init c = rw c.new-frames.ensures.items (none_found c.args.bytes.now (ahead c.new-cursor.result) c.new-cursor.ensures)

pub returns-in-Ok-None : goal.returns-in-Ok-None
returns-in-Ok-None c =
    let next = subst (λ o. IsNext (ahead c.frames.cursor) (Ok o) (ahead c.next_frame.new.self)) c.in-Ok-None.field-0-is c.in-Ok-None.ensures.next in
    all_found c.args.bytes.now _ _ (ahead c.frames.cursor) _ next.0 c.frames.invariant

pub returns-in-Err : goal.returns-in-Err
returns-in-Err c = all_found c.args.bytes.now _ _ (ahead c.frames.cursor) _ c.in-Err.ensures.next.0 c.frames.invariant

pub frames-preserved : goal.frames-preserved
frames-preserved c =
    let next = subst (λ o. IsNext (ahead c.frames.cursor) (Ok o) (ahead c.next_frame.new.self)) c.in-Ok-Some.field-0-is c.in-Ok-Some.ensures.next in
    rw c.in_ok-push-in-Ok-Some.ensures.items
    (one_kept (λ frame. frame.now) c.args.bytes.now c.in-Ok-Some.frame.bytes c.in-Ok-Some.frame.number c.frames.frames.items (ahead c.frames.cursor) (ahead c.next_frame.new.self) next.0 c.frames.invariant)
