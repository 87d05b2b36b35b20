use Rattle.std.proofs.Common.{subst, string_bytes}
use Rattle.std.specs.Prelude.{Ok}
use Rattle.file_frames.specs.Code.{IsNext, ahead}
use Rattle.vp9_app.specs.Code.{AddsLine}
use Rattle.vp9_app.specs.Listing.{list_step}
use Rattle.vp9_app.proofs.Listings.{all_listed, file_breaks, frame_breaks}
use Rattle.vp9_app.proofs.listing.list_file.Goals as goal

pub returns-in-Ok-None : goal.returns-in-Ok-None
returns-in-Ok-None c =
    let next = subst (λ o. IsNext (ahead c.frames.frames) (Ok o) (ahead c.next_frame.new.self)) c.in-Ok-None.field-0-is c.in-Ok-None.ensures.next in
    all_listed c.args.bytes.now c.frames.persist (ahead c.frames.frames) (string_bytes c.frames.text) c.frames.invariant next.0

pub returns-in-Err : goal.returns-in-Err
returns-in-Err c =
    file_breaks c.args.bytes.now c.frames.persist (ahead c.frames.frames) (string_bytes c.frames.text) c.in-Err.stop c.frames.invariant c.in-Err.ensures.next.0

pub returns-in-Err-2 : goal.returns-in-Err-2
returns-in-Err-2 c =
    let frame = c.in-Ok-Some.frame in
    let next = subst (λ o. IsNext (ahead c.frames.frames) (Ok o) (ahead c.next_frame.new.self)) c.in-Ok-Some.field-0-is c.in-Ok-Some.ensures.next in
    let adds = subst (λ r. AddsLine (string_bytes c.frames.text) (list_step frame.number c.frames.persist frame.bytes.now) r (string_bytes c.list_frame.new.text)) c.in-Err-2.is c.in_ok-next.ensures in
    frame_breaks c.args.bytes.now frame.bytes.now frame.number c.frames.persist (ahead c.frames.frames) (ahead c.next_frame.new.self) (string_bytes c.frames.text) (string_bytes c.list_frame.new.text) c.in-Err-2.rule c.frames.invariant next adds
