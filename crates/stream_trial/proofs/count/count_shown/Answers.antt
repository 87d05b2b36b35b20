use Rattle.std.proofs.Common.{subst, refl, arith}
use Rattle.std.specs.Prelude.{Ok}
use Rattle.file_frames.specs.Code.{IsNext, ahead}
use Rattle.stream_trial.proofs.Counts.{all_counted, few_more, none_counted, none_whole, one_counted}
use Rattle.stream_trial.proofs.count.count_shown.Goals as goal

pub frames-init : goal.frames-init
frames-init c = record { counted = none_counted c.args.file.now (ahead c.new-frames.result) _ c.new-frames.ensures refl; few = omega arith }

pub returns-in-Ok-None : goal.returns-in-Ok-None
returns-in-Ok-None c =
    let next = subst (λ o. IsNext (ahead c.frames.frames) (Ok o) (ahead c.next_frame.new.self)) c.in-Ok-None.field-0-is c.in-Ok-None.ensures.next in
    all_counted c.args.file.now (ahead c.frames.frames) c.frames.persist c.frames.count next.0 c.frames.invariant.counted

pub returns-in-Err : goal.returns-in-Err
returns-in-Err c =
    none_whole c.args.file.now (ahead c.frames.frames) c.frames.persist c.frames.count c.in-Err.field-0 c.in-Err.ensures.next.0 c.frames.invariant.counted

pub frames-preserved : goal.frames-preserved
frames-preserved c =
    let frame = c.in-Ok-Some.frame in
    let next = subst (λ o. IsNext (ahead c.frames.frames) (Ok o) (ahead c.next_frame.new.self)) c.in-Ok-Some.field-0-is c.in-Ok-Some.ensures.next in
    record {
      counted = one_counted c.args.file.now frame.bytes.now frame.number (ahead c.frames.frames) (ahead c.next_frame.new.self) c.frames.persist c.count_frame-count.new.persist c.frames.count c.count_frame-count.result
          next c.count_frame-count.ensures.counts c.frames.invariant.counted;
      few = few_more frame.bytes.now frame.number (ahead c.frames.frames) (ahead c.next_frame.new.self) c.frames.count c.count_frame-count.result next c.frames.invariant.few c.count_frame-count.ensures.one;
    }
