use Rattle.job_heads.proofs.CodedFrames.{begins_behind}
use Rattle.job_heads.proofs.HeadSteps.{begin_ends}
use Rattle.job_heads.proofs.ReferenceSizes.{have_sizes}
use Rattle.job_results.specs.Lent.{IsBegunFrame}
use Rattle.job_heads.proofs.head.begin_coded.Goals as goal

pub begin-requires-clause-references : goal.begin-requires-clause-references
begin-requires-clause-references g c = have_sizes c.args.before.now.persist c.args.bytes.now c.args.header.now c.args.compressed c.requires.kept.may.sized c.requires.head

pub returns-in-Err : goal.returns-in-Err
returns-in-Err g c =
    rw c.halt_outcome.ensures
    (begin_ends g.B.DecodeRun.format g.B.DecodeRun.film c.args.number c.args.before.now c.args.bytes.now c.args.header.now c.args.compressed c.in-Err.halt c.requires.kept c.requires.frame c.requires.head
    (c.in-Err.ensures.begun c.requires.kept.kept.state c.requires.kept.stands))

pub returns-in-Ok-new : goal.returns-in-Ok-new
returns-in-Ok-new g c =
    let it : IsBegunFrame g.B.DecodeRun.format g.B.DecodeRun.film c.args.number c.in-Ok-new.begun.value =
    rw c.in-Ok-new.ensures.ok
    (begins_behind g.B.DecodeRun.format g.B.DecodeRun.film c.args.number c.args.before.now c.args.bytes.now c.args.header.now c.args.compressed c.in-Ok.begun c.requires.kept c.requires.frame c.requires.head
    c.in-Ok.ensures.bytes c.in-Ok.ensures.sound (c.in-Ok.ensures.begun c.requires.kept.kept.state c.requires.kept.stands)) in
    it
