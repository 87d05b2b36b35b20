use Rattle.std.proofs.Common.{arith, ◌+◌, List, ℕ, subst}
use Rattle.vp9_types.specs.declared.job.JobName.TheVariants.{Write}
use Rattle.edge_io.specs.Putting.{Takes}
use Rattle.job_order.specs.Truths.{IsFront}
use Rattle.job_rows.specs.numbered_frames.FrameNumbers.{text}
use Rattle.job_decoder.proofs.Groups.{fits_in_film}
use Rattle.job_decoder.proofs.Shown.{put_by}
use Rattle.job_decoder.proofs.decoder.JobDecoderJobsJobResultGroupDecodeSink.write.Goals as goal

pub overflow_add-number : goal.overflow_add-number
overflow_add-number g c =
    let below =
    fits_in_film g.B.DecodeRun.first c.first.result g.B.DecodeRun.format g.B.DecodeRun.film (Write c.args.frame) c.first.ensures.is c.first.ensures.few c.self.invariant c.requires.due tt
    in
    omega (arith, below)

pub returns-in-Err-clause-put : goal.returns-in-Err-clause-put
returns-in-Err-clause-put g c =
    let old = g.K.Sink.taken c.args.output.now.sink in
    let new = g.K.Sink.taken c.write.new.sink in
    subst (λ n. (put : List ℕ) × Takes old new put × IsFront put (text g.B.DecodeRun.format g.B.DecodeRun.film (n + c.args.frame))) c.first.ensures.is
    (put_by old new _ _ _ c.in-Err.fault (rw c.in-Err.is at c.write.ensures.shows))
