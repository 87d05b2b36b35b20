use Rattle.std.proofs.Common.{◌≡◌, arith, ◌+◌, refl}
use Rattle.std.specs.Prelude.{Some}
use Rattle.vp9_types.specs.declared.job.JobName.TheVariants.{Rows}
use Rattle.job_rows.specs.numbered_frames.Coded.{coded}
use Rattle.job_rows.specs.job_results.RowReads.{kept_spans, reads_from}
use Rattle.job_decoder.proofs.Groups.{due_by_name, fits_in_film}
use Rattle.job_decoder.proofs.ReadSpans.{all_named, is_some, spans_kept, spans_told}
use Rattle.job_decoder.proofs.decoder.JobDecoderJobsJobResultGroupDecodeSink.reads.Goals as goal

pub overflow_add-first : goal.overflow_add-first
overflow_add-first g c =
    let below =
    fits_in_film g.B.DecodeRun.first c.first-first.result g.B.DecodeRun.format g.B.DecodeRun.film (Rows c.args.frame c.args.column c.args.row) c.first-first.ensures.is c.first-first.ensures.few
    c.self.invariant c.requires tt
    in
    omega (arith, below)

pub of-requires : goal.of-requires
of-requires g c =
    let own = c.first-first.result in
    let due = due_by_name g.B.DecodeRun.first own g.B.DecodeRun.format g.B.DecodeRun.film (Rows c.args.frame c.args.column c.args.row) (Rows (own + c.args.frame) c.args.column c.args.row) c.first-first.ensures.is refl
    c.self.invariant c.requires in
    is_some (kept_spans c.closed-closed.result.now.reads c.args.column c.args.row) _
    (spans_kept g.B.DecodeRun.format g.B.DecodeRun.film (own + c.args.frame) c.args.column c.args.row c.closed-closed.result.now c.closed-closed.ensures due)

pub returns : goal.returns
returns g c =
    let n = g.B.DecodeRun.first in
    let own = c.first-first.result in
    let format = g.B.DecodeRun.format in
    let film = g.B.DecodeRun.film in
    let due = due_by_name n own format film (Rows c.args.frame c.args.column c.args.row) (Rows (own + c.args.frame) c.args.column c.args.row) c.first-first.ensures.is refl c.self.invariant c.requires in
    let kept = kept_spans c.closed-closed.result.now.reads c.args.column c.args.row in
    let told : kept ≡ Some (reads_from (coded format film (n + c.args.frame)) c.args.column c.args.row) =
    spans_told n own c.args.frame c.args.column c.args.row format film kept c.first-first.ensures.is
    (spans_kept format film (own + c.args.frame) c.args.column c.args.row c.closed-closed.result.now c.closed-closed.ensures due) in
    record {
      all = λ results frame band h.
          all_named n own (coded format film (n + c.args.frame)) c.args.column c.args.row kept c.of.result c.span_in.result c.span_in-2.result c.span_in-3.result c.first-first.ensures.is told c.of.ensures
          c.span_in.ensures c.span_in-2.ensures c.span_in-3.ensures frame band h;
    }
