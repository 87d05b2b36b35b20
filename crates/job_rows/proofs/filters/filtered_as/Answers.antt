use Rattle.std.proofs.Common.{◌∙◌, sym, ap}
use Rattle.frame_headers.specs.HeaderState.{shape_of}
use Rattle.frame_headers.specs.declared.header.Header.{Header}
use Rattle.job_rows.specs.LentRows.{OfFrame}
use Rattle.loop_edges.specs.Cells.{setting_of}
use Rattle.job_results.specs.numbered_frames.FrameNumbers.{before, frame_at}
use Rattle.job_results.specs.JobResults.{IsFilteredAs}
use Rattle.job_results.proofs.CodedFrames.{coded_by}
use Rattle.job_rows.proofs.DueRows.{if_ok, of_frame}
use Rattle.job_rows.proofs.FilteredSteps.{columns_of_close, filtered_above, header_of, last_of_frame, last_there, raw_is, row_is_filtered, stands_above, strips_are_row}
use Rattle.job_rows.proofs.filters.filtered_as.Goals as goal

pub last_of-last-requires : goal.last_of-last-requires
last_of-last-requires g c = let at = c.requires.row in
    rw c.deref.ensures (last_there g.B.DecodeRun.format g.B.DecodeRun.film c.args.frame at.frame at.read c.closed-closed.result.now at.is at.reads c.closed-closed.ensures)

pub filtered_of-requires-clause-same : goal.filtered_of-requires-clause-same
filtered_of-requires-clause-same g c =
    let at = c.requires.row in
    let format = g.B.DecodeRun.format in
    let film = g.B.DecodeRun.film in
    let header = header_of format film c.args.frame at.frame c.begun.result.now at.is c.begun.ensures in
    let last = last_of_frame format film c.args.frame at.frame at.read c.closed-closed.result.now c.last_of-last.result.now at.is at.reads c.closed-closed.ensures (sym c.deref.ensures ∙ c.last_of-last.ensures) in
    let raw = raw_is format film c.args.frame at.frame at.read at.is at.reads in
    last.size ∙ sym (ap (λ (h : Header). h.size) header)

pub filtered_of-requires-clause-strips : goal.filtered_of-requires-clause-strips
filtered_of-requires-clause-strips g c =
    let at = c.requires.row in
    let format = g.B.DecodeRun.format in
    let film = g.B.DecodeRun.film in
    let header = header_of format film c.args.frame at.frame c.begun.result.now at.is c.begun.ensures in
    let last = last_of_frame format film c.args.frame at.frame at.read c.closed-closed.result.now c.last_of-last.result.now at.is at.reads c.closed-closed.ensures (sym c.deref.ensures ∙ c.last_of-last.ensures) in
    let raw = raw_is format film c.args.frame at.frame at.read at.is at.reads in
    let by = coded_by format film c.args.frame at.frame at.is in
    rw (header, raw, c.deref-2.ensures.value) (strips_are_row (before format film c.args.frame) (frame_at film c.args.frame) at.frame at.read c.closed-closed.result.now.columns c.args.row _ by at.reads
    (columns_of_close format film c.args.frame at.frame c.closed-closed.result.now at.is c.closed-closed.ensures) at.inside (c.in_ok-strips.ensures at.frame at.is))

pub filtered_of-requires-clause-stands : goal.filtered_of-requires-clause-stands
filtered_of-requires-clause-stands g c =
    let at = c.requires.row in
    let format = g.B.DecodeRun.format in
    let film = g.B.DecodeRun.film in
    let header = header_of format film c.args.frame at.frame c.begun.result.now at.is c.begun.ensures in
    let last = last_of_frame format film c.args.frame at.frame at.read c.closed-closed.result.now c.last_of-last.result.now at.is at.reads c.closed-closed.ensures (sym c.deref.ensures ∙ c.last_of-last.ensures) in
    let raw = raw_is format film c.args.frame at.frame at.read at.is at.reads in
    stands_above at.frame c.args.row _ _ (ap shape_of header) (c.in_ok-above.ensures at.frame at.is)

pub filtered_of-requires-clause-above : goal.filtered_of-requires-clause-above
filtered_of-requires-clause-above g c =
    let at = c.requires.row in
    let format = g.B.DecodeRun.format in
    let film = g.B.DecodeRun.film in
    let header = header_of format film c.args.frame at.frame c.begun.result.now at.is c.begun.ensures in
    let last = last_of_frame format film c.args.frame at.frame at.read c.closed-closed.result.now c.last_of-last.result.now at.is at.reads c.closed-closed.ensures (sym c.deref.ensures ∙ c.last_of-last.ensures) in
    let raw = raw_is format film c.args.frame at.frame at.read at.is at.reads in
    rw (header, raw, last.blocks) (filtered_above at.frame at.read c.args.row _ at.reads (c.in_ok-above.ensures at.frame at.is))

pub returns : goal.returns
returns g c =
    let at = c.requires.row in
    let format = g.B.DecodeRun.format in
    let film = g.B.DecodeRun.film in
    let header = header_of format film c.args.frame at.frame c.begun.result.now at.is c.begun.ensures in
    let last = last_of_frame format film c.args.frame at.frame at.read c.closed-closed.result.now c.last_of-last.result.now at.is at.reads c.closed-closed.ensures (sym c.deref.ensures ∙ c.last_of-last.ensures) in
    let raw = raw_is format film c.args.frame at.frame at.read at.is at.reads in
    if_ok c.filtered_of.result _ (λ planes. OfFrame format film c.args.frame (λ d. IsFilteredAs d c.args.row planes))
    (λ planes h. of_frame (λ d. IsFilteredAs d c.args.row planes) format film c.args.frame at.frame at.is
    (row_is_filtered at.frame at.read _ _ _ c.args.row planes (record { reads = at.reads; edges_are = ap setting_of header; blocks_are = last.blocks; raw_is = raw }) h)) c.filtered_of.ensures
