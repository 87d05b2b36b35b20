use Rattle.std.specs.Prelude.{None}
use Rattle.std.specs.Option.{option_copied}
use Rattle.block_rebuild.specs.Code.{rebuilding_of}
use Rattle.block_rebuild.specs.declared.references.Rebuilding.{Rebuilding}
use Rattle.filtered_rows.specs.Code.{held_in, map_in, width_in}
use Rattle.filtered_rows.specs.BufferRows.{RowSpan}
use Rattle.column_strips.specs.recon_rows.OwnStrips.{HoldsRowOf}
use Rattle.job_results.specs.numbered_frames.Coded.{CodedFrame}
use Rattle.job_results.specs.numbered_frames.NumberedPictures.{pictures}
use Rattle.job_results.specs.JobResults.{IsStripAs}
use Rattle.job_rows.specs.LentStrips.{IsPlannedRow, RefersToNone}
use Rattle.job_rows.proofs.DueRows.{if_ok}
use Rattle.job_rows.proofs.StripSteps.{intra_named, intra_row_served, is_above, plan_is_read, strip_is}
use Rattle.job_rows.proofs.strips.intra_strip.Goals as goal

pub put_strip-requires-clause-read : goal.put_strip-requires-clause-read
put_strip-requires-clause-read g c = let r = c.requires.row in plan_is_read r.0 c.args.of.now c.shape.result r.1 c.shape.ensures

pub put_strip-requires-clause-served : goal.put_strip-requires-clause-served
put_strip-requires-clause-served g c =
    let r = c.requires.row in
    let all = pictures g.B.DecodeRun.format g.B.DecodeRun.film in
    let by : Rebuilding RowSpan = record { shape = c.shape.result; last = None; golden = None; altref = None } in
    intra_row_served (held_in all) (width_in all) (map_in all) by r.0 c.args.of.now r.1 r.2

pub put_strip-requires-clause-above : goal.put_strip-requires-clause-above
put_strip-requires-clause-above g c =
    let r = c.requires.row in
    let all = pictures g.B.DecodeRun.format g.B.DecodeRun.film in
    let by : Rebuilding RowSpan = record { shape = c.shape.result; last = None; golden = None; altref = None } in
    is_above r.0 c.args.of.now (rebuilding_of (map_in all) by) (option_copied c.args.above) r.1 (intra_named (map_in all) r.0 c.args.of.now c.shape.result r.1 c.shape.ensures r.2) r.3

pub returns : goal.returns
returns g c =
    let of = c.args.of.now in
    let all = pictures g.B.DecodeRun.format g.B.DecodeRun.film in
    let by : Rebuilding RowSpan = record { shape = c.shape.result; last = None; golden = None; altref = None } in
    if_ok c.put_strip.result (HoldsRowOf (rebuilding_of (map_in all) by) of.plan.now of.row) (λ f. (d : CodedFrame) → IsPlannedRow d of → RefersToNone d.header.kind → IsStripAs d of.column of.row f)
    (λ f holds. λ d is none. strip_is d of (rebuilding_of (map_in all) by) f is (intra_named (map_in all) d of c.shape.result is c.shape.ensures none) holds) c.put_strip.ensures
