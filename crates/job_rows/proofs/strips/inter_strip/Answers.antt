use Rattle.std.proofs.Common.{◌≡◌, ◌∙◌, ℕ, ap}
use Rattle.std.specs.Prelude.{Some}
use Rattle.std.specs.Option.{option_copied}
use Rattle.frame_headers.specs.HeaderState.{shape_of}
use Rattle.block_rebuild.specs.Code.{rebuilding_of}
use Rattle.block_rebuild.specs.declared.references.Rebuilding.{Rebuilding}
use Rattle.filtered_rows.specs.Code.{map_in}
use Rattle.filtered_rows.specs.BufferRows.{RowSpan}
use Rattle.column_strips.specs.recon_rows.OwnStrips.{HoldsRowOf}
use Rattle.job_results.specs.numbered_frames.Coded.{CodedFrame, coded}
use Rattle.job_results.specs.numbered_frames.NumberedPictures.{pictures}
use Rattle.job_results.specs.JobResults.{IsStripAs}
use Rattle.job_rows.specs.LentStrips.{IsPlannedRow, ReadsRows}
use Rattle.job_rows.proofs.DueRows.{if_ok}
use Rattle.job_rows.proofs.StripSteps.{ArePictures, inter_named, inter_row_served, is_above, is_by, plan_is_read, strip_is}
use Rattle.job_rows.proofs.strips.inter_strip.Goals as goal

pub put_strip-requires-clause-read : goal.put_strip-requires-clause-read
put_strip-requires-clause-read g c = let r = c.requires.row in plan_is_read r.1 c.args.of.now c.shape.result r.3 c.shape.ensures

pub put_strip-requires-clause-served : goal.put_strip-requires-clause-served
put_strip-requires-clause-served g c =
    let r = c.requires.row in
    let of = c.args.of.now in
    let format = g.B.DecodeRun.format in
    let film = g.B.DecodeRun.film in
    let rows = c.args.rows.now in
    let by : Rebuilding RowSpan = record { shape = c.shape.result; last = c.picture.result; golden = c.picture-2.result; altref = c.picture-3.result } in
    let all : ArePictures rows by = record {
      last = is_by rows.last c.filtered-last.result c.picture.result c.picture.ensures c.filtered-last.ensures;
      golden = is_by rows.golden c.filtered-golden.result c.picture-2.result c.picture-2.ensures c.filtered-golden.ensures;
      altref = is_by rows.altref c.filtered-altref.result c.picture-3.result c.picture-3.ensures c.filtered-altref.ensures;
    } in
    inter_row_served format film r.0 r.1 of rows by r.2 r.3 (c.shape.ensures ∙ ap shape_of r.3.header) r.4 all

pub put_strip-requires-clause-above : goal.put_strip-requires-clause-above
put_strip-requires-clause-above g c =
    let r = c.requires.row in
    let of = c.args.of.now in
    let format = g.B.DecodeRun.format in
    let film = g.B.DecodeRun.film in
    let rows = c.args.rows.now in
    let by : Rebuilding RowSpan = record { shape = c.shape.result; last = c.picture.result; golden = c.picture-2.result; altref = c.picture-3.result } in
    let all : ArePictures rows by = record {
      last = is_by rows.last c.filtered-last.result c.picture.result c.picture.ensures c.filtered-last.ensures;
      golden = is_by rows.golden c.filtered-golden.result c.picture-2.result c.picture-2.ensures c.filtered-golden.ensures;
      altref = is_by rows.altref c.filtered-altref.result c.picture-3.result c.picture-3.ensures c.filtered-altref.ensures;
    } in
    is_above r.1 of (rebuilding_of (map_in (pictures format film)) by) (option_copied c.args.above) r.3 (inter_named format film r.0 r.1 of rows by r.2 r.3 c.shape.ensures r.4 all) r.5

pub returns : goal.returns
returns g c =
    let r = c.requires.row in
    let of = c.args.of.now in
    let format = g.B.DecodeRun.format in
    let film = g.B.DecodeRun.film in
    let rows = c.args.rows.now in
    let by : Rebuilding RowSpan = record { shape = c.shape.result; last = c.picture.result; golden = c.picture-2.result; altref = c.picture-3.result } in
    let all : ArePictures rows by = record {
      last = is_by rows.last c.filtered-last.result c.picture.result c.picture.ensures c.filtered-last.ensures;
      golden = is_by rows.golden c.filtered-golden.result c.picture-2.result c.picture-2.ensures c.filtered-golden.ensures;
      altref = is_by rows.altref c.filtered-altref.result c.picture-3.result c.picture-3.ensures c.filtered-altref.ensures;
    } in
    if_ok c.put_strip.result (HoldsRowOf (rebuilding_of (map_in (pictures format film)) by) of.plan.now of.row)
    (λ planes. (f : ℕ) (d : CodedFrame) → coded format film f ≡ Some d → IsPlannedRow d of → ReadsRows format film f d of rows → IsStripAs d of.column of.row planes)
    (λ planes holds. λ f d is planned reads. strip_is d of (rebuilding_of (map_in (pictures format film)) by) planes planned (inter_named format film f d of rows by is planned c.shape.ensures reads all) holds) c.put_strip.ensures
