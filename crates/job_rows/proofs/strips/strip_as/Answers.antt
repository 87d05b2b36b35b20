use Rattle.std.proofs.Common.{◌≡◌, ◌∙◌, ℕ, refl, ap, subst}
use Rattle.std.specs.Option.{option_copied}
use Rattle.std.specs.Prelude.{Some}
use Rattle.band_needs.specs.declared.ranges.BandNeeds.{BandNeeds}
use Rattle.frame_headers.specs.declared.header.FrameKind.TheVariants.{Inter}
use Rattle.job_results.specs.frame_steps.StepResults.{row_needs_of}
use Rattle.job_results.specs.numbered_frames.Coded.{CodedFrame, coded}
use Rattle.job_results.specs.JobResults.{IsStripAs}
use Rattle.job_rows.specs.LentRows.{OfFrame}
use Rattle.job_rows.specs.LentStrips.{AreAllRows, IsPlannedRow, ReadsRows, RefersToNone}
use Rattle.job_results.proofs.CodedFrames.{same_coded}
use Rattle.job_rows.proofs.DueRows.{if_ok, of_frame}
use Rattle.job_rows.proofs.NamedFrames.{names_begun}
use Rattle.job_rows.proofs.StripSteps.{kind_of, needs_of_row, none_of, over_by, planned_row, row_inside, strip_by}
use Rattle.job_rows.proofs.strips.strip_as.Goals as goal

pub all_rows-requires : goal.all_rows-requires
all_rows-requires g c κs =
    let at = c.requires.row.has in
    let format = g.B.DecodeRun.format in
    let film = g.B.DecodeRun.film in
    let of = c.planned_row-of.result in
    let by = c.planned_row-of.ensures in
    let plan = c.in_ok-planned.ensures at.frame at.is in
    let row : IsPlannedRow at.frame of =
    planned_row format film c.args.frame c.args.k c.args.row at.frame c.begun-begun.result.now c.in_ok-planned.planned.now of c.requires.row at.is c.begun-begun.ensures plan by.setting by.column by.row by.plan in
    let names = names_begun format film c.args.frame c.begun-begun.result.now c.in-Inter.fields c.begun-begun.ensures c.in-Inter.is in
    let kind : at.frame.header.kind ≡ Inter c.in-Inter.fields = ap (λ (d : CodedFrame). d.header.kind) (same_coded (coded format film c.args.frame) at.frame names.0 at.is names.1) ∙ names.2 in
    let needs : c.index-needs.result.now ≡ row_needs_of at.frame.header of.row of.plan.now.column.grid.blocks =
    needs_of_row at.frame c.in_ok-planned.planned.now of c.args.k c.args.row c.index-needs.result.now plan at.inside by.row by.plan c.index-needs.ensures in
    ((refl, (refl, tt)), (names, (c.requires.keeps, row_inside at.frame of c.in-Inter.fields c.index-needs.result.now row kind needs)))

pub inter_strip-requires-clause-row : goal.inter_strip-requires-clause-row
inter_strip-requires-clause-row g c =
    let at = c.requires.row.has in
    let format = g.B.DecodeRun.format in
    let film = g.B.DecodeRun.film in
    let of = c.planned_row-of.result in
    let by = c.planned_row-of.ensures in
    let plan = c.in_ok-planned.ensures at.frame at.is in
    let row : IsPlannedRow at.frame of =
    planned_row format film c.args.frame c.args.k c.args.row at.frame c.begun-begun.result.now c.in_ok-planned.planned.now of c.requires.row at.is c.begun-begun.ensures plan by.setting by.column by.row by.plan in
    let names = names_begun format film c.args.frame c.begun-begun.result.now c.in-Inter.fields c.begun-begun.ensures c.in-Inter.is in
    let kind : at.frame.header.kind ≡ Inter c.in-Inter.fields = ap (λ (d : CodedFrame). d.header.kind) (same_coded (coded format film c.args.frame) at.frame names.0 at.is names.1) ∙ names.2 in
    let needs : c.index-needs.result.now ≡ row_needs_of at.frame.header of.row of.plan.now.column.grid.blocks =
    needs_of_row at.frame c.in_ok-planned.planned.now of c.args.k c.args.row c.index-needs.result.now plan at.inside by.row by.plan c.index-needs.ensures in
    let rows = subst (λ (n : BandNeeds). AreAllRows format film c.args.frame c.in-Inter.fields n c.in_ok-rows-in-Inter.rows) needs c.in_ok-rows-in-Inter.ensures in
    (c.args.frame, at.frame, at.is, row, record { fields = c.in-Inter.fields; kind = kind; read = rows }, over_by at.frame of c.args.k c.args.row (option_copied c.in_ok-above.above) by.column by.row (c.in_ok-above.ensures at.frame at.is))

pub returns-in_ok-rows-in-Inter : goal.returns-in_ok-rows-in-Inter
returns-in_ok-rows-in-Inter g c =
    let at = c.requires.row.has in
    let format = g.B.DecodeRun.format in
    let film = g.B.DecodeRun.film in
    let of = c.planned_row-of.result in
    let by = c.planned_row-of.ensures in
    let plan = c.in_ok-planned.ensures at.frame at.is in
    let row : IsPlannedRow at.frame of =
    planned_row format film c.args.frame c.args.k c.args.row at.frame c.begun-begun.result.now c.in_ok-planned.planned.now of c.requires.row at.is c.begun-begun.ensures plan by.setting by.column by.row by.plan in
    let names = names_begun format film c.args.frame c.begun-begun.result.now c.in-Inter.fields c.begun-begun.ensures c.in-Inter.is in
    let kind : at.frame.header.kind ≡ Inter c.in-Inter.fields = ap (λ (d : CodedFrame). d.header.kind) (same_coded (coded format film c.args.frame) at.frame names.0 at.is names.1) ∙ names.2 in
    let needs : c.index-needs.result.now ≡ row_needs_of at.frame.header of.row of.plan.now.column.grid.blocks =
    needs_of_row at.frame c.in_ok-planned.planned.now of c.args.k c.args.row c.index-needs.result.now plan at.inside by.row by.plan c.index-needs.ensures in
    let rows = subst (λ (n : BandNeeds). AreAllRows format film c.args.frame c.in-Inter.fields n c.in_ok-rows-in-Inter.rows) needs c.in_ok-rows-in-Inter.ensures in
    if_ok c.inter_strip.result (λ planes. (f : ℕ) (d : CodedFrame) → coded format film f ≡ Some d → IsPlannedRow d of → ReadsRows format film f d of c.in_ok-rows-in-Inter.rows → IsStripAs d of.column of.row planes)
    (λ planes. OfFrame format film c.args.frame (λ d. IsStripAs d c.args.k c.args.row planes))
    (λ planes holds. of_frame (λ d. IsStripAs d c.args.k c.args.row planes) format film c.args.frame at.frame at.is
    (strip_by at.frame of c.args.k c.args.row planes by.column by.row (holds c.args.frame at.frame at.is row (record { fields = c.in-Inter.fields; kind = kind; read = rows })))) c.inter_strip.ensures

pub returns-in-Key : goal.returns-in-Key
returns-in-Key g c =
    let at = c.requires.row.has in
    let format = g.B.DecodeRun.format in
    let film = g.B.DecodeRun.film in
    let of = c.planned_row-of.result in
    let by = c.planned_row-of.ensures in
    let plan = c.in_ok-planned.ensures at.frame at.is in
    let row : IsPlannedRow at.frame of =
    planned_row format film c.args.frame c.args.k c.args.row at.frame c.begun-begun.result.now c.in_ok-planned.planned.now of c.requires.row at.is c.begun-begun.ensures plan by.setting by.column by.row by.plan in
    let none : RefersToNone at.frame.header.kind = none_of at.frame.header.kind c.begun-begun.result.now.setting.header.kind (kind_of format film c.args.frame at.frame c.begun-begun.result.now at.is c.begun-begun.ensures) c.in-Key.is in
    if_ok c.intra_strip.result (λ planes. (d : CodedFrame) → IsPlannedRow d of → RefersToNone d.header.kind → IsStripAs d of.column of.row planes)
    (λ planes. OfFrame format film c.args.frame (λ d. IsStripAs d c.args.k c.args.row planes))
    (λ planes holds. of_frame (λ d. IsStripAs d c.args.k c.args.row planes) format film c.args.frame at.frame at.is
    (strip_by at.frame of c.args.k c.args.row planes by.column by.row (holds at.frame row none))) c.intra_strip.ensures
