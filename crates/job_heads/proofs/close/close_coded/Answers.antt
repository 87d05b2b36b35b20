use Rattle.std.proofs.Common.{◌∙◌, ap, sym}
use Rattle.vp9_types.specs.Shapes.{mi_rows}
use Rattle.vp9_types.specs.Sizes.{superblocks_along}
use Rattle.job_heads.proofs.ClosedFrames.{coded_closes, coded_ends, coded_unfit}
use Rattle.job_heads.proofs.close.close_coded.Goals as goal

pub returns-in-Err : goal.returns-in-Err
returns-in-Err g c =
    rw c.halt_outcome.ensures (coded_ends g.B.DecodeRun.format g.B.DecodeRun.film c.args.number c.args.frame.now c.in-Err.halt c.requires.begun c.in-Err.ensures)

pub returns-then-not-admits : goal.returns-then-not-admits
returns-then-not-admits g c =
    rw c.outcome_at.ensures
    (coded_unfit g.B.DecodeRun.format g.B.DecodeRun.film c.args.number c.args.frame.now c.args.before.now c.in-Ok.decoded c.shown_of-shown.result c.requires.begun c.requires.kept c.in-Ok.ensures
    c.shown_of-shown.ensures (sym c.admits.ensures ∙ c.if-not-admits.true))

pub row_reads-requires : goal.row_reads-requires
row_reads-requires g c = record { sound = c.requires.begun.2.sound; frame = c.requires.frame; read = (c.in-Ok.ensures.0, c.in-Ok.ensures.1) }

pub returns-in-Ok-keep : goal.returns-in-Ok-keep
returns-in-Ok-keep g c =
    coded_closes g.B.DecodeRun.format g.B.DecodeRun.film c.args.number c.columns.result c.superblock_rows.result c.in-Ok-row_reads.reads c.args.frame.now c.args.before.now c.in-Ok-keep.kept c.in-Ok.decoded c.shown_of-shown.result
    c.closing.result c.requires.begun c.requires.kept c.in-Ok.ensures c.shown_of-shown.ensures (sym c.admits.ensures ∙ c.if-not-admits.false) c.in-Ok-keep.ensures.stands c.in-Ok-keep.ensures.form
    c.in-Ok-keep.ensures.may c.columns.ensures (c.superblock_rows.ensures ∙ ap (λ s. superblocks_along (mi_rows s)) c.shape.ensures) c.in-Ok-row_reads.ensures c.closing.ensures
