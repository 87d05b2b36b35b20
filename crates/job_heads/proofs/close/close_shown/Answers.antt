use Rattle.std.proofs.Common.{◌∙◌, sym}
use Rattle.job_heads.proofs.ClosedFrames.{slot_closes, slot_unfit}
use Rattle.job_heads.proofs.close.close_shown.Goals as goal

pub returns-then-not-admits : goal.returns-then-not-admits
returns-then-not-admits g c =
    rw c.outcome_at.ensures
    (slot_unfit g.B.DecodeRun.format g.B.DecodeRun.film c.args.number c.args.slot c.args.before.now c.shown_in-shown.result c.requires.kept c.requires.shows c.shown_in-shown.ensures
    (sym c.admits.ensures ∙ c.if-not-admits.true))

pub returns-in-Ok : goal.returns-in-Ok
returns-in-Ok g c =
    slot_closes g.B.DecodeRun.format g.B.DecodeRun.film c.args.number c.args.slot c.args.before.now c.in-Ok.kept c.none.result c.shown_in-shown.result c.closing.result c.requires.kept c.requires.shows c.shown_in-shown.ensures
    (sym c.admits.ensures ∙ c.if-not-admits.false) c.in-Ok.ensures.stands c.in-Ok.ensures.form c.in-Ok.ensures.may c.closing.ensures
