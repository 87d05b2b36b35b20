use Rattle.std.proofs.Common.{◌∙◌, ap}
use Rattle.frame_state.specs.Laws.{least_verdict}
use Rattle.frame_close.specs.Code.{broken_by, lent, result_at, sum_of}
use Rattle.frame_close.proofs.Joined.{broken_is, read_is, whole_by}
use Rattle.frame_close.proofs.Lent.{lent_many}
use Rattle.frame_close.proofs.closing.close.Goals as goal

pub returns-in-Some-clause-frame : goal.returns-in-Some-clause-frame
returns-in-Some-clause-frame c = λ counting by bytes compressed spans tested are.
    let columns = lent c.args.columns.now in
    broken_is counting by bytes compressed spans columns c.in-Some.field-0-0 c.in-Some.rule (whole_by columns c.if-wants_memory.ensures.1)
    (c.in-Some.ensures ∙ ap (least_verdict (λ k. broken_by (result_at columns k))) (lent_many c.args.columns.now)) tested are

pub returns-in-Some-clause-broken : goal.returns-in-Some-clause-broken
returns-in-Some-clause-broken c = λ rule same. (c.in-Some.field-0-0, cc)

pub returns-in-None-clause-frame : goal.returns-in-None-clause-frame
returns-in-None-clause-frame c = λ counting by bytes compressed spans tested are.
    let columns = lent c.args.columns.now in
    read_is counting by bytes compressed spans columns c.add_all.result (whole_by columns c.if-wants_memory.ensures.1)
    (c.in-None.ensures ∙ ap (least_verdict (λ k. broken_by (result_at columns k))) (lent_many c.args.columns.now))
    (c.add_all.ensures ∙ ap (sum_of (result_at columns)) (lent_many c.args.columns.now)) tested are
