use Rattle.listed_symbols.proofs.Cans.{quarters_can}
use Rattle.listed_symbols.proofs.vectors.can_say_quarters.Goals as goal

pub returns-clause-can : goal.returns-clause-can
returns-clause-can c = λ fourth.
    quarters_can c.args.best.now c.args.q.now
    (c.can_say_quarter.ensures.can c.if-not-can_say_quarter.false)
    (c.can_say_quarter-2.ensures.can c.if-not-can_say_quarter-2.false)
    (c.can_say_quarter-3.ensures.can c.if-not-can_say_quarter-3.false)
    (c.can_say_quarter-4.ensures.can fourth)
