use Rattle.std.proofs.Common.{◌∙◌, sym}
use Rattle.job_crew.proofs.Written.{one_more, front_more}
use Rattle.job_crew.proofs.crew.Crew.do_write.Goals as goal

pub new-requires-clause-taken : goal.new-requires-clause-taken
new-requires-clause-taken g c =
    one_more g.M.Start.taken (g.K.Output.taken c.in-Some-take_outlet.output) (g.K.Output.taken c.write-value.new.output) g.M.Meaning.truth.text c.args.frame c.in-Some.next
    (g.M.Meaning.rules.fails c.write-value.result) c.in-Some.ensures.1 (sym c.is_refused.ensures ∙ c.if-not-is_refused.true) c.in-Some-take_outlet.ensures.taken c.write-value.ensures.put

pub end-requires-clause-ended : goal.end-requires-clause-ended
end-requires-clause-ended g c =
    let fails = sym c.is_refused.ensures ∙ c.if-not-is_refused.false in (
      c.requires.due,
      c.write-value.ensures.right,
      fails,
      c.write-value.ensures.refused fails,
      front_more g.M.Start.taken (g.K.Output.taken c.in-Some-take_outlet.output) (g.K.Output.taken c.write-value.new.output) g.M.Meaning.truth.text c.args.frame
          (g.M.Meaning.rules.fails c.write-value.result) fails c.in-Some-take_outlet.ensures.taken c.write-value.ensures.put,
    )
