use Rattle.std.proofs.Common.{◌≤◌, arith, get_or}
use Rattle.std.proofs.lemmas.List.{map-id}
use Rattle.tap_filter.proofs.kept.U16FilterSample.filter_down.Goals as goal

pub filter_run-requires-clause-small : goal.filter_run-requires-clause-small
filter_run-requires-clause-small c = λ k. let small : get_or c.args.samples.now k 0 ≤ c.args.most = rw (map-id c.args.samples.now) at (c.requires.small k) in omega (arith, small, c.requires.most)

pub returns-clause-value : goal.returns-clause-value
returns-clause-value c = λ j low. rw (map-id c.filter_run.new.out, map-id c.args.samples.now) (c.filter_run.ensures.value j low)
