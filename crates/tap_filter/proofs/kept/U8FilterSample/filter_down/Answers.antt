use Rattle.std.proofs.lemmas.List.{map-id}
use Rattle.tap_filter.proofs.kept.U8FilterSample.filter_down.Goals as goal

pub returns-clause-value : goal.returns-clause-value
returns-clause-value c = λ j low. rw (map-id c.filter_byte_run.new.out, map-id c.args.samples.now, c.requires.most) (c.filter_byte_run.ensures.value j low)
