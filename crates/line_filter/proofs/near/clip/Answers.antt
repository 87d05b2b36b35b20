use Rattle.std.proofs.Common.{arith}
use Rattle.std.proofs.lemmas.Int.{ints, clamps}
use Rattle.line_filter.specs.Lines as L
use Rattle.line_filter.specs.Lines.{outer, change, moved_sample}
use Rattle.line_filter.proofs.near.clip.Goals as goal

pub returns-clause-value : goal.returns-clause-value
unfolding L.filter4_clamp
returns-clause-value c = omega (arith, ints, clamps, c.max.ensures.value, c.min.ensures.value)
