use Rattle.std.proofs.Common.{refl, arith}
use Rattle.webm_container.specs.Walk.{webm_packets}
use Rattle.webm_container.specs.Code.{blocks_ahead}
use Rattle.webm_container.proofs.cursor.WebmCursor.new.Goals as goal

pub returns-clause-all : goal.returns-clause-all
unfolding webm_packets blocks_ahead
returns-clause-all c = λ bytes. refl

pub returns-clause-fits : goal.returns-clause-fits
returns-clause-fits c = λ long. record { here = omega arith; inner = omega arith; outer = omega arith; inside = omega arith }
