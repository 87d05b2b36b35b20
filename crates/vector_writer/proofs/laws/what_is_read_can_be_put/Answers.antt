use Rattle.vector_writer.proofs.Readings.{difference_yields}
use Rattle.vector_writer.proofs.SayableBlocks.{inter_yields}
use Rattle.vector_writer.proofs.laws.what_is_read_can_be_put.Goals as goal

pub returns-clause-difference : goal.returns-clause-difference
returns-clause-difference c = difference_yields

pub returns-clause-block : goal.returns-clause-block
returns-clause-block c = inter_yields
