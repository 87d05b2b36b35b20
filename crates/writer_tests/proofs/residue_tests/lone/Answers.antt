use Rattle.residue_writer.proofs.Lone.{four_can, kept_small}
use Rattle.writer_tests.proofs.residue_tests.lone.Goals as goal

pub returns : goal.returns
returns c = λ t size start.
    four_can t _ _ _ _ c.count_of.result c.count_of-2.result c.count_of-3.result c.count_of-4.result size start
    (kept_small c.coded_level-first.result c.coded_level-first.ensures) (kept_small c.coded_level-second.result c.coded_level-second.ensures)
    (kept_small c.coded_level-third.result c.coded_level-third.ensures) (kept_small c.coded_level-fourth.result c.coded_level-fourth.ensures)
    c.count_of.ensures c.count_of-2.ensures c.count_of-3.ensures c.count_of-4.ensures
