use Rattle.column_plan.proofs.Held.{infos_are, parts_are, one_more_planned, all_are}
use Rattle.column_plan.proofs.laws.plans_stand_for_their_blocks.Goals as goal

pub returns-clause-infos : goal.returns-clause-infos
returns-clause-infos c = infos_are

pub returns-clause-parts : goal.returns-clause-parts
returns-clause-parts c = parts_are

pub returns-clause-one_more : goal.returns-clause-one_more
returns-clause-one_more c = one_more_planned

pub returns-clause-all : goal.returns-clause-all
returns-clause-all c = all_are
