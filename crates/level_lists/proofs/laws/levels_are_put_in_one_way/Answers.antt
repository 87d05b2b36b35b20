use Rattle.level_lists.proofs.PlaceWays.{kinds_way, levels_way}
use Rattle.level_lists.proofs.laws.levels_are_put_in_one_way.Goals as goal

pub returns-clause-distinct : goal.returns-clause-distinct
returns-clause-distinct c = levels_way

pub returns-clause-kinds : goal.returns-clause-kinds
returns-clause-kinds c = kinds_way
