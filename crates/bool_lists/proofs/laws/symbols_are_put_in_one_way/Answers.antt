use Rattle.bool_lists.proofs.Ways.{bytes_are, difference_way, flag_way, literal_way, tree_way}
use Rattle.bool_lists.proofs.laws.symbols_are_put_in_one_way.Goals as goal

pub returns-clause-flag : goal.returns-clause-flag
returns-clause-flag c = flag_way

pub returns-clause-literal : goal.returns-clause-literal
returns-clause-literal c = literal_way

pub returns-clause-difference : goal.returns-clause-difference
returns-clause-difference c = difference_way

pub returns-clause-tree : goal.returns-clause-tree
returns-clause-tree c = tree_way

pub returns-clause-bytes : goal.returns-clause-bytes
returns-clause-bytes c = bytes_are
