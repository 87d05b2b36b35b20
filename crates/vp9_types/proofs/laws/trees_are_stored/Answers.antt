use Rattle.vp9_types.proofs.StoredTrees.{tree_stored, tree_once}
use Rattle.vp9_types.proofs.laws.trees_are_stored.Goals as goal

pub returns-clause-stored : goal.returns-clause-stored
returns-clause-stored c = tree_stored

pub returns-clause-once : goal.returns-clause-once
returns-clause-once c = tree_once
