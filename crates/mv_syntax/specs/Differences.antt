-- A vector's difference from the best one, and the vector (6.4.18 and 6.4.19 of the standard: assign_mv, read_mv).
use Rattle.std.specs.Prelude.{ℕ, ℤ, pos, ◌+ℤ◌, Bool, ◌&&◌, ◌||◌, Result, Ok, Err, unsigned_abs, nat_eq, nat_le, nat_lt, if◌then◌else◌}
use Rattle.vp9_types.specs.Syntax.{Syntax}
use Rattle.vp9_types.specs.declared.rule.Rule.{Rule}
use Rattle.vp9_types.specs.declared.rule.Rule.TheVariants.{MvRange}
use Rattle.vp9_tables.specs.SymbolTrees.{mv_joint_tree}
use Rattle.vp9_tables.specs.declared.kinds.Component.{Component}
use Rattle.vp9_tables.specs.declared.kinds.Component.TheVariants.{Row, Column}
use Rattle.prob_contexts.specs.ProbLists.{VectorLists}
use Rattle.prob_contexts.specs.declared.kind.ProbKind.TheVariants as kind
use Rattle.block_plan.specs.declared.block.Mv.{Mv}
use Rattle.counting_reader.specs.Counting.{Settled, settle, ◌>>=◌}
use Rattle.counting_reader.specs.CountedSymbols.{counted_tree}
use Rattle.mv_prediction.specs.Vectors.{is_short_vector}
use Rattle.mv_syntax.specs.Components.{read_mv_component}

-- a component is coded, or is 0
unfoldable pub component_if : Bool → VectorLists → Component → Bool → Syntax ℕ Rule (Settled ℤ)
component_if coded lists component precise = if coded then read_mv_component lists component precise else settle (pos 0)

-- joints: 0 for none, 1 for the column alone, 2 for the row alone, 3 for both; the row's component comes first
unfoldable pub read_mv : VectorLists → Bool → Syntax ℕ Rule (Settled Mv)
read_mv lists precise = do
  joint ← counted_tree kind.VectorJoint 0 mv_joint_tree lists.joints
  row ← component_if (nat_le 2 joint) lists Row precise
  column ← component_if (nat_eq joint 1 || nat_eq joint 3) lists Column precise
  settle (record { row = row; column = column })

abbrev pub added : Mv → Mv → Mv
added a b = record { row = a.row +ℤ b.row; column = a.column +ℤ b.column }

-- each component lies between -16384 and 16384
abbrev pub is_in_range : Mv → Bool
is_in_range v = nat_lt (unsigned_abs v.row) 16384 && nat_lt (unsigned_abs v.column) 16384

abbrev pub in_range_or_rule : Mv → Result Mv Rule
in_range_or_rule v = if is_in_range v then Ok v else Err MvRange

-- The vector of the mode new, or the rule that it breaks: the difference is added to the best one, by which it is told
-- whether bits of high precision are read.
unfoldable pub new_vector : VectorLists → Bool → Mv → Syntax ℕ Rule (Settled (Result Mv Rule))
new_vector lists allowed best = do
  difference ← read_mv lists (allowed && is_short_vector best)
  settle (in_range_or_rule (added best difference))
