-- The probabilities of vectors (6.3.16 of the standard), component by component: number 0 is the row's, 1 the column's.
use Rattle.std.specs.Prelude.{ℕ, ◌*◌, Bool, true, false}
use Rattle.vp9_types.specs.Syntax.{done, ◌>>=◌}
use Rattle.vp9_types.specs.Each.{each}
use Rattle.compressed_header.specs.Updates.{UpdateTable, update_mv_prob, mv_updates}
use Rattle.prob_contexts.specs.ProbLists.{VectorLists}

unfoldable pub joint_probs : VectorLists → UpdateTable VectorLists
joint_probs old = do
  joints ← each update_mv_prob old.joints
  done (record old { joints = joints })

-- sign, classes, class0 and bits of a component
unfoldable pub component_probs : ℕ → VectorLists → UpdateTable VectorLists
component_probs i old = do
  signs ← mv_updates i 1 old.signs
  classes ← mv_updates (10 * i) 10 old.classes
  class0 ← mv_updates i 1 old.class0
  bits ← mv_updates (10 * i) 10 old.bits
  done (record old { signs = signs; classes = classes; class0 = class0; bits = bits })

unfoldable pub fraction_probs : ℕ → VectorLists → UpdateTable VectorLists
fraction_probs i old = do
  class0_fractions ← mv_updates (6 * i) 6 old.class0_fractions
  fractions ← mv_updates (3 * i) 3 old.fractions
  done (record old { class0_fractions = class0_fractions; fractions = fractions })

unfoldable pub high_precision_probs : ℕ → VectorLists → UpdateTable VectorLists
high_precision_probs i old = do
  class0_high ← mv_updates i 1 old.class0_high
  high ← mv_updates i 1 old.high
  done (record old { class0_high = class0_high; high = high })

-- the last bit of vectors, where the frame has it
unfoldable pub precise_probs : Bool → VectorLists → UpdateTable VectorLists
precise_probs true old = high_precision_probs 0 old >>= high_precision_probs 1
precise_probs false old = done old

unfoldable pub mv_probs : Bool → VectorLists → UpdateTable VectorLists
mv_probs precise old = do
  joints ← joint_probs old
  row ← component_probs 0 joints
  column ← component_probs 1 row
  row_fractions ← fraction_probs 0 column
  column_fractions ← fraction_probs 1 row_fractions
  precise_probs precise column_fractions
