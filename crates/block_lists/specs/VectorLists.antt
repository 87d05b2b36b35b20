-- What vectors are put as (6.4.18 to 6.4.20 of the standard), by the best vector before them.
use Rattle.std.specs.Prelude.{ℕ, zero, suc, ◌+◌, ◌-◌, ◌*◌, ◌/◌, ◌%◌, ◌^◌, ℤ, pos, ◌-ℤ◌, int_lt, unsigned_abs, Bool, ◌&&◌, ◌||◌, [], ◌++◌, drop, slice_index, nat_eq, nat_le, nat_lt, if◌then◌else◌}
use Rattle.std.specs.Ordering.{int_eq}
use Rattle.vp9_tables.specs.Numbers.{component_number}
use Rattle.vp9_tables.specs.SymbolTrees.{mv_class_tree, mv_fr_tree, mv_joint_tree}
use Rattle.vp9_tables.specs.declared.kinds.Component.{Component}
use Rattle.vp9_tables.specs.declared.kinds.Component.TheVariants.{Row, Column}
use Rattle.bool_lists.specs.BoolLists.{BoolList, one_bool, tree_bools}
use Rattle.prob_contexts.specs.ProbLists.{VectorLists}
use Rattle.block_plan.specs.declared.block.Mv.{Mv}
use Rattle.mv_prediction.specs.Vectors.{is_short_vector}

-- of the size of a component, which is 1 at least: the whole samples, their quarters, and the bit of high precision
abbrev pub whole_of : ℕ → ℕ
whole_of size = (size - 1) / 8

abbrev pub fraction_of : ℕ → ℕ
fraction_of size = (size - 1) / 2 % 4

abbrev pub high_of : ℕ → Bool
high_of size = nat_eq ((size - 1) % 2) 1

-- the class of so many whole samples: how often they halve until they are less than two
unfoldable pub halvings : ℕ → ℕ → ℕ
halvings zero whole = 0
halvings (suc most) whole = if nat_lt whole 2 then 0 else suc (halvings most (whole / 2))

abbrev pub vector_class : ℕ → ℕ
vector_class size = halvings 10 (whole_of size)

-- where it is read
unfoldable pub spelled_high : Bool → ℕ → Bool → BoolList
spelled_high precise p high = if precise then one_bool p high else []

-- n bits from the i-th on, the lowest first
unfoldable pub spelled_bits : VectorLists → ℕ → ℕ → ℕ → ℕ → BoolList
spelled_bits lists c i zero bits = []
spelled_bits lists c i (suc n) bits = one_bool (slice_index lists.bits (10 * c + i)) (nat_eq (bits % 2) 1) ++ spelled_bits lists c (i + 1) n (bits / 2)

-- a component of class 0, and one of class n from 1 on
unfoldable pub spelled_small : VectorLists → ℕ → Bool → ℕ → BoolList
spelled_small lists c precise size =
    one_bool (slice_index lists.class0 c) (nat_eq (whole_of size) 1)
    ++ tree_bools mv_fr_tree (drop (6 * c + 3 * whole_of size) lists.class0_fractions) (fraction_of size)
    ++ spelled_high precise (slice_index lists.class0_high c) (high_of size)

unfoldable pub spelled_large : VectorLists → ℕ → Bool → ℕ → ℕ → BoolList
spelled_large lists c precise n size =
    spelled_bits lists c 0 n (whole_of size - 2 ^ n) ++ tree_bools mv_fr_tree (drop (3 * c) lists.fractions) (fraction_of size)
    ++ spelled_high precise (slice_index lists.high c) (high_of size)

unfoldable pub spelled_magnitude : VectorLists → ℕ → Bool → ℕ → ℕ → BoolList
spelled_magnitude lists c precise n size = if nat_eq n 0 then spelled_small lists c precise size else spelled_large lists c precise n size

-- 6.4.20
unfoldable pub spelled_component : VectorLists → Component → Bool → ℤ → BoolList
spelled_component lists component precise z =
    one_bool (slice_index lists.signs (component_number component)) (int_lt z (pos 0))
    ++ tree_bools mv_class_tree (drop (10 * component_number component) lists.classes) (vector_class (unsigned_abs z))
    ++ spelled_magnitude lists (component_number component) precise (vector_class (unsigned_abs z)) (unsigned_abs z)

unfoldable pub spelled_component_if : Bool → VectorLists → Component → Bool → ℤ → BoolList
spelled_component_if coded lists component precise z = if coded then spelled_component lists component precise z else []

-- 0 for none, 1 for the column alone, 2 for the row alone, 3 for both
unfoldable pub joint_of : Mv → ℕ
joint_of v =
    if int_eq v.row (pos 0) then (if int_eq v.column (pos 0) then 0 else 1) else (if int_eq v.column (pos 0) then 2 else 3)

-- 6.4.19: the row's component comes first
unfoldable pub spelled_difference : VectorLists → Bool → Mv → BoolList
spelled_difference lists precise v =
    tree_bools mv_joint_tree lists.joints (joint_of v) ++ spelled_component_if (nat_le 2 (joint_of v)) lists Row precise v.row
    ++ spelled_component_if (nat_eq (joint_of v) 1 || nat_eq (joint_of v) 3) lists Column precise v.column

-- a new vector: its difference from the best one, by which it is told whether bits of high precision are read
unfoldable pub spelled_new : VectorLists → Bool → Mv → Mv → BoolList
spelled_new lists allowed best v =
    spelled_difference lists (allowed && is_short_vector best) (record { row = v.row -ℤ best.row; column = v.column -ℤ best.column })
