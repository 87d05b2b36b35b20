-- Differences of new vectors, as they are drawn (6.4.19 and 6.4.20 of the standard: read_mv, read_mv_component).
use Rattle.std.specs.Prelude.{ℕ, zero, suc, ◌+◌, ◌*◌, ◌^◌, ℤ, pos, Bool, true, false, ◌||◌, nat_eq, nat_le, if◌then◌else◌}
use Rattle.vp9_tables.specs.Numbers.{flag_number}
use Rattle.vp9_tables.specs.SymbolTrees.{mv_fr_tree, mv_joint_tree}
use Rattle.block_plan.specs.declared.block.Mv.{Mv}
use Rattle.mv_syntax.specs.Components.{eighths, signed}
use Rattle.drawn_symbols.specs.Draws.{Drawn, stay, ◌>>=◌, draw, draw_flag, draw_leaf}

-- the bit of high precision, which is 1 where it isn't coded
unfoldable pub draw_high : Bool → Drawn Bool
draw_high true = draw_flag
draw_high false = stay true

-- n bits, the lowest first
unfoldable pub draw_bits : ℕ → Drawn ℕ
draw_bits zero = stay 0
draw_bits (suc n) = do
  one ← draw_flag
  rest ← draw_bits n
  stay (flag_number one + 2 * rest)

-- above the least size of its class: whole samples, quarters and the bit of high precision
unfoldable pub draw_eighths : Bool → Drawn ℕ → Drawn ℕ
draw_eighths precise draw_whole = do
  whole ← draw_whole
  fraction ← draw_leaf mv_fr_tree
  high ← draw_high precise
  stay (eighths whole fraction high)

-- class 0 has a bit of whole samples, class n from 1 on n bits above the 2 ^ n of its class
unfoldable pub draw_size : Bool → ℕ → Drawn ℕ
draw_size precise zero = draw_eighths precise (draw_bits 1)
draw_size precise (suc n) = draw_eighths precise (draw_bits (suc n)) >>= λ size. stay (8 * 2 ^ suc n + size)

-- classes are 0 to 2
unfoldable pub draw_component : Bool → Drawn ℤ
draw_component precise = do
  sign ← draw_flag
  n ← draw 3
  size ← draw_size precise n
  stay (signed sign size)

unfoldable pub draw_component_if : Bool → Bool → Drawn ℤ
draw_component_if coded precise = if coded then draw_component precise else stay (pos 0)

-- joints: 0 for none, 1 for the column alone, 2 for the row alone, 3 for both; the row's component comes first
unfoldable pub draw_difference : Bool → Drawn Mv
draw_difference precise = do
  joint ← draw_leaf mv_joint_tree
  row ← draw_component_if (nat_le 2 joint) precise
  column ← draw_component_if (nat_eq joint 1 || nat_eq joint 3) precise
  stay (record { row = row; column = column })
