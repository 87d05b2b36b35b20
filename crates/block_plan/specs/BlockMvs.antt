-- The vectors of a block (6.4.16 of the standard, inter_block_mode_info: BlockMvs), and Clip3 for their components.
use Rattle.std.specs.Prelude.{ℕ, ℤ, pos, List, [], slice_index_or, int_lt, if◌then◌else◌}
use Rattle.block_plan.specs.declared.block.InterPrediction.{InterPrediction}
use Rattle.block_plan.specs.declared.block.Mv.{Mv}

abbrev pub no_vector : Mv
no_vector = record { row = pos 0; column = pos 0 }

-- the k-th of a list, or 0
abbrev pub vector_at : List Mv → ℕ → Mv
vector_at vs k = slice_index_or vs k no_vector

-- BlockMvs[list][quarter]: the vector of a quarter of an 8x8 square by the first reference (0) or by the second (1). A block from
-- 8x8 on has the same in all quarters
abbrev pub vector_of : InterPrediction → ℕ → ℕ → Mv
vector_of p quarter list = vector_at (slice_index_or p.vectors quarter []) list

-- Clip3. The bounds of a block that reaches far out of its frame may stand in the other order: then it is the low one, where
-- x is below that
abbrev pub clip3 : ℤ → ℤ → ℤ → ℤ
clip3 low high x = if int_lt x low then low else (if int_lt high x then high else x)
