-- The trees of symbols (9.3 of the standard), spelled out.
use Rattle.std.specs.Prelude.{ℕ, zero, suc, ◌+◌, ℤ, pos, negsuc, Bool, true, ◌&&◌, not, List, [], ◌∷◌, nat_eq}
use Rattle.std.specs.List.{list_any}
use Rattle.vp9_types.specs.Trees.{Tree, leaf, node}
use Rattle.vp9_types.specs.declared.block.IntraMode.TheVariants.{Dc, V, H, D45, D135, D117, D153, D207, D63, Tm}
use Rattle.vp9_types.specs.declared.block.InterMode.TheVariants.{Nearest, Near, Zero, New}
use Rattle.vp9_types.specs.declared.block.InterpFilter.TheVariants.{Regular, Smooth, Sharp}
use Rattle.vp9_types.specs.declared.block.Partition.TheVariants.{Whole, Horizontal, Vertical, Split}
use Rattle.vp9_types.specs.declared.block.TxSize.TheVariants.{T4x4, T8x8, T16x16, T32x32}
use Rattle.vp9_tables.specs.Numbers.{intra_number, inter_number, filter_number, partition_number, tx_number}

-- the symbols of an array's entries, in order
abbrev pub symbols : List ℤ → List ℕ
symbols [] = []
symbols (negsuc x ∷ es) = suc x ∷ symbols es
symbols (pos zero ∷ es) = 0 ∷ symbols es
symbols (pos (suc place) ∷ es) = symbols es

-- each stands once
abbrev pub differ : List ℕ → Bool
differ [] = true
differ (x ∷ xs) = not (list_any (nat_eq x) xs) && differ xs

abbrev pub partition_tree : Tree
partition_tree =
    node 0 (leaf (partition_number Whole))
    (node 1 (leaf (partition_number Horizontal))
    (node 2 (leaf (partition_number Vertical)) (leaf (partition_number Split))))

abbrev pub intra_mode_tree : Tree
intra_mode_tree =
    node 0 (leaf (intra_number Dc))
    (node 1 (leaf (intra_number Tm))
    (node 2 (leaf (intra_number V))
    (node 3
    (node 4 (leaf (intra_number H)) (node 5 (leaf (intra_number D135)) (leaf (intra_number D117))))
    (node 6 (leaf (intra_number D45))
    (node 7 (leaf (intra_number D63)) (node 8 (leaf (intra_number D153)) (leaf (intra_number D207))))))))

abbrev pub inter_mode_tree : Tree
inter_mode_tree =
    node 0 (leaf (inter_number Zero))
    (node 1 (leaf (inter_number Nearest))
    (node 2 (leaf (inter_number Near)) (leaf (inter_number New))))

abbrev pub filter_tree : Tree
filter_tree = node 0 (leaf (filter_number Regular)) (node 1 (leaf (filter_number Smooth)) (leaf (filter_number Sharp)))

abbrev pub segment_tree : Tree
segment_tree =
    node 0
    (node 1 (node 3 (leaf 0) (leaf 1)) (node 4 (leaf 2) (leaf 3)))
    (node 2 (node 5 (leaf 4) (leaf 5)) (node 6 (leaf 6) (leaf 7)))

-- none, the column alone, the row alone, both
abbrev pub mv_joint_tree : Tree
mv_joint_tree = node 0 (leaf 0) (node 1 (leaf 1) (node 2 (leaf 2) (leaf 3)))

abbrev pub mv_class_tree : Tree
mv_class_tree =
    node 0 (leaf 0)
    (node 1 (leaf 1)
    (node 2
    (node 3 (leaf 2) (leaf 3))
    (node 4
    (node 5 (leaf 4) (leaf 5))
    (node 6 (leaf 6)
    (node 7 (node 8 (leaf 7) (leaf 8)) (node 9 (leaf 9) (leaf 10)))))))

abbrev pub mv_class0_tree : Tree
mv_class0_tree = node 0 (leaf 0) (leaf 1)

abbrev pub mv_fr_tree : Tree
mv_fr_tree = node 0 (leaf 0) (node 1 (leaf 1) (node 2 (leaf 2) (leaf 3)))

-- two, three, four, and 5 to 10 for the categories; its nodes are numbered from k on
abbrev pub coef_tail_from : ℕ → Tree
coef_tail_from k =
    node k
    (node (k + 1) (leaf 2) (node (k + 2) (leaf 3) (leaf 4)))
    (node (k + 3)
    (node (k + 4) (leaf 5) (leaf 6))
    (node (k + 5) (node (k + 6) (leaf 7) (leaf 8)) (node (k + 7) (leaf 9) (leaf 10))))

-- the end of the block, zero, one, or the tail
abbrev pub coef_tree : Tree
coef_tree = node 0 (leaf 11) (node 1 (leaf 0) (node 2 (leaf 1) (coef_tail_from 3)))

-- one size after another, up to the greatest
abbrev pub tx8_tree : Tree
tx8_tree = node 0 (leaf (tx_number T4x4)) (leaf (tx_number T8x8))

abbrev pub tx16_tree : Tree
tx16_tree = node 0 (leaf (tx_number T4x4)) (node 1 (leaf (tx_number T8x8)) (leaf (tx_number T16x16)))

abbrev pub tx32_tree : Tree
tx32_tree =
    node 0 (leaf (tx_number T4x4))
    (node 1 (leaf (tx_number T8x8))
    (node 2 (leaf (tx_number T16x16)) (leaf (tx_number T32x32))))
