-- What tiles read of the blocks before them lies in their columns.
use Rattle.std.proofs.Common.{◌≡◌, ℕ, zero, suc, ◌+◌, ◌-◌, ◌^◌, ◌<◌, ◌≤◌, ◌∷◌, [], ◌∙◌, Bool, false, List, map, inl, inr, refl, sym, ap, arith, cond, min}
use Rattle.std.specs.Prelude.{Option, Some, None, nat_lt}
use Rattle.std.specs.List.{range_with_len}
use Rattle.std.proofs.lemmas.Bool.{cases_Bool, cases_lt, lt-ltb, le-ltb}
use Rattle.std.proofs.lemmas.Bool.Decides.{nat_tests}
use Rattle.vp9_types.specs.declared.block.Modes.{Modes}
use Rattle.frame_headers.specs.declared.header.Header.{Header}
use Rattle.prob_contexts.specs.ProbLists.{ContextLists}
use Rattle.block_geometry.specs.SplitSquares.{square, partition_context}
use Rattle.block_geometry.specs.declared.transform_blocks.FramePlaces.{FramePlaces}
use Rattle.block_plan.specs.Blocks.{covers, or_else, covering, above_place, left_place}
use Rattle.block_plan.specs.declared.block.BlockAt.{BlockAt}
use Rattle.block_plan.specs.declared.block.BlockInfo.{BlockInfo}
use Rattle.mode_syntax.specs.declared.square_at.SquareAt.{SquareAt}
use Rattle.mode_syntax.specs.IntraModeInfo.{intra_frame_mode_info, mode_info_beside}
use Rattle.mode_syntax.specs.Partitions.{partition, half_of, partition_probs, width_beside, height_beside, widths_above, heights_left, square_context, partition_at}
use Rattle.mode_syntax.specs.Laws.{SameIn, reaches_into, in_columns}

other_none : {A : Type 0} (x : Option A) → or_else x None ≡ x
other_none None = refl
other_none (Some x) = refl

-- what doesn't reach into columns covers none of their places
not_covered : (from to : ℕ) (b : BlockInfo) (r c : ℕ) → from ≤ c → c < to → reaches_into from to b ≡ false → covers b r c ≡ false
not_covered from to b r c low high out = elim (cases_lt c b.col) [
  | inl before ↦ grind (arith, nat_tests)
  | inr behind ↦ grind (arith, nat_tests)
]

pub in_columns_same : (from to : ℕ) (xs : List BlockInfo) → SameIn from to (in_columns from to xs) xs
unfolding covering
in_columns_same from to [] r c low high = refl
in_columns_same from to (b ∷ xs) r c low high = elim (cases_Bool (reaches_into from to b)) [
  | inl one ↦ rw one (ap (λ o. or_else o (cond (covers b r c) (Some b) None)) (in_columns_same from to xs r c low high))
  | inr none ↦ rw (none, not_covered from to b r c low high none) (in_columns_same from to xs r c low high ∙ sym (other_none (covering xs r c)))
]

same_above : (from to : ℕ) (xs ys : List BlockInfo) → SameIn from to xs ys → (r c : ℕ) → from ≤ c → c < to → above_place xs r c ≡ above_place ys r c
unfolding above_place
same_above from to xs ys same r c low high = ap (λ o. cond (nat_lt 0 r) o None) (same (r - 1) c low high)

same_left : (from to : ℕ) (xs ys : List BlockInfo) → SameIn from to xs ys → (r c : ℕ) → c ≤ to → left_place xs from r c ≡ left_place ys from r c
unfolding left_place
same_left from to xs ys same r c high = elim (cases_lt from c) [
  | inl inner ↦ rw (lt-ltb from c inner) (same r (c - 1) (omega arith) (omega arith))
  | inr edge ↦ rw (le-ltb from c edge) refl
]

mapped_range : {X : Type 0} (f g : ℕ → X) (a n : ℕ) → ((k : ℕ) → a ≤ k → k < a + n → f k ≡ g k) → map f (range_with_len a n) ≡ map g (range_with_len a n)
mapped_range f g a zero same = refl
mapped_range f g a (suc n) same =
    ap (λ x. x ∷ map f (range_with_len (a + 1) n)) (same a (omega arith) (omega arith))
    ∙ ap (λ l. g a ∷ l) (mapped_range f g (a + 1) n (λ k low high. same k (omega arith) (omega arith)))

same_widths : (from to : ℕ) (xs ys : List BlockInfo) → SameIn from to xs ys → (row col n : ℕ) → from ≤ col → n ≤ to - col → widths_above xs row col n ≡ widths_above ys row col n
unfolding widths_above
same_widths from to xs ys same row col n low few =
    mapped_range (λ k. width_beside (above_place xs row (col + k))) (λ k. width_beside (above_place ys row (col + k))) 0 n
    (λ k a b. ap width_beside (same_above from to xs ys same row (col + k) (omega arith) (omega arith)))

same_heights : (from to : ℕ) (xs ys : List BlockInfo) → SameIn from to xs ys → (row col n : ℕ) → col ≤ to → heights_left xs from row col n ≡ heights_left ys from row col n
unfolding heights_left
same_heights from to xs ys same row col n high =
    mapped_range (λ k. height_beside (left_place xs from (row + k) col)) (λ k. height_beside (left_place ys from (row + k) col)) 0 n
    (λ k a b. ap height_beside (same_left from to xs ys same (row + k) col high))

same_context : (frame : FramePlaces) (at : SquareAt) (xs ys : List BlockInfo) → SameIn at.tile_from at.tile_to xs ys → at.tile_from ≤ at.col → at.col < at.tile_to
    → square_context xs frame at ≡ square_context ys frame at
unfolding square_context
same_context frame at xs ys same low high =
    ap (λ w. partition_context (square at.level) w (heights_left xs at.tile_from at.row at.col (min (2 ^ at.level) (frame.rows - at.row))))
    (same_widths at.tile_from at.tile_to xs ys same at.row at.col (min (2 ^ at.level) (at.tile_to - at.col)) low (omega arith))
    ∙ ap (λ h. partition_context (square at.level) (widths_above ys at.row at.col (min (2 ^ at.level) (at.tile_to - at.col))) h)
    (same_heights at.tile_from at.tile_to xs ys same at.row at.col (min (2 ^ at.level) (frame.rows - at.row)) (omega arith))

pub same_partition : (intra : Bool) (probs : List ℕ) (frame : FramePlaces) (at : SquareAt) (xs ys : List BlockInfo) → SameIn at.tile_from at.tile_to xs ys → at.tile_from ≤ at.col → at.col < at.tile_to
    → partition_at intra probs xs frame at ≡ partition_at intra probs ys frame at
unfolding partition_at
same_partition intra probs frame at xs ys same low high =
    ap (λ k. partition (nat_lt (at.row + half_of at.level) frame.rows) (nat_lt (at.col + half_of at.level) frame.cols) (partition_probs intra probs k) k) (same_context frame at xs ys same low high)

pub same_modes : (header : Header) (modes : Modes) (contexts : ContextLists) (at : BlockAt) (xs ys : List BlockInfo) → SameIn at.tile_from at.tile_to xs ys → at.tile_from ≤ at.col → at.col < at.tile_to
    → intra_frame_mode_info header modes contexts xs at ≡ intra_frame_mode_info header modes contexts ys at
unfolding intra_frame_mode_info
same_modes header modes contexts at xs ys same low high =
    ap (λ o. mode_info_beside header.params.segmentation modes.tx_mode contexts o (left_place xs at.tile_from at.row at.col) at) (same_above at.tile_from at.tile_to xs ys same at.row at.col low high)
    ∙ ap (λ o. mode_info_beside header.params.segmentation modes.tx_mode contexts (above_place ys at.row at.col) o at) (same_left at.tile_from at.tile_to xs ys same at.row at.col (omega arith))
